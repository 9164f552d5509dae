-- Bytes are a frame, or one refusal is the first that applies.
use Rattle.std.proofs.Common.{◌≡◌, ◌≢◌, ℕ, ◌+◌, ◌<◌, ◌≤◌, List, [], ◌∷◌, length, take, drop, sym, ap, ◌∙◌, arith, inl, inr}
use Rattle.std.proofs.lemmas.Bool.{cases_lt}
use Rattle.std.proofs.lemmas.List.{length-drop}
use Rattle.scoop_frame.specs.declared.version.Version.{Version}
use Rattle.scoop_frame.specs.declared.version.Version.TheVariants.{One, Two}
use Rattle.scoop_frame.specs.declared.error.FrameError.{FrameError}
use Rattle.scoop_frame.specs.declared.error.FrameError.TheVariants.{Short, BadMagic, BadVersion, BadKind, LengthWrong, FieldNotZero, FieldZero, BadBody}
use Rattle.scoop_frame.specs.declared.header.Header.{Header}
use Rattle.scoop_frame.specs.declared.kind.Kind.{Kind}
use Rattle.scoop_frame.specs.declared.kind.Kind.TheVariants as k
use Rattle.scoop_frame.specs.Version.{version_byte}
use Rattle.scoop_frame.specs.Fault.{kind_at, version_at, inc_at, num_at, number_at, body_len_at, HasUnused, LacksNumber, IsFault, PassesBelow, IsFirstFault}
use Rattle.scoop_frame.specs.Fault.{rank}
use Rattle.scoop_frame.specs.Frame.{header}
use Rattle.scoop_frame.specs.Header.{IsHeader, IsSound, HasItsBody}
use Rattle.scoop_frame.specs.Kind.{code}

pub code_range : (x : Kind) → (1 ≤ code x) × (code x ≤ 12)
code_range k.Hello = (omega arith, omega arith)
code_range k.Welcome = (omega arith, omega arith)
code_range k.Lock = (omega arith, omega arith)
code_range k.Locked = (omega arith, omega arith)
code_range k.Busy = (omega arith, omega arith)
code_range k.Open = (omega arith, omega arith)
code_range k.Opened = (omega arith, omega arith)
code_range k.Unlock = (omega arith, omega arith)
code_range k.Unlocked = (omega arith, omega arith)
code_range k.Log = (omega arith, omega arith)
code_range k.Logged = (omega arith, omega arith)
code_range k.Answer = (omega arith, omega arith)

-- a version's byte is no bad version
known_version : (v : Version) (n : ℕ) → version_byte v ≡ n → n ≢ 1 → n ≢ 2 → ⊥
known_version One n e p q = p (sym e)
known_version Two n e p q = q (sym e)

-- ---- one refusal more

passes_more : (n : ℕ) (b : List ℕ) → PassesBelow n b → ((e : FrameError) → rank e ≡ n → IsFault e b → ⊥) → PassesBelow (n + 1) b
passes_more n b below here e lt f =
    elim (cases_lt (rank e) n) [
      | inl less ↦ below e less f
      | inr le ↦ here e (omega (arith, lt, le)) f
    ]

at_six : (e : FrameError) (b : List ℕ) → rank e ≡ 6 → IsFault e b → IsFault FieldNotZero b
at_six FieldNotZero b r f = f
at_six e b r f = absurd (omega (arith, r))

at_seven : (e : FrameError) (b : List ℕ) → rank e ≡ 7 → IsFault e b → IsFault FieldZero b
at_seven FieldZero b r f = f
at_seven e b r f = absurd (omega (arith, r))

at_eight : (e : FrameError) (b : List ℕ) → rank e ≡ 8 → IsFault e b → IsFault BadBody b
at_eight BadBody b r f = f
at_eight e b r f = absurd (omega (arith, r))

rank_limit : (e : FrameError) → rank e < 9
rank_limit Short = omega arith
rank_limit e = omega arith

-- ---- bytes with a header

module _ (b : List ℕ) (h : Header) (p : IsHeader b h) where
  version_is : version_at b ≡ version_byte h.version
  unfolding header
  version_is = ap version_at p.bytes

  kind_is : kind_at b ≡ code h.kind
  unfolding header
  kind_is = ap kind_at p.bytes

  inc_is : inc_at b ≡ h.block.inc
  unfolding header
  inc_is = omega (arith, ap inc_at p.bytes, p.numbers.block.client.incarnation)

  num_is : num_at b ≡ h.block.num
  unfolding header
  num_is = omega (arith, ap num_at p.bytes, p.numbers.block.num)

  number_is : number_at b ≡ h.number
  unfolding header
  number_is = omega (arith, ap number_at p.bytes, p.numbers.number)

  body_len_is : body_len_at b ≡ length (drop 26 b)
  unfolding header
  body_len_is = omega (arith, ap body_len_at p.bytes, p.body)

  magic_is : take 2 b ≡ 0x53 ∷ 0x51 ∷ []
  unfolding header
  magic_is = ap (take 2) p.bytes

  -- none of the first five refusals applies
  passes_five : PassesBelow 6 b
  passes_five Short lt f = omega (arith, f, p.long)
  passes_five BadMagic lt f = f magic_is
  passes_five (BadVersion v) lt f = known_version h.version v (sym version_is ∙ f.0) f.1 f.2
  passes_five (BadKind x) lt f =
      elim f.1 [
        | inl low ↦ omega (arith, low, f.0, kind_is, (code_range h.kind).0)
        | inr high ↦ omega (arith, high, f.0, kind_is, (code_range h.kind).1)
      ]
  passes_five LengthWrong lt f = f (omega (arith, body_len_is, length-drop 26 b, p.long))
  passes_five FieldNotZero lt f = omega (arith, lt)
  passes_five FieldZero lt f = omega (arith, lt)
  passes_five BadBody lt f = omega (arith, lt)

  pub is_not_zero : HasUnused (code h.kind) h.block.num h.number → IsFirstFault FieldNotZero b
  is_not_zero u = record {
    applies = rw (kind_is, num_is, number_is) u;
    first = passes_five;
  }

  passes_six : (HasUnused (code h.kind) h.block.num h.number → ⊥) → PassesBelow 7 b
  passes_six idle = passes_more 6 b passes_five (λ e r f. let g : IsFault FieldNotZero b = at_six e b r f in idle (rw (kind_is, num_is, number_is) at g))

  pub is_zero : (HasUnused (code h.kind) h.block.num h.number → ⊥) → LacksNumber (code h.kind) h.block.inc h.block.num h.number → IsFirstFault FieldZero b
  is_zero idle l = record {
    applies = rw (kind_is, inc_is, num_is, number_is) l;
    first = passes_six idle;
  }

  passes_seven : IsSound h → PassesBelow 8 b
  passes_seven s = passes_more 7 b (passes_six s.unused) (λ e r f. let g : IsFault FieldZero b = at_seven e b r f in
      s.lacking (rw (kind_is, inc_is, num_is, number_is) at g))

  pub is_bad_body : IsSound h → (HasItsBody h (drop 26 b) → ⊥) → IsFirstFault BadBody b
  is_bad_body s other = record {
    applies = rw (version_is, kind_is, number_is) other;
    first = passes_seven s;
  }

  -- no refusal applies
  pub passes_all : IsSound h → HasItsBody h (drop 26 b) → (e : FrameError) → IsFault e b → ⊥
  passes_all s body e f =
      passes_more 8 b (passes_seven s) (λ d r g. let bad : IsFault BadBody b = at_eight d b r g in bad (rw (version_is, kind_is, number_is) body)) e
      (rank_limit e) f
