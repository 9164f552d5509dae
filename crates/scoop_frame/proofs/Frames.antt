-- Frames by their fields.
use Rattle.std.proofs.Common.{◌≡◌, ◌≢◌, ℕ, zero, suc, ◌<◌, ◌≤◌, List, [], length, refl, sym, ap, arith, inl, inr}
use Rattle.scoop_message.specs.declared.name.HandlerId.{HandlerId}
use Rattle.scoop_message.specs.declared.name.Block.{Block}
use Rattle.scoop_message.specs.declared.request.Entry.{Entry}
use Rattle.scoop_message.specs.declared.request.Answer.{Answer}
use Rattle.scoop_message.specs.declared.message.Message.{Message}
use Rattle.scoop_message.specs.declared.message.Message.TheVariants as m
use Rattle.scoop_message.specs.Message.{IsNumbered, IsEntryOf}
use Rattle.scoop_message.specs.Range.{IsClient, IsBlock}
use Rattle.scoop_frame.specs.declared.version.Version.{Version}
use Rattle.scoop_frame.specs.declared.header.Header.{Header}
use Rattle.scoop_frame.specs.declared.kind.Kind.{Kind}
use Rattle.scoop_frame.specs.Kind.{code}
use Rattle.scoop_frame.specs.Frame.{header, layout, no_block, body_of}
use Rattle.scoop_frame.specs.Header.{framed, IsSound, IsBodyOf}

pub length-header : (v : Version) (k : ℕ) (h : HandlerId) (b : Block) (n l : ℕ) → length (header v k h b n l) ≡ 26
unfolding header
length-header v k h b n l = refl

-- only Logs and Answers have a body
pub no_body : (v : Version) (x : Message) → ((h : HandlerId) (b : Block) (n : ℕ) (es : List Entry) → x ≢ m.Log h b n es)
    → ((h : HandlerId) (b : Block) (n : ℕ) (a : Answer) → x ≢ m.Answer h b n a) → body_of v x ≡ []
no_body v (m.Log h b n es) p q = absurd (p h b n es refl)
no_body v (m.Answer h b n a) p q = absurd (q h b n a refl)
no_body v x p q = refl

pub body_in_range : (x : Message) → ((h : HandlerId) (b : Block) (n : ℕ) (es : List Entry) → x ≢ m.Log h b n es)
    → ((h : HandlerId) (b : Block) (n : ℕ) (a : Answer) → x ≢ m.Answer h b n a) → IsBodyOf x
body_in_range (m.Log h b n es) p q = absurd (p h b n es refl)
body_in_range (m.Answer h b n a) p q = absurd (q h b n a refl)
body_in_range x p q = tt

zero_from_not : (x : ℕ) → (x ≢ 0 → ⊥) → x ≡ 0
zero_from_not zero p = refl
zero_from_not (suc x) p = absurd (p (λ e. omega (arith, e)))

one_from_not : (x : ℕ) → x ≢ 0 → 1 ≤ x
one_from_not zero p = absurd (p refl)
one_from_not (suc x) p = omega arith

-- a sound header of a message, for each group of kinds
module _ (h : Header) (x : Kind) (kind-is : h.kind ≡ x) (sound : IsSound h) where
  code-is : code h.kind ≡ code x
  code-is = ap code kind-is

  no_num : code x < 3 → h.block.num ≡ 0
  no_num lt = zero_from_not h.block.num (λ ne. sound.unused (inl ((λ uses. omega (arith, uses, lt, code-is)), ne)))

  no_number : code x < 10 → h.number ≡ 0
  no_number lt = zero_from_not h.number (λ ne. sound.unused (inr ((λ uses. omega (arith, uses, lt, code-is)), ne)))

  has_inc : 1 ≤ h.block.inc
  has_inc = one_from_not h.block.inc (λ e. sound.lacking (inl e))

  has_num : 3 ≤ code x → 1 ≤ h.block.num
  has_num le = one_from_not h.block.num (λ e. sound.lacking (inr (inl (omega (arith, le, code-is), e))))

  has_number : 10 ≤ code x → 1 ≤ h.number
  has_number le = one_from_not h.number (λ e. sound.lacking (inr (inr (omega (arith, le, code-is), e))))

  pub of_greeting : code x < 3 → (1 ≤ h.block.inc) × IsClient h.handler h.block.client h.block.inc
      × (layout h.version (code x) h.handler (no_block h.block.client h.block.inc) 0 [] ≡ framed h [])
  of_greeting lt =
      let num = no_num lt in
      let number = no_number (omega (arith, lt)) in (
        has_inc,
        sound.numbers.block.client,
        λ j. layout h.version (sym code-is j) h.handler
            (record { client = h.block.client; inc = h.block.inc; num = sym num j }) (sym number j) [],
      )

  pub of_block : 3 ≤ code x → code x < 10 → IsNumbered h.block × IsBlock h.handler h.block
      × (layout h.version (code x) h.handler h.block 0 [] ≡ framed h [])
  of_block le lt =
      let number = no_number lt in
      (record { inc = has_inc; num = has_num le }, sound.numbers.block, λ j. layout h.version (sym code-is j) h.handler h.block (sym number j) [])

  pub of_entry : 10 ≤ code x → (body : List ℕ) → IsEntryOf h.block h.number
      × (layout h.version (code x) h.handler h.block h.number body ≡ framed h body)
  of_entry le body = (
    record { block = record { inc = has_inc; num = has_num (omega (arith, le)) }; number = has_number le },
    λ j. layout h.version
        (sym code-is j) h.handler h.block h.number body,
  )
