-- Whether a list of entries ends.
use Rattle.std.proofs.Common.{◌≡◌, ℕ, zero, suc, ◌+◌, List, [], ◌∷◌, length, get_or, sym, ap, arith}
use Rattle.scoop_message.specs.declared.request.Entry.{Entry}
use Rattle.scoop_message.specs.Entry.{is_end}
use Rattle.scoop_message.specs.Entries.{ends}

-- the last entry decides
pub ends-last : (es : List Entry) (i : ℕ) (x : Entry) → i + 1 ≡ length es → x ≡ get_or es i x → ends es ≡ is_end x
ends-last [] i x last is = absurd (omega arith)
ends-last (e ∷ []) zero x last is = ap is_end (sym is)
ends-last (e ∷ []) (suc i) x last is = absurd (omega arith)
ends-last (e ∷ f ∷ es) zero x last is = absurd (omega arith)
ends-last (e ∷ f ∷ es) (suc i) x last is = ends-last (f ∷ es) i x (omega arith) is
