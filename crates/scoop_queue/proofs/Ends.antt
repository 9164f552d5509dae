-- The place of an End in a list of entries.
use Rattle.std.proofs.Common.{◌≡◌, ◌<◌, Bool, true, false, not, ◌&&◌, IsTrue, List, [], ◌∷◌, ◌++◌, length, refl, arith, rules}
use Rattle.scoop_message.specs.declared.request.Entry.{Entry}
use Rattle.scoop_message.specs.Entry.{is_end}
use Rattle.scoop_message.specs.Entries.{EndOnlyLast, end_only_last, ends}

-- entries that are put after others decide
pub ends-append : (xs ys : List Entry) → 0 < length ys → ends (xs ++ ys) ≡ ends ys
ends-append [] ys some = refl
ends-append (x ∷ []) [] some = absurd (omega arith)
ends-append (x ∷ []) (y ∷ ys) some = refl
ends-append (x ∷ z ∷ xs) ys some = ends-append (z ∷ xs) ys some

pub both : (s t : Bool) → IsTrue (s && t) → IsTrue s × IsTrue t
both true t h = (search rules, h)
both false t h = absurd (search rules)

-- after entries without an End, the last may be an End
pub EndOnlyLast-append : (xs ys : List Entry) → EndOnlyLast xs → ends xs ≡ false → EndOnlyLast ys → EndOnlyLast (xs ++ ys)
EndOnlyLast-append [] ys h open_end k = k
EndOnlyLast-append (x ∷ []) [] h open_end k = h
EndOnlyLast-append (x ∷ []) (y ∷ ys) h open_end k = rw open_end k
EndOnlyLast-append (x ∷ z ∷ xs) ys h open_end k =
    let p = both (not (is_end x)) (end_only_last (z ∷ xs)) h in
    rw (p.0) (EndOnlyLast-append (z ∷ xs) ys p.1 open_end k)

pub EndOnlyLast-tail : (e : Entry) (es : List Entry) → EndOnlyLast (e ∷ es) → EndOnlyLast es
EndOnlyLast-tail e [] h = refl
EndOnlyLast-tail e (f ∷ es) h = (both (not (is_end e)) (end_only_last (f ∷ es)) h).1
