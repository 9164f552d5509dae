-- Events one after another, with others to follow.
use Rattle.scoop_weave.proofs.Names.{◌≡◌, ℕ, ◌+◌, List, [], ◌∷◌, ◌++◌, length, sym, ap, ◌∙◌, arith, append-nil, append_assoc, Ok, Event, World, step, Leads}
use Rattle.std.proofs.Common.{length-append}
use Rattle.scoop_model.specs.declared.note.WorldNote.{WorldNote}
use Rattle.scoop_model.specs.Reach.{next, run_after}

-- none of the events is refused, and whatever follows them goes on from the new world
abbrev pub Brings : World → List Event → World → Type 0
Brings v es w = (n : ℕ) (rest : List Event) → run_after n v (es ++ rest) ≡ run_after (n + length es) w rest

pub brings_none : (v w : World) → v ≡ w → Brings v [] w
brings_none v w same n rest = grind arith

pub brings_one : (v w u : World) (e : Event) (told : WorldNote) → step v e ≡ Ok (u, told) → u ≡ w → Brings v (e ∷ []) w
brings_one v w u e told is same n rest = ap (next n v (λ x. run_after (n + 1) x rest)) is ∙ ap (λ x. run_after (n + 1) x rest) same

pub brings_both : (v u w : World) (es fs : List Event) → Brings v es u → Brings u fs w → Brings v (es ++ fs) w
brings_both v u w es fs first then_on n rest = grind (arith, length-append, append_assoc)

pub brings_leads : (v w : World) (es : List Event) → Brings v es w → Leads v es w
brings_leads v w es brings =
    let count : 0 + length es ≡ length es = omega arith in
    ap (run_after 0 v) (sym (append-nil es)) ∙ brings 0 [] ∙ ap (λ k. run_after k w []) count
