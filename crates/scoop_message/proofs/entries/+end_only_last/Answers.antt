use Rattle.std.proofs.Common.{◌≡◌, true, List, [], ◌∷◌, length, refl, arith}
use Rattle.scoop_message.specs.declared.request.Entry.{Entry}
use Rattle.scoop_message.specs.Entries.{end_only_last}
use Rattle.scoop_message.proofs.entries.+end_only_last.Goals as goal

single : (es : List Entry) → length es ≡ 1 → true ≡ end_only_last es
single [] h = refl
single (e ∷ []) h = refl
single (e ∷ f ∷ es) h = absurd (omega (arith, h))

pub returns-in-len1 : goal.returns-in-len1
returns-in-len1 t c = single c.args.entries.now (omega arith)
