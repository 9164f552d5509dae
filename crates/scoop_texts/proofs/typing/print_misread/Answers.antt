use Rattle.std.proofs.Common.{ℕ, List, [], ◌∷◌, ◌++◌, OnOk, subst}
use Rattle.std.specs.Fmt.{decimal}
use Rattle.std.specs.Io.KnownBytes.{Appends}
use Rattle.std.specs.Prelude.{codes}
use Rattle.scoop_system.specs.LineText.{fault_text_in}
use Rattle.scoop_texts.proofs.typing.print_misread.Goals as goal

pub returns : goal.returns
returns g c =
    let Told : List ℕ → Type 0 = λ advice.
    OnOk c.writeln.result (Appends (g.N.Write.contents c.args.notes.now) (g.N.Write.contents c.writeln.new.self)
    (codes "scoop: line " ++ (decimal c.args.number ++ (codes ": " ++ (fault_text_in c.args.system.now c.args.fault
    ++ (10 ∷ codes "hint: " ++ (advice ++ 10 ∷ []))))))) in
    subst Told c.advice-advice.ensures c.writeln.ensures.bytes
