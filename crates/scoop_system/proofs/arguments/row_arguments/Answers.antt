use Rattle.std.proofs.Common.{◌≡◌, ◌∙◌, ap, sym, nat_le, rules}
use Rattle.scoop_system.proofs.ArgumentLemmas.{row_below}
use Rattle.scoop_system.specs.Arguments.{row_arguments}
use Rattle.scoop_system.proofs.arguments.row_arguments.Goals as goal

pub returns-clause-fewer : goal.returns-clause-fewer
returns-clause-fewer c n =
    let value : c.max-2.result ≡ row_arguments c.args.row.now = search rules in
    row_below n c.args.row.now ∙ ap (λ k. nat_le k n) (sym value)
