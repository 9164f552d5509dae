use Rattle.std.proofs.Common.{ap}
use Rattle.std.specs.Option.{option_map}
use Rattle.scoop_book.proofs.NodeLemmas.{fresh_first, fresh_other}
use Rattle.scoop_book.proofs.pass.fresh.Goals as goal
use Rattle.scoop_book.proofs.pass.fresh.Goals.{then-number-eq0+in_ok-copy_all, else-number-eq0}

pub returns : goal.returns
returns g c =
    elim c.if-number-eq0.branch [
      | then-number-eq0+in_ok-copy_all w ↦
          fresh_first c.args.number c.args.opening.now _ _ c.new.result.entries w.if-number-eq0.true (ap (option_map (λ o. o.items)) w.kept-is)
          w.in_ok-copy_all.ensures c.new.ensures
      | else-number-eq0 w ↦
          fresh_other c.args.number c.args.opening.now _ c.new.result.entries w.if-number-eq0.false (ap (option_map (λ o. o.items)) w.kept-is) c.new.ensures
    ]
