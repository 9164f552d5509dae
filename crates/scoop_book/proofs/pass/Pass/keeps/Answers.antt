use Rattle.std.proofs.Common.{ap, sym, ◌∙◌}
use Rattle.std.specs.Option.{option_map}
use Rattle.scoop_book.specs.Passes.{PassValue}
use Rattle.scoop_book.proofs.NodeLemmas.{keeps_is}
use Rattle.scoop_book.proofs.pass.Pass.keeps.Goals as goal

pub returns-in-Some : goal.returns-in-Some
returns-in-Some g c =
    keeps_is c.args.self.now.opening c.in-Some.kept.items c.deref.result.now c.args.opening.now
    (ap (λ (p : PassValue). p.opening) (sym c.self.view_is) ∙ ap (option_map (λ o. o.items)) c.in-Some.is) c.deref.ensures.value c.are_same.ensures
