use Rattle.std.proofs.Common.{sym, ◌∙◌}
use Rattle.scoop_calm.proofs.choosing.next_of.Goals as goal

pub returns-clause-calm : goal.returns-clause-calm
returns-clause-calm g c =
    let exactly = c.calm_has_no_next.ensures c.args.world.now c.in_ok-states.ensures.reached in
    (λ none. exactly.0 (sym c.first_of.ensures ∙ none), λ calm. c.first_of.ensures ∙ exactly.1 calm)
