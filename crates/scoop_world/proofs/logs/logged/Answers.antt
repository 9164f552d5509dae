use Rattle.std.proofs.Common.{List, map, sym, ap, ◌∙◌}
use Rattle.scoop_world.specs.declared.logs.LoggedAt.{LoggedAt}
use Rattle.scoop_world.specs.Kept.{entries_in, logged_kept, logs_kept}
use Rattle.scoop_world.proofs.LogLists.{shares-place, no_shares}
use Rattle.scoop_world.proofs.logs.logged.Goals as goal

pub returns-in-Some : goal.returns-in-Some
returns-in-Some g c =
    let h = c.args.handler in
    c.logged_in.ensures
    ∙ ap (λ (ls : List (LoggedAt g.row.A.Denot)). entries_in h (map logged_kept ls)) c.deref.ensures.value
    ∙ ap (entries_in h) (sym (shares-place c.args.block c.index.result.now c.args.logs.now.entries c.in-Some.place c.in-Some.ensures.place c.index.ensures))

pub returns-in-None : goal.returns-in-None
returns-in-None g c = sym (ap (entries_in c.args.handler) (no_shares c.args.block (logs_kept c.args.logs.now.entries) c.in-None.ensures.place))
