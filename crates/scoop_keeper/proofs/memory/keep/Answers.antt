use Rattle.std.proofs.Common.{nat_cmp, sym, ap, ◌∙◌}
use Rattle.std.specs.BTreeMap.{is_at}
use Rattle.std.specs.Map.{set_value}
use Rattle.std.proofs.lemmas.Map.Steps.{set_value_same}
use Rattle.scoop_queue.proofs.Results.{on-err}
use Rattle.scoop_keeper.proofs.MemoryLemmas.{puts_copy}
use Rattle.scoop_keeper.proofs.memory.keep.Goals as goal

pub returns-in-Some-clause-err : goal.returns-in-Some-clause-err
returns-in-Some-clause-err g c =
    let test = is_at (nat_cmp c.handler-handler.result.0) in
    on-err c.copy_from.result
    (λ same. (c.get_mut.follows.holds c.copy_from.new.self).0 ∙ ap (set_value test c.args.states.now.entries) same
    ∙ set_value_same test c.args.states.now.entries c.in-Some.kept.now (sym c.in-Some.ensures.value))
    c.copy_from.ensures.err

pub returns-in-Ok-clause-ok : goal.returns-in-Ok-clause-ok
returns-in-Ok-clause-ok g c =
    puts_copy c.args.states.now.entries c.insert.new.self.entries c.handler-handler.result c.in_ok-copy.copy c.args.state.now c.in_ok-copy.ensures
    c.handler-handler.ensures.value
    (λ q. rw c.get_mut.follows.holds-at-none at (c.in-Ok.ensures.updates.0 q))
