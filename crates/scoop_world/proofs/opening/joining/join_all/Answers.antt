-- Each client joins, and the keeper then has its incarnation.
use Rattle.std.proofs.Common.{ℕ, ◌+◌, get_or, map, List, sym, ap, ◌∙◌, subst, arith}
use Rattle.std.specs.List.{AllByRecursion}
use Rattle.std.proofs.lemmas.List.{take_all, take_more}
use Rattle.std.proofs.lemmas.Option.{slice_get-get_or, slice_get_within}
use Rattle.scoop_message.specs.declared.name.ClientId.{ClientId}
use Rattle.scoop_keeper.specs.Memory.{incarnation_at}
use Rattle.scoop_model.specs.World.{Party}
use Rattle.scoop_world.specs.Kept.{HasIncarnation}
use Rattle.scoop_model.specs.Step.{new_party}
use Rattle.scoop_world.specs.Placing.{newcomers_of}
use Rattle.scoop_world.proofs.Joins.{Joined, joined_more, all_stored, not_joined, err_passes}
use Rattle.scoop_world.proofs.opening.joining.join_all.Goals as goal

pub returns-in_err-party-clause-refused : goal.returns-in_err-party-clause-refused
returns-in_err-party-clause-refused g c =
    let cs = c.args.clients.now in
    let i = c.loop-client.client-index in
    let none : ClientId × ℕ = (record { 0 = 0 }, 0) in
    err_passes c.from_residual.result _ _ c.from_residual.ensures.1
    (λ e is.
    not_joined c.args.handlers.now c.args.keeper.now cs i c.loop-client.parties.items c.loop-client.keeper none e c.loop-client.invariant
    c.loop-client-test.true
    (rw is c.in_err-party.ensures.refused))

pub loop-client-preserved : goal.loop-client-preserved
loop-client-preserved g c =
    let hs = c.args.handlers.now in
    let before = c.args.keeper.now in
    let cs = c.args.clients.now in
    let i = c.loop-client.client-index in
    let none : ClientId × ℕ = (record { 0 = 0 }, 0) in
    let client = get_or cs i none in
    subst (λ (ps : List Party). Joined hs before cs (i + 1) ps c.join.new.keeper) (sym c.in_ok-push.ensures.items)
    (joined_more hs before cs i c.loop-client.parties.items c.loop-client.keeper c.join.new.keeper client c.in_ok-party.party
    c.loop-client.invariant c.requires.apart (slice_get-get_or cs i none c.loop-client-test.true) (take_more cs i none c.loop-client-test.true)
    c.in_ok-party.ensures.party c.in_ok-party.ensures.joining c.in_ok-party.ensures.stored c.in_ok-party.ensures.states)

pub returns-clause-stored : goal.returns-clause-stored
returns-clause-stored g c =
    let so = c.loop-client.invariant in
    let hs = c.args.handlers.now in
    let cs = c.args.clients.now in
    let i = c.loop-client.client-index in
    let s = incarnation_at c.args.keeper.now in
    let k = c.loop-client.keeper in
    subst (AllByRecursion (HasIncarnation k)) (ap (λ xs. map new_party (newcomers_of hs s xs)) (sym (take_all i cs c.loop-client-test.false))
    ∙ sym so.parties)
    (all_stored hs s k cs (λ j d at. let within = slice_get_within cs j d at in so.next j d (omega (arith, within, c.loop-client-test.false)) at))

pub join-requires : goal.join-requires
join-requires g c = c.requires.batched c.loop-client.client-index (record { 0 = 0 }, 0) c.loop-client-test.true
