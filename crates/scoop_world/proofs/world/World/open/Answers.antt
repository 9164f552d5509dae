use Rattle.scoop_world.proofs.KeptPlaces.{all_by_place}
use Rattle.std.proofs.Common.{◌≡◌, map, sym, ap, ◌∙◌, subst}
use Rattle.std.specs.List.{AllByRecursion}
use Rattle.scoop_keeper.specs.Memory.{incarnation_at}
use Rattle.scoop_model.specs.Reach.{IsReached}
use Rattle.scoop_model.specs.Step.{new_party}
use Rattle.scoop_model.specs.Opening.{IsJoining}
use Rattle.scoop_world.specs.Placing.{newcomers_of, placements_of, IsBatched}
use Rattle.scoop_world.specs.OpenRefusal.{MayPlace, handlers_of}
use Rattle.scoop_world.specs.Kept.{HasState}
use Rattle.scoop_rules.specs.Paper.{configuration_of, empty_configuration}
use Rattle.scoop_model.specs.World.{inc_of}
use Rattle.scoop_world.proofs.OpenedWorlds.{numbers_apart, states_own, may_open, opened_is, unopened, all_stored}
use Rattle.scoop_model.proofs.Reaching.{reached_opening}
use Rattle.scoop_model.proofs.Headline.{reached_safe}
use Rattle.scoop_rules.proofs.Follows.Runs.{opens_empty}
use Rattle.scoop_world.proofs.world.World.open.Goals as goal

pub returns-in-Err-clause-refused : goal.returns-in-Err-clause-refused
returns-in-Err-clause-refused g c =
    let ps = c.args.placements.items in
    let cs = c.args.clients.now in
    let may : MayPlace g.B.Behaviour.class ps cs = subst (λ xs. MayPlace g.B.Behaviour.class xs cs) c.deref.ensures.value c.in_default.ensures.none in
    unopened g.B.Behaviour.class ps cs (incarnation_at c.args.keeper) c.in-Err.error may c.in-Err.ensures.refused

pub store_all-requires-clause-apart : goal.store_all-requires-clause-apart
store_all-requires-clause-apart g c =
    let ps = c.args.placements.items in
    let cs = c.args.clients.now in
    let may : MayPlace g.B.Behaviour.class ps cs = subst (λ xs. MayPlace g.B.Behaviour.class xs cs) c.deref.ensures.value c.in_default.ensures.none in
    numbers_apart g.B.Behaviour.words ps c.deref-4.result.now (c.deref-4.ensures.value ∙ c.in_ok-sites.ensures.sites) may.apart

pub store_all-requires-clause-own : goal.store_all-requires-clause-own
store_all-requires-clause-own g c =
    states_own g.B.Behaviour.words c.args.placements.items c.deref-4.result.now (c.deref-4.ensures.value ∙ c.in_ok-sites.ensures.sites)

pub new-requires : goal.new-requires
new-requires g c =
    all_stored c.join_all.new.keeper c.store_all.new.keeper c.in_ok-sites.sites.items c.in-Ok.parties.items
    (subst (AllByRecursion (HasState c.store_all.new.keeper)) c.deref-4.ensures.value c.in-Ok-store_all.ensures.states)
    c.in-Ok-store_all.ensures.incarnations c.in-Ok.ensures.stored

pub invariant_of-result : goal.invariant_of-result
invariant_of-result g c =
    let ps = c.args.placements.items in
    let cs = c.args.clients.now in
    let stored = incarnation_at c.args.keeper in
    let words = g.B.Behaviour.words in
    let hs = c.in_ok-handlers.handlers.items in
    let may : MayPlace g.B.Behaviour.class ps cs = subst (λ xs. MayPlace g.B.Behaviour.class xs cs) c.deref.ensures.value c.in_default.ensures.none in
    let named : hs ≡ handlers_of ps = c.in_ok-handlers.ensures ∙ ap handlers_of c.deref-2.ensures.value in
    let joined : c.in-Ok.parties.items ≡ map new_party (newcomers_of hs stored cs) =
    c.in-Ok.ensures.parties ∙ ap (λ ks. map new_party (newcomers_of ks stored cs)) c.deref-3.ensures.value in
    let opened = opened_is words ps cs stored c.in_ok-sites.sites.items hs c.in-Ok.parties.items c.in_ok-sites.ensures.sites named joined in
    subst IsReached (sym (c.new.ensures ∙ opened)) (reached_opening (placements_of words ps) (newcomers_of (handlers_of ps) stored cs)
    (may_open words g.B.Behaviour.class ps cs stored may c.in_ok-sites.ensures.placed
    (subst (λ ks. AllByRecursion IsJoining (newcomers_of ks stored cs)) (c.deref-3.ensures.value ∙ named) c.in-Ok.ensures.joining)))

pub returns-clause-opens : goal.returns-clause-opens
returns-clause-opens g c =
    let ps = c.args.placements.items in
    let cs = c.args.clients.now in
    let stored = incarnation_at c.args.keeper in
    let hs = c.in_ok-handlers.handlers.items in
    let named : hs ≡ handlers_of ps = c.in_ok-handlers.ensures ∙ ap handlers_of c.deref-2.ensures.value in
    let joined : c.in-Ok.parties.items ≡ map new_party (newcomers_of hs stored cs) =
    c.in-Ok.ensures.parties ∙ ap (λ ks. map new_party (newcomers_of ks stored cs)) c.deref-3.ensures.value in
    c.new.ensures ∙ opened_is g.B.Behaviour.words ps cs stored c.in_ok-sites.sites.items hs c.in-Ok.parties.items c.in_ok-sites.ensures.sites named joined

-- each client that joined knows all handlers
pub returns-clause-joining : goal.returns-clause-joining
returns-clause-joining g c =
    subst (λ hs. AllByRecursion IsJoining (newcomers_of hs (incarnation_at c.args.keeper) c.args.clients.now))
    (c.deref-3.ensures.value ∙ c.in_ok-handlers.ensures ∙ ap handlers_of c.deref-2.ensures.value) c.in-Ok.ensures.joining

pub returns-clause-safe : goal.returns-clause-safe
returns-clause-safe g c =
    let ps = c.args.placements.items in
    let cs = c.args.clients.now in
    let stored = incarnation_at c.args.keeper in
    let words = g.B.Behaviour.words in
    let may : MayPlace g.B.Behaviour.class ps cs = subst (λ xs. MayPlace g.B.Behaviour.class xs cs) c.deref.ensures.value c.in_default.ensures.none in
    reached_safe c.new.result
    (subst IsReached (sym (returns-clause-opens g c)) (reached_opening (placements_of words ps) (newcomers_of (handlers_of ps) stored cs)
    (may_open words g.B.Behaviour.class ps cs stored may c.in_ok-sites.ensures.placed (returns-clause-joining g c))))

pub returns-clause-empty : goal.returns-clause-empty
returns-clause-empty g c =
    let ps = placements_of g.B.Behaviour.words c.args.placements.items in
    let ns = newcomers_of (handlers_of c.args.placements.items) (incarnation_at c.args.keeper) c.args.clients.now in
    subst (λ w. configuration_of w ≡ empty_configuration (inc_of w)) (sym (returns-clause-opens g c)) (opens_empty ps ns)

pub returns-clause-placed : goal.returns-clause-placed
returns-clause-placed g c = subst (λ xs. MayPlace g.B.Behaviour.class xs c.args.clients.now) c.deref.ensures.value c.in_default.ensures.none

pub join_all-requires-clause-batched : goal.join_all-requires-clause-batched
join_all-requires-clause-batched g c = λ k d within. all_by_place IsBatched c.args.clients.now c.requires k d within
