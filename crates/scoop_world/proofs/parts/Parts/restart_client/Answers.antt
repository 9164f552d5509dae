use Rattle.scoop_model.proofs.Order.Facts.{all_at}
use Rattle.std.proofs.Common.{◌≡◌, ℕ, ◌+◌, List, Ok, set, sym, ap, ◌∙◌, subst}
use Rattle.scoop_keeper.specs.Memory.{MemoryRecord, incarnation_at}
use Rattle.scoop_keeper.specs.Keeper.{Sets}
use Rattle.scoop_model.specs.declared.note.WorldNote.TheVariants as note
use Rattle.scoop_model.specs.World.{Party, id_of, is_party}
use Rattle.scoop_keeper.specs.Keyed.{IsFirst}
use Rattle.scoop_keeper.proofs.Keyed.{item_at}
use Rattle.scoop_world.specs.Kept.{HasAll, logs_kept, world_kept, HasIncarnation}
use Rattle.scoop_world.proofs.KeptPlaces.{has_party, has_incarnation}
use Rattle.scoop_world.proofs.TakenEvents.{apart_parties, same_party, restarted_there, restart_refused}
use Rattle.scoop_world.proofs.parts.Parts.restart_client.Goals as goal
use Rattle.scoop_world.proofs.parts.Parts.restart_client.Goals.{in-Ok, in-Err}

pub invariant_of-self : goal.invariant_of-self
invariant_of-self g c =
    let p = c.index_mut-party.result.now in
    let q = c.restart.new.self in
    let first : IsFirst (is_party c.args.client) c.self.inside.parties.items c.in-Some.at =
    subst (λ (xs : List Party). IsFirst (is_party c.args.client) xs c.in-Some.at) c.deref.ensures.value c.in-Some.ensures in
    let there = item_at c.self.inside.parties.items c.in-Some.at p first.within c.index_mut-party.ensures.value in
    elim c.match-restart.branch [
      | in-Ok w ↦ (
          let stored : q.stored ≡ p.stored + 1 = ap (λ (x : Party). x.stored) w.in-Ok.ensures.party in
          let sets : Sets (incarnation_at c.self.inside.keeper) (incarnation_at c.restart.new.keeper) (id_of p).0 q.stored =
          subst (λ (n : ℕ). Sets (incarnation_at c.self.inside.keeper) (incarnation_at c.restart.new.keeper) (id_of p).0 n)
          (sym stored) w.in-Ok.ensures.stored in
          has_incarnation c.self.inside.keeper c.restart.new.keeper c.self.inside.sites.items c.self.inside.parties.items c.in-Some.at p q c.self.invariant
          (apart_parties c.self.inside.sites.items c.self.inside.parties.items c.self.inside.sent.items c.self.inside.joint.keys
          (logs_kept c.self.inside.logs.entries) c.args.self.now c.self.view_is c.requires) there
          (ap id_of w.in-Ok.ensures.party) sets c.restart.ensures.states)
      | in-Err w ↦ subst (λ (k : MemoryRecord). HasAll k c.self.inside.sites.items (set c.self.inside.parties.items c.in-Some.at q)) (sym w.in-Err.ensures.kept)
          (has_party c.self.inside.keeper c.self.inside.sites.items c.self.inside.parties.items c.in-Some.at p q c.self.invariant there
          (ap id_of w.in-Err.ensures.err) (ap (λ (x : Party). x.stored) w.in-Err.ensures.err))
    ]

pub returns : goal.returns
returns g c =
    let p = c.index_mut-party.result.now in
    let first : IsFirst (is_party c.args.client) c.self.inside.parties.items c.in-Some.at =
    subst (λ (xs : List Party). IsFirst (is_party c.args.client) xs c.in-Some.at) c.deref.ensures.value c.in-Some.ensures in
    elim c.match-restart.branch [
      | in-Ok w ↦ rw w.result-is (
          restarted_there c.self.inside.sites.items c.self.inside.parties.items c.self.inside.sent.items c.self.inside.joint.keys
          (logs_kept c.self.inside.logs.entries) c.args.self.now c.self.view_is c.args.client c.in-Some.at p c.restart.new.self c.requires first
          c.index_mut-party.ensures.value w.in-Ok.ensures.unspent w.in-Ok.ensures.party (ap id_of w.in-Ok.ensures.party)
          ∙ ap (λ (n : ℕ). Ok (
            world_kept c.self.inside.sites.items
                (set c.self.inside.parties.items c.in-Some.at c.restart.new.self) c.self.inside.sent.items c.self.inside.joint.keys
                (logs_kept c.self.inside.logs.entries),
            note.Restarted n,
          )) (sym w.in-Ok.ensures.next))
      | in-Err w ↦ rw w.result-is (
        restart_refused c.self.inside.sites.items c.self.inside.parties.items c.self.inside.sent.items c.self.inside.joint.keys
            (logs_kept c.self.inside.logs.entries) c.args.self.now c.self.view_is c.args.client c.in-Some.at p w.in-Err.error first
            c.index_mut-party.ensures.value w.in-Err.ensures.named,
        same_party c.self.inside.sites.items c.self.inside.parties.items c.self.inside.sent.items c.self.inside.joint.keys
            (logs_kept c.self.inside.logs.entries) c.args.self.now c.self.view_is c.in-Some.at p c.restart.new.self c.index_mut-party.ensures.value
            w.in-Err.ensures.err,
      )
    ]

pub restart-requires : goal.restart-requires
restart-requires g c =
    let p = c.index_mut-party.result.now in
    let first : IsFirst (is_party c.args.client) c.self.inside.parties.items c.in-Some.at =
    subst (λ (xs : List Party). IsFirst (is_party c.args.client) xs c.in-Some.at) c.deref.ensures.value c.in-Some.ensures in
    let has : HasIncarnation c.self.inside.keeper p =
    all_at (HasIncarnation c.self.inside.keeper) c.self.inside.parties.items c.in-Some.at p
    (item_at c.self.inside.parties.items c.in-Some.at p first.within c.index_mut-party.ensures.value) c.self.invariant.incarnations in
    has.incarnation
