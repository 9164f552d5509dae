use Rattle.scoop_keeper.specs.Keyed.{IsFirst}
use Rattle.scoop_keeper.proofs.Keyed.{item_at}
use Rattle.scoop_world.proofs.KeptPlaces.{has_party}
use Rattle.std.proofs.Common.{List, Ok, set, sym, ap, ◌∙◌, subst}
use Rattle.scoop_message.specs.declared.name.ClientId.{ClientId}
use Rattle.scoop_message.specs.Message.{client_of}
use Rattle.scoop_client.specs.declared.phase.ClientNote.{ClientNote}
use Rattle.scoop_model.specs.declared.note.WorldNote.TheVariants as note
use Rattle.scoop_model.specs.World.{Party, is_party}
use Rattle.scoop_world.specs.Kept.{logs_kept, world_kept}
use Rattle.scoop_world.proofs.TakenEvents.{same_party, noticed_there, notices_ok}
use Rattle.scoop_world.proofs.parts.Parts.take_at_client.Goals as goal
use Rattle.scoop_world.proofs.parts.Parts.take_at_client.Goals.{in-Ok, in-Err}

pub returns : goal.returns
returns g c =
    let p = c.index_mut-party.result.now in
    let m = c.args.message.now in
    let named : IsFirst (is_party (client_of m)) c.deref.result.now c.in-Some.at =
    subst (λ (x : ClientId). IsFirst (is_party x) c.deref.result.now c.in-Some.at) c.client.ensures c.in-Some.ensures in
    let first : IsFirst (is_party (client_of m)) c.self.inside.parties.items c.in-Some.at =
    subst (λ (xs : List Party). IsFirst (is_party (client_of m)) xs c.in-Some.at) c.deref.ensures.value named in
    elim c.match-hear.branch [
      | in-Ok w ↦ rw w.result-is (
          noticed_there c.self.inside.sites.items c.self.inside.parties.items c.self.inside.sent.items c.self.inside.joint.keys
          (logs_kept c.self.inside.logs.entries) c.args.self.now c.self.view_is m c.in-Some.at p c.hear.new.self c.requires first
          c.index_mut-party.ensures.value w.in-Ok.ensures.party c.hear.ensures.id
          ∙ ap (λ (n : ClientNote). Ok (
            world_kept c.self.inside.sites.items
                (set c.self.inside.parties.items c.in-Some.at c.hear.new.self) c.self.inside.sent.items c.self.inside.joint.keys
                (logs_kept c.self.inside.logs.entries),
            note.Client n,
          )) (sym w.in-Ok.ensures.note))
      | in-Err w ↦ rw w.result-is (
        notices_ok c.self.inside.sites.items c.self.inside.parties.items c.self.inside.sent.items c.self.inside.joint.keys
            (logs_kept c.self.inside.logs.entries) c.args.self.now c.self.view_is m c.in-Some.at p first c.index_mut-party.ensures.value,
        same_party c.self.inside.sites.items c.self.inside.parties.items c.self.inside.sent.items c.self.inside.joint.keys
            (logs_kept c.self.inside.logs.entries) c.args.self.now c.self.view_is c.in-Some.at p c.hear.new.self c.index_mut-party.ensures.value
            w.in-Err.ensures.err,
      )
    ]

pub invariant_of-self : goal.invariant_of-self
invariant_of-self g c =
    let p = c.index_mut-party.result.now in
    let m = c.args.message.now in
    let named : IsFirst (is_party (client_of m)) c.deref.result.now c.in-Some.at =
    subst (λ (x : ClientId). IsFirst (is_party x) c.deref.result.now c.in-Some.at) c.client.ensures c.in-Some.ensures in
    let first : IsFirst (is_party (client_of m)) c.self.inside.parties.items c.in-Some.at =
    subst (λ (xs : List Party). IsFirst (is_party (client_of m)) xs c.in-Some.at) c.deref.ensures.value named in
    has_party c.self.inside.keeper c.self.inside.sites.items c.self.inside.parties.items c.in-Some.at p c.hear.new.self c.self.invariant
    (item_at c.self.inside.parties.items c.in-Some.at p first.within c.index_mut-party.ensures.value) c.hear.ensures.id c.hear.ensures.stored
