use Rattle.scoop_world.proofs.KeptPlaces.{has_party}
use Rattle.std.proofs.Common.{◌≡◌, List, ◌++◌, [], ◌∷◌, false, map, sym, ap, ◌∙◌, refl, subst}
use Rattle.scoop_message.specs.declared.name.Block.{Block}
use Rattle.scoop_client.specs.declared.command.Command.TheVariants.{Reserve}
use Rattle.scoop_model.specs.World.{World, BlockLog, HandlerLog}
use Rattle.scoop_model.specs.Step.{newest_block, fresh_log}
use Rattle.scoop_model.specs.Reach.{IsReached}
use Rattle.scoop_world.specs.Kept.{has_log, logs_kept, block_log, world_kept}
use Rattle.scoop_world.proofs.FreshBlocks.{begun_is_new}
use Rattle.scoop_world.proofs.TakenEvents.{command_taken, command_refused, party_there}
use Rattle.scoop_world.proofs.parts.Parts.reserve.Goals as goal

pub returns-in_default : goal.returns-in_default
returns-in_default g c =
    command_refused c.self.inside.sites.items c.self.inside.parties.items c.self.inside.sent.items c.self.inside.joint.keys
    (logs_kept c.self.inside.logs.entries) c.args.self.now c.self.view_is c.args.at c.index_mut-party.result.now c.index_mut-party.result.now
    (Reserve c.args.handlers.now) c.no_room_to_reserve.result (logs_kept c.room_for.new.logs.entries)
    c.requires.within c.index_mut-party.ensures.value c.no_room_to_reserve.ensures refl (ap logs_kept c.room_for.ensures.logs)

pub returns-in-Err : goal.returns-in-Err
returns-in-Err g c =
    command_refused c.self.inside.sites.items c.self.inside.parties.items c.self.inside.sent.items c.self.inside.joint.keys
    (logs_kept c.self.inside.logs.entries) c.args.self.now c.self.view_is c.args.at c.index_mut-party.result.now c.command.new.self
    (Reserve c.args.handlers.now) c.in-Err.error (logs_kept c.room_for.new.logs.entries)
    c.requires.within c.index_mut-party.ensures.value c.in-Err.ensures.taken.0 c.in-Err.ensures.taken.1 (ap logs_kept c.room_for.ensures.logs)

pub add-requires-clause-new : goal.add-requires-clause-new
add-requires-clause-new g c =
    let v : World =
    world_kept c.self.inside.sites.items c.self.inside.parties.items c.self.inside.sent.items c.self.inside.joint.keys (logs_kept c.self.inside.logs.entries) in
    let fresh : has_log (newest_block c.command.new.self.client) (logs_kept c.self.inside.logs.entries) ≡ false =
    begun_is_new v c.args.at c.index_mut-party.result.now c.args.handlers.now c.command.new.self.client
    (subst IsReached (sym c.self.view_is) c.requires.reached)
    (party_there c.self.inside.sites.items c.self.inside.parties.items c.self.inside.sent.items c.self.inside.joint.keys
    (logs_kept c.self.inside.logs.entries) c.args.self.now c.self.view_is c.args.at c.index_mut-party.result.now c.requires.within
    c.index_mut-party.ensures.value) c.in-Ok-command.ensures.taken.0 in
    let named : has_log c.newest.result (logs_kept c.self.inside.logs.entries) ≡ false =
    subst (λ (b : Block). has_log b (logs_kept c.self.inside.logs.entries) ≡ false) (sym c.newest.ensures) fresh in
    subst (λ (ls : List BlockLog). has_log c.newest.result ls ≡ false) (sym (ap logs_kept c.room_for.ensures.logs)) named

pub returns : goal.returns
returns g c =
    let logs = logs_kept c.self.inside.logs.entries in
    let new : Block → List HandlerLog → BlockLog = λ b ls. record { block = b; shares = ls } in
    let made : logs_kept c.add.new.logs.entries ≡ logs ++ new (newest_block c.command.new.self.client) (map fresh_log c.args.handlers.now) ∷ [] =
    c.add.ensures
    ∙ ap (λ (ls : List BlockLog). ls ++ block_log c.newest.result c.in-Ok.shares.items ∷ []) (ap logs_kept c.room_for.ensures.logs)
    ∙ ap (λ (ls : List HandlerLog). logs ++ new c.newest.result ls ∷ []) c.in-Ok.ensures.shares
    ∙ ap (λ (b : Block). logs ++ new b (map fresh_log c.args.handlers.now) ∷ []) c.newest.ensures in
    command_taken c.self.inside.sites.items c.self.inside.parties.items c.self.inside.sent.items c.self.inside.joint.keys
    (logs_kept c.self.inside.logs.entries) c.args.self.now c.self.view_is c.args.at c.index_mut-party.result.now c.command.new.self
    (Reserve c.args.handlers.now) (logs_kept c.add.new.logs.entries)
    c.requires.reached c.requires.within c.index_mut-party.ensures.value c.in-Ok-command.ensures.taken.0 c.in-Ok-command.ensures.taken.1 c.command.ensures.id
    made

pub invariant_of-self : goal.invariant_of-self
invariant_of-self g c =
    has_party c.self.inside.keeper c.self.inside.sites.items c.self.inside.parties.items c.args.at c.index_mut-party.result.now c.index_mut-party.result.now
    c.self.invariant
    (party_there c.self.inside.sites.items c.self.inside.parties.items c.self.inside.sent.items c.self.inside.joint.keys
    (logs_kept c.self.inside.logs.entries) c.args.self.now c.self.view_is c.args.at c.index_mut-party.result.now c.requires.within
    c.index_mut-party.ensures.value) refl refl

pub invariant_of-self-in-Err : goal.invariant_of-self-in-Err
invariant_of-self-in-Err g c =
    has_party c.self.inside.keeper c.self.inside.sites.items c.self.inside.parties.items c.args.at c.index_mut-party.result.now c.command.new.self
    c.self.invariant
    (party_there c.self.inside.sites.items c.self.inside.parties.items c.self.inside.sent.items c.self.inside.joint.keys
    (logs_kept c.self.inside.logs.entries) c.args.self.now c.self.view_is c.args.at c.index_mut-party.result.now c.requires.within
    c.index_mut-party.ensures.value) c.command.ensures.id c.command.ensures.stored

pub invariant_of-self-2 : goal.invariant_of-self-2
invariant_of-self-2 g c =
    has_party c.self.inside.keeper c.self.inside.sites.items c.self.inside.parties.items c.args.at c.index_mut-party.result.now c.command.new.self
    c.self.invariant
    (party_there c.self.inside.sites.items c.self.inside.parties.items c.self.inside.sent.items c.self.inside.joint.keys
    (logs_kept c.self.inside.logs.entries) c.args.self.now c.self.view_is c.args.at c.index_mut-party.result.now c.requires.within
    c.index_mut-party.ensures.value) c.command.ensures.id c.command.ensures.stored
