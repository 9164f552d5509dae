use Rattle.std.proofs.Common.{◌≡◌, false, refl, subst}
use Rattle.scoop_message.specs.declared.name.Block.{Block}
use Rattle.scoop_model.specs.Step.{newest_block}
use Rattle.scoop_world.specs.Kept.{has_log, logs_kept, with_entry_for, IsPlaceOf}
use Rattle.scoop_world.proofs.KeptPlaces.{has_party}
use Rattle.scoop_world.proofs.LogLists.{kept-set, kept-same}
use Rattle.scoop_world.proofs.TakenCommands.{logged, unlogged}
use Rattle.scoop_world.proofs.TakenEvents.{command_taken, command_refused, party_there}
use Rattle.scoop_world.proofs.parts.Parts.log.Goals as goal
use Rattle.scoop_world.proofs.parts.Parts.log.Goals.{in-Ok, in-Err, in-Ok-log_by, in-Err-log_by}

pub returns-in_default : goal.returns-in_default
returns-in_default g c =
    let logs = logs_kept c.self.inside.logs.entries in
    let p = c.index_mut-party.result.now in
    let x = c.args.command.now in
    let none : has_log (newest_block p.client) logs ≡ false = subst (λ (b : Block). has_log b logs ≡ false) c.newest.ensures c.in_default.ensures.place in
    elim c.match-command.branch [
      | in-Ok w ↦ rw w.result-is
          (command_taken c.self.inside.sites.items c.self.inside.parties.items c.self.inside.sent.items c.self.inside.joint.keys
          (logs_kept c.self.inside.logs.entries) c.args.self.now c.self.view_is c.args.at p c.command.new.self x logs
          c.requires.reached c.requires.within c.index_mut-party.ensures.value w.in-Ok.ensures.taken.0 w.in-Ok.ensures.taken.1 c.command.ensures.id
          (unlogged p.client c.command.new.self.client x (c.args.only, c.args.entry) logs c.requires.logs w.in-Ok.ensures.taken.0 none))
      | in-Err w ↦ rw w.result-is
          (command_refused c.self.inside.sites.items c.self.inside.parties.items c.self.inside.sent.items c.self.inside.joint.keys
          (logs_kept c.self.inside.logs.entries) c.args.self.now c.self.view_is c.args.at p c.command.new.self x w.in-Err.error logs
          c.requires.within c.index_mut-party.ensures.value w.in-Err.ensures.taken.0 w.in-Err.ensures.taken.1 refl)
    ]

pub invariant_of-self-2 : goal.invariant_of-self-2
invariant_of-self-2 g c =
    has_party c.self.inside.keeper c.self.inside.sites.items c.self.inside.parties.items c.args.at c.index_mut-party.result.now c.log_by.new.party
    c.self.invariant
    (party_there c.self.inside.sites.items c.self.inside.parties.items c.self.inside.sent.items c.self.inside.joint.keys
    (logs_kept c.self.inside.logs.entries) c.args.self.now c.self.view_is c.args.at c.index_mut-party.result.now c.requires.within
    c.index_mut-party.ensures.value) c.log_by.ensures.id c.log_by.ensures.stored

pub returns : goal.returns
returns g c =
    let es = c.self.inside.logs.entries in
    let logs = logs_kept es in
    let p = c.index_mut-party.result.now in
    let x = c.args.command.now in
    let b = newest_block p.client in
    let place : IsPlaceOf b logs c.in-Some.place = subst (λ (y : Block). IsPlaceOf y logs c.in-Some.place) c.newest.ensures c.in-Some.ensures.place in
    elim c.match-log_by.branch [
      | in-Ok-log_by w ↦ rw w.result-is
          (command_taken c.self.inside.sites.items c.self.inside.parties.items c.self.inside.sent.items c.self.inside.joint.keys
          (logs_kept c.self.inside.logs.entries) c.args.self.now c.self.view_is c.args.at p c.log_by.new.party x _
          c.requires.reached c.requires.within c.index_mut-party.ensures.value w.in-Ok-log_by.ensures.taken.0 w.in-Ok-log_by.ensures.taken.1 c.log_by.ensures.id
          (logged p.client c.log_by.new.party.client x (c.args.only, c.args.entry) logs _ c.requires.logs w.in-Ok-log_by.ensures.taken.0
          (kept-set b (with_entry_for c.args.only c.args.entry)
          c.index_mut-shares.result.now c.log_by.new.shares es c.in-Some.place c.place_of.ensures.unique place c.index_mut-shares.ensures.value
          w.in-Ok-log_by.ensures.logged)))
      | in-Err-log_by w ↦ rw w.result-is
          (command_refused c.self.inside.sites.items c.self.inside.parties.items c.self.inside.sent.items c.self.inside.joint.keys
          (logs_kept c.self.inside.logs.entries) c.args.self.now c.self.view_is c.args.at p c.log_by.new.party x w.in-Err-log_by.error _
          c.requires.within c.index_mut-party.ensures.value w.in-Err-log_by.ensures.taken.0 w.in-Err-log_by.ensures.taken.1
          (kept-same c.index_mut-shares.result.now c.log_by.new.shares es c.in-Some.place c.index_mut-shares.ensures.value w.in-Err-log_by.ensures.kept))
    ]

pub invariant_of-self : goal.invariant_of-self
invariant_of-self g c =
    has_party c.self.inside.keeper c.self.inside.sites.items c.self.inside.parties.items c.args.at c.index_mut-party.result.now c.command.new.self
    c.self.invariant
    (party_there c.self.inside.sites.items c.self.inside.parties.items c.self.inside.sent.items c.self.inside.joint.keys
    (logs_kept c.self.inside.logs.entries) c.args.self.now c.self.view_is c.args.at c.index_mut-party.result.now c.requires.within
    c.index_mut-party.ensures.value) c.command.ensures.id c.command.ensures.stored
