use Rattle.scoop_world.proofs.KeptPlaces.{has_party}
use Rattle.std.proofs.Common.{refl}
use Rattle.scoop_client.specs.declared.command.Command.TheVariants.{GiveUp}
use Rattle.scoop_world.specs.Kept.{logs_kept}
use Rattle.scoop_world.proofs.TakenEvents.{command_taken, command_refused, party_there}
use Rattle.scoop_world.proofs.parts.Parts.give_up.Goals as goal
use Rattle.scoop_world.proofs.parts.Parts.give_up.Goals.{in-Ok, in-Err}

pub returns : goal.returns
returns g c =
    elim c.match-command.branch [
      | in-Ok w ↦ rw w.result-is
          (command_taken c.self.inside.sites.items c.self.inside.parties.items c.self.inside.sent.items c.self.inside.joint.keys
          (logs_kept c.self.inside.logs.entries) c.args.self.now c.self.view_is c.args.at c.index_mut-party.result.now c.command.new.self GiveUp
          (logs_kept c.self.inside.logs.entries)
          c.requires.reached c.requires.within c.index_mut-party.ensures.value w.in-Ok.ensures.taken.0 w.in-Ok.ensures.taken.1 c.command.ensures.id refl)
      | in-Err w ↦ rw w.result-is
          (command_refused c.self.inside.sites.items c.self.inside.parties.items c.self.inside.sent.items c.self.inside.joint.keys
          (logs_kept c.self.inside.logs.entries) c.args.self.now c.self.view_is c.args.at c.index_mut-party.result.now c.command.new.self GiveUp
          w.in-Err.error (logs_kept c.self.inside.logs.entries)
          c.requires.within c.index_mut-party.ensures.value w.in-Err.ensures.taken.0 w.in-Err.ensures.taken.1 refl)
    ]

pub invariant_of-self : goal.invariant_of-self
invariant_of-self g c =
    has_party c.self.inside.keeper c.self.inside.sites.items c.self.inside.parties.items c.args.at c.index_mut-party.result.now c.command.new.self
    c.self.invariant
    (party_there c.self.inside.sites.items c.self.inside.parties.items c.self.inside.sent.items c.self.inside.joint.keys
    (logs_kept c.self.inside.logs.entries) c.args.self.now c.self.view_is c.args.at c.index_mut-party.result.now c.requires.within
    c.index_mut-party.ensures.value) c.command.ensures.id c.command.ensures.stored
