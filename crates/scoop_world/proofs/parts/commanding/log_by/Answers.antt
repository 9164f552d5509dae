use Rattle.std.proofs.Common.{refl}
use Rattle.scoop_world.proofs.TakenCommands.{refuses_log}
use Rattle.scoop_world.proofs.parts.commanding.log_by.Goals as goal

pub returns-then-is_err-clause-taken : goal.returns-then-is_err-clause-taken
returns-then-is_err-clause-taken g c =
    (refuses_log c.args.party.now.client c.args.command.now (c.args.only, c.args.entry.now) c.no_room_to_log.result c.requires c.no_room_to_log.ensures, refl)
