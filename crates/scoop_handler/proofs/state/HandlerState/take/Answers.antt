use Rattle.std.proofs.Common.{subst}
use Rattle.scoop_handler.specs.State.{IsState}
use Rattle.scoop_handler.specs.Outcomes.{asked_block, heard_about}
use Rattle.scoop_handler.proofs.TableLaws.{IsState-heard, replies-heard}
use Rattle.scoop_handler.proofs.state.HandlerState.take.Goals as goal

pub returns-clause-sound : goal.returns-clause-sound
returns-clause-sound g c =
    IsState-heard (heard_about c.args.self.now.number (asked_block c.args.message.now)) c.args.self.now c.args.message.now c.take_here.new.self
    c.take_here.result c.take_here.ensures.entries (subst IsState c.self.view_is c.self.invariant) c.take_here.ensures.ok c.take_here.ensures.err

pub returns-clause-replies : goal.returns-clause-replies
returns-clause-replies g c =
    replies-heard (heard_about c.args.self.now.number (asked_block c.args.message.now)) c.args.self.now c.args.message.now c.take_here.new.self
    c.take_here.result c.take_here.ensures.entries c.take_here.ensures.ok
