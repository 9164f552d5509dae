use Rattle.std.proofs.Common.{refl}
use Rattle.scoop_message.specs.declared.message.Message.{Message}
use Rattle.scoop_message.specs.Message.{Fits}
use Rattle.scoop_message.specs.Range.{IsMessage}
use Rattle.scoop_frame.specs.declared.version.Version.{Version}
use Rattle.scoop_frame.specs.Version.{Carries}
use Rattle.scoop_frame.specs.Frame.{IsFrame, frame}
use Rattle.scoop_netloop.proofs.Replying.{reply_fits, reply_carried}
use Rattle.scoop_netloop.proofs.answer.answer_message.Goals as goal

-- a message that fits came as a frame
came : (v : Version) (m : Message) → Carries v m → Fits m → IsMessage m → IsFrame v m (frame v m)
came v m carries fits range = record { carries = carries; fits = fits; range = range; bytes_are = refl }

pub encode-requires-clause-fits : goal.encode-requires-clause-fits
encode-requires-clause-fits g c =
    reply_fits c.args.version c.args.message.now _ c.in-Ok.heard _ _ c.in-Some.reply
    (came c.args.version c.args.message.now c.requires.carried c.requires.fits c.requires.range) c.in-Ok.ensures.gains.moves c.in-Some.is

pub encode-requires-clause-carried : goal.encode-requires-clause-carried
encode-requires-clause-carried g c =
    reply_carried c.args.version c.args.message.now _ c.in-Ok.heard _ _ c.in-Some.reply
    (came c.args.version c.args.message.now c.requires.carried c.requires.fits c.requires.range) c.in-Ok.ensures.gains.moves c.in-Some.is
