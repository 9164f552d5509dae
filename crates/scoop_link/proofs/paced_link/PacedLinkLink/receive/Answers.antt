use Rattle.scoop_link.proofs.Silences.{silence-passes}
use Rattle.scoop_link.proofs.paced_link.PacedLinkLink.receive.Goals as goal

pub returns-in-None-clause-silent : goal.returns-in-None-clause-silent
returns-in-None-clause-silent g c =
    λ e to datagram. rw c.silence.ensures (silence-passes c.self.inside.pace to datagram)
