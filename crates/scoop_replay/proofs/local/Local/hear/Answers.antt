use Rattle.std.proofs.Common.{sym, ap, ◌∙◌}
use Rattle.scoop_handler.specs.Core.{Core}
use Rattle.scoop_replay.proofs.Jobs.{heard_job}
use Rattle.scoop_replay.proofs.local.Local.hear.Goals as goal

pub invariant_of-self : goal.invariant_of-self
invariant_of-self c =
    let h = c.hear.ensures in (
      c.self.invariant.0 ∙ sym (ap (λ (k : Core). k.class) h.stays),
      c.self.invariant.1
          ∙ sym (heard_job c.self.inside.handler c.hear.new.self c.args.message.now c.hear.result c.number-sound.ensures.core h.ok h.stays h.err),
    )
