use Rattle.std.proofs.Common.{length, ap, ◌∙◌}
use Rattle.scoop_object.proofs.Lengths.{length-eff}
use Rattle.scoop_object.proofs.table.TableBehaviour.apply.Goals as goal

pub invariant_of-self : goal.invariant_of-self
invariant_of-self g c = record {
  fits = ap (λ p. length p.0) c.effect-new.ensures ∙ length-eff c.args.self.now.class c.args.self.now.words c.args.request.now
      ∙ c.args.self.now.fits;
}
