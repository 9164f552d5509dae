use Rattle.std.proofs.Common.{refl}
use Rattle.scoop_pacing.proofs.examples.computed_examples.Goals as goal

pub returns : goal.returns
returns c = record {
  steady = refl;
  longer = refl;
  loopback = refl;
  early = refl;
  due = refl;
  twice_early = refl;
  asked_again = refl;
  another = refl;
}
