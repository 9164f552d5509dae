use Rattle.std.proofs.Common.{refl}
use Rattle.scoop_driver.proofs.examples.waits_for_two.Goals as goal

pub returns : goal.returns
returns c = record {
  asks = refl;
  rest_if_it_holds = refl;
  rest_if_it_fails = refl;
  calls = refl;
  answers = refl;
  inside = refl;
  outside = refl;
  enough = refl;
  too_little = refl;
  few = refl;
  too_many = refl;
  wanted = refl;
  other = refl;
  refused = refl;
  pauses = (3, (1, (0, refl, refl), refl), refl);
}
