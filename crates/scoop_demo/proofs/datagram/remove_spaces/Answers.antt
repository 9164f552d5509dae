use Rattle.std.proofs.Common.{rules}
use Rattle.scoop_demo.proofs.HexLemmas.{retains_filter}
use Rattle.scoop_demo.proofs.datagram.remove_spaces.Goals as goal

pub returns : goal.returns
returns c = retains_filter _ _ (λ s x b t y r. search rules) _ _ _ c.retain.ensures.filtered
