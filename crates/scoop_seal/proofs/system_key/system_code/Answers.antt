use Rattle.std.proofs.Common.{refl}
use Rattle.scoop_seal.specs.Hmac.{hmac}
use Rattle.scoop_seal.proofs.system_key.system_code.Goals as goal

pub returns : goal.returns
unfolding hmac
returns c = rw (c.digest_of.ensures, c.mix-2.ensures, c.digest_before-inner.ensures, c.mix.ensures, c.block_of-block.ensures) refl
