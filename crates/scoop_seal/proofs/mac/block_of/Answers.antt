use Rattle.scoop_seal.proofs.Blocks.{block_key-short}
use Rattle.scoop_seal.proofs.mac.block_of.Goals as goal

pub returns-else-key-gt-BLOCK_LEN : goal.returns-else-key-gt-BLOCK_LEN
returns-else-key-gt-BLOCK_LEN c =
    block_key-short c.args.key.now _ c.if-key-gt-BLOCK_LEN.false c.copy_from_slice-else-key-gt-BLOCK_LEN.ensures.after
