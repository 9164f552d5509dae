use Rattle.std.proofs.Common.{ap, ◌∙◌, codes}
use Rattle.std.specs.Int.{w32, to_be_bytes}
use Rattle.sha2.specs.Sha256.{sha256}
use Rattle.scoop_seal.proofs.Joins.{joined}
use Rattle.scoop_seal.proofs.system_key.digest_before.Goals as goal

pub returns : goal.returns
returns c =
    let told = c.finalize.ensures _ (c.update-4.ensures _ (c.update-3.ensures _ (c.update-2.ensures _ (c.update.ensures _ c.new-hasher.ensures)))) in
    let bytes = rw (c.to_be_bytes.ensures) at told in
    bytes ∙ ap sha256 (joined c.args.first.now (codes "scoop system") (to_be_bytes w32 c.args.life) c.args.name.now)
