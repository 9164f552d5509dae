-- The printed forms of blocks and answers.
use Rattle.std.specs.Prelude.{ℕ, List, ◌++◌, codes}
use Rattle.std.specs.Fmt.{decimal}
use Rattle.scoop_message.specs.declared.name.Block.{Block}
use Rattle.scoop_message.specs.declared.request.Answer.{Answer}
use Rattle.scoop_message.specs.declared.request.Answer.TheVariants.{Refused, Value}

-- client, incarnation and number, parted by dots
abbrev pub block_text : Block → List ℕ
block_text b = decimal b.client.0 ++ codes "." ++ decimal b.inc ++ codes "." ++ decimal b.num

abbrev pub answer_text : Answer → List ℕ
answer_text Refused = codes "refused"
answer_text (Value x) = decimal x
