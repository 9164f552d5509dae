use Rattle.std.proofs.Common.{◌≡◌, ℕ, ◌<◌, map, get_or, refl, ap, ◌∙◌, arith}
use Rattle.std.proofs.lemmas.List.FromFn.{get_or-map-range_with_len}
use Rattle.std.specs.List.{range_with_len}
use Rattle.scoop_demo.specs.Hex.{value_of}
use Rattle.scoop_demo.specs.declared.datagram.TheConstants.{DIGIT_VALUES}
use Rattle.scoop_demo.proofs.datagram.digit_value.Goals as goal

-- the table has the value of each byte
table_is : DIGIT_VALUES ≡ map value_of (range_with_len 0 256)
table_is = refl

read : (b : ℕ) → b < 256 → get_or DIGIT_VALUES b 0 ≡ value_of b
read b h = ap (λ t. get_or t b 0) table_is ∙ get_or-map-range_with_len value_of 0 256 b b 0 h (omega arith)

pub returns : goal.returns
returns c = rw c.from.ensures (read c.args.byte (omega arith))
