use Rattle.std.proofs.Common.{◌≡◌, ◌+◌, ◌*◌, ◌%◌, length, slice_index, refl, ◌∙◌, arith}
use Rattle.std.proofs.lemmas.List.{length-set}
use Rattle.hex.proofs.HexLemmas.{decode_of-even}
use Rattle.hex.proofs.Pairs.{decode_done, decode_err, decode_start, decode_step}
use Rattle.scoop_demo.proofs.HexLemmas.{both_below, pair_fails, pair_reads, pairs_fail}
use Rattle.scoop_demo.proofs.datagram.decode_digits.Goals as goal

pub loop-i-init : goal.loop-i-init
loop-i-init c = record { decoded = decode_start c.args.digits.now c.args.bytes.now; room = refl }

pub returns-then-high-low-gt15-clause-bytes : goal.returns-then-high-low-gt15-clause-bytes
returns-then-high-low-gt15-clause-bytes c =
    let even : length c.args.digits.now % 2 ≡ 0 = omega (arith, c.requires) in
    let fault = pair_fails (slice_index c.args.digits.now (2 * c.loop-i.i)) (slice_index c.args.digits.now (2 * c.loop-i.i + 1)) (2 * c.loop-i.i)
    c.digit_value-high.result c.digit_value-low.result c.digit_value-high.ensures c.digit_value-low.ensures (omega arith) in
    pairs_fail c.args.digits.now fault.0 even (decode_err c.args.digits.now c.loop-i.bytes c.loop-i.i fault.0 (omega arith) fault.1 c.loop-i.invariant.decoded)

pub overflow_mul-bytes : goal.overflow_mul-bytes
overflow_mul-bytes c =
    let below = both_below c.digit_value-high.result c.digit_value-low.result (omega arith) in
    omega (arith, below.0)

pub overflow_add-bytes : goal.overflow_add-bytes
overflow_add-bytes c =
    let below = both_below c.digit_value-high.result c.digit_value-low.result (omega arith) in
    omega (arith, below.0, below.1)

pub loop-i-preserved : goal.loop-i-preserved
loop-i-preserved c =
    let below = both_below c.digit_value-high.result c.digit_value-low.result (omega arith) in
    record {
      decoded = decode_step c.args.digits.now c.loop-i.bytes c.loop-i.i (16 * c.digit_value-high.result + c.digit_value-low.result) (omega arith) (omega arith)
          (pair_reads (slice_index c.args.digits.now (2 * c.loop-i.i)) (slice_index c.args.digits.now (2 * c.loop-i.i + 1))
          (2 * c.loop-i.i) c.digit_value-high.result c.digit_value-low.result c.digit_value-high.ensures c.digit_value-low.ensures below.0 below.1)
          c.loop-i.invariant.decoded;
      room = omega (arith, length-set c.loop-i.bytes c.loop-i.i (16 * c.digit_value-high.result + c.digit_value-low.result));
    }

pub returns-clause-bytes : goal.returns-clause-bytes
returns-clause-bytes c =
    let even : length c.args.digits.now % 2 ≡ 0 = omega (arith, c.requires) in
    decode_of-even c.args.digits.now even ∙ decode_done c.args.digits.now c.loop-i.bytes c.loop-i.i (omega arith) (omega arith) c.loop-i.invariant.decoded
