use Rattle.std.proofs.Common.{arith, refl}
use Rattle.scoop_lines.proofs.NumberLemmas.{next_digit, short_fits}
use Rattle.scoop_lines.proofs.number.short_number.Goals as goal

pub overflow_mul-number : goal.overflow_mul-number
overflow_mul-number c =
    let word = c.args.digits.now in
    let next = next_digit word c.loop-digit.digit-index _ c.requires.digits c.loop-digit-test.true refl in
    let fits = short_fits word c.requires.digits c.requires.short in
    let so_far = c.loop-digit.invariant in
    omega (arith, next.more, next.most, fits, so_far)

pub overflow_add-number : goal.overflow_add-number
overflow_add-number c =
    let word = c.args.digits.now in
    let next = next_digit word c.loop-digit.digit-index _ c.requires.digits c.loop-digit-test.true refl in
    let fits = short_fits word c.requires.digits c.requires.short in
    let so_far = c.loop-digit.invariant in
    omega (arith, next.more, next.most, fits, so_far, c.from.ensures)

pub loop-digit-preserved : goal.loop-digit-preserved
loop-digit-preserved c =
    let word = c.args.digits.now in
    let next = next_digit word c.loop-digit.digit-index _ c.requires.digits c.loop-digit-test.true refl in
    let so_far = c.loop-digit.invariant in
    omega (arith, next.more, so_far, c.from.ensures)
