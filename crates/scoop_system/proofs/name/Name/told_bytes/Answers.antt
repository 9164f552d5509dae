use Rattle.std.proofs.Common.{◌≡◌, ◌<◌, ◌∙◌, ◌+◌, ap, arith, length, take, map}
use Rattle.std.proofs.Math.ListN.{length-set}
use Rattle.std.proofs.lemmas.List.{take_more_set, map_more, drop-set-lt}
use Rattle.scoop_system.specs.Name.{told, told_byte}
use Rattle.scoop_system.proofs.NameLemmas.{told_printable, all_told, blanks_left}
use Rattle.scoop_system.proofs.name.Name.told_bytes.Goals as goal

pub loop-place-preserved : goal.loop-place-preserved
loop-place-preserved c =
    let i = c.loop-place.place in
    let bytes = c.beginning-bytes.result.now in
    let within : i < length c.loop-place.cells = omega (arith, c.loop-place.invariant.size, c.beginning-bytes.ensures.limit, c.loop-place-test.true) in
    record {
      size = length-set c.loop-place.cells i _ ∙ c.loop-place.invariant.size;
      front = rw (
        c.told_byte.ensures,
        take_more_set c.loop-place.cells i (told_byte _) within,
        map_more told_byte bytes i 0 c.loop-place-test.true,
        c.loop-place.invariant.front,
      );
      others = drop-set-lt (i + 1) c.loop-place.cells i _ (omega arith) ∙ blanks_left c.loop-place.cells i c.loop-place.invariant.others;
    }

pub invariant_of-result : goal.invariant_of-result
invariant_of-result c =
    let end : c.loop-place.place ≡ length c.beginning-bytes.result.now = omega (arith, c.loop-place-test.false, c.loop-place.auto.place-end) in (
      rw (all_told c.beginning-bytes.result.now c.loop-place.cells c.loop-place.place end c.loop-place.invariant.front)
          (told_printable c.beginning-bytes.result.now),
      record { fits = c.beginning-bytes.ensures.limit; size = c.loop-place.invariant.size; others = rw (← end) c.loop-place.invariant.others },
    )

pub returns : goal.returns
unfolding told
returns c =
    let end : c.loop-place.place ≡ length c.beginning-bytes.result.now = omega (arith, c.loop-place-test.false, c.loop-place.auto.place-end) in
    all_told c.beginning-bytes.result.now c.loop-place.cells c.loop-place.place end c.loop-place.invariant.front
    ∙ ap (map told_byte) c.beginning-bytes.ensures.value
