use Rattle.std.proofs.Common.{◌≡◌, ℕ, List, ◌*◌, ◌<◌, ◌^◌, get_or, length, take, subst, refl, sym, ap, ◌∙◌, arith}
use Rattle.std.specs.Int.{w64, to_be_bytes}
use Rattle.std.specs.List.{flat_map, AllByRecursion}
use Rattle.std.proofs.lemmas.List.{length-append, length-set, length-take-le}
use Rattle.scoop_frame.specs.Body.{request_bytes}
use Rattle.scoop_frame.proofs.Bytes.{IsBytes, front, words_more, request_is, words_fit, words_fit-set, words_fit-zeros}
use Rattle.scoop_frame.proofs.Entries.{length-words, length-request}
use Rattle.scoop_frame.proofs.entry.request_from.Goals as goal

pub returns-then-bytes-count : goal.returns-then-bytes-count
returns-then-bytes-count c = λ x rest fits e.
    let count : get_or c.args.bytes.now 2 0 ≡ length x.args = ap (λ (b : List ℕ). get_or b 2 0) e in
    omega (arith, count, c.from-count.ensures, ap length e, length-append (request_bytes x) rest, length-request x)

pub loop-i-init : goal.loop-i-init
loop-i-init c = record { room = refl; fit = words_fit-zeros 4; words = refl }

pub loop-i-preserved : goal.loop-i-preserved
loop-i-preserved c = record {
  room = omega (arith, length-set c.loop-i.items c.loop-i.i c.u64_at.result);
  fit = words_fit-set c.loop-i.items c.loop-i.i c.u64_at.result c.loop-i.invariant.fit (omega arith);
  words = words_more c.args.bytes.now c.loop-i.items c.loop-i.i c.u64_at.result (λ k. omega (arith, c.type_inv.bytes k))
      (omega arith) c.u64_at.ensures c.loop-i.invariant.words;
}

pub returns : goal.returns
returns c =
    let b = c.args.bytes.now in
    let count = c.from-count.result in
    let bytes : IsBytes b = λ k. omega (arith, c.type_inv.bytes k) in
    let args = c.unwrap-args.result in
    let args-are : args ≡ take count c.loop-i.items = (rw c.unwrap-args.ensures at c.of.ensures).1 in
    let words-are : flat_map (to_be_bytes w64) args ≡ front 3 (8 * count) b = ap (flat_map (to_be_bytes w64)) args-are
    ∙ (let i-is : count ≡ c.loop-i.i = omega arith in subst (λ (n : ℕ). flat_map (to_be_bytes w64) (take n c.loop-i.items) ≡ front 3 (8 * n) b)
    (sym i-is) c.loop-i.invariant.words) in
    let len : length args ≡ count = omega (arith, ap length args-are, length-take-le count c.loop-i.items) in (
      record {
        op = omega arith;
        count = omega (arith, len);
        args = subst (AllByRecursion (λ x. x < 2 ^ 64)) (sym args-are) (words_fit count c.loop-i.items c.loop-i.invariant.fit);
      },
      omega (arith, length-words args, len),
      request_is b c.u16_at-op.result count args bytes (omega arith) c.u16_at-op.ensures (omega (arith, len, c.from-count.ensures)) words-are,
    )
