use Rattle.std.proofs.Common.{◌≡◌, ◌++◌, ◌∷◌, [], List, ℕ, ◌+◌, ◌*◌, ◌<◌, ◌^◌, length, take, get_or, set, refl, sym, ap, subst, ◌∙◌, arith}
use Rattle.std.specs.Int.{w16, w64, to_be_bytes}
use Rattle.std.specs.List.{flat_map, AllByRecursion}
use Rattle.std.proofs.lemmas.List.{take_more, take_all, flat_map_more, length-take-le}
use Rattle.scoop_frame.specs.Buffer.{overwritten}
use Rattle.scoop_frame.proofs.Bytes.{words_fit}
use Rattle.scoop_frame.proofs.Entries.{length-words}
use Rattle.scoop_frame.proofs.Writing.{byte_written, overwritten_twice}
use Rattle.scoop_frame.proofs.entry.put_request.Goals as goal

pub loop-i-init : goal.loop-i-init
loop-i-init c =
    let at = c.args.at in
    let old = c.args.out.now in
    let op = to_be_bytes w16 c.args.request.now.op in
    let count = c.len-count.result in
    let one = byte_written (at + 2) count c.put_u16.new.out (omega arith) ∙ ap (overwritten (at + 2) (count ∷ [])) c.put_u16.ensures in
    record {
      bytes = overwritten_twice at (at + 2) op (count ∷ []) old (set c.put_u16.new.out (at + 2) count) (omega arith) refl one
          ∙ ap (λ (n : ℕ). overwritten at (op ++ n ∷ []) old) c.len-count.ensures.value;
      fit = λ k. omega (arith, c.type_inv.arg-items k);
    }

pub loop-i-preserved : goal.loop-i-preserved
loop-i-preserved c =
    let at = c.args.at in
    let old = c.args.out.now in
    let args = c.args.request.now.args in
    let i = c.loop-i.i in
    let front = to_be_bytes w16 c.args.request.now.op ++ length args ∷ [] in
    let done = front ++ flat_map (to_be_bytes w64) (take i args) in
    let word = get_or args i 0 in
    let items-are = c.as_slice-arg-items.ensures in
    let lt : i < length args = omega (arith, ap length items-are) in
    let put : c.put_u64.new.out ≡ overwritten (at + 3 + 8 * i) (to_be_bytes w64 word) c.loop-i.out = c.put_u64.ensures
    ∙ ap (λ (xs : List ℕ). overwritten (at + 3 + 8 * i) (to_be_bytes w64 (get_or xs i 0)) c.loop-i.out) items-are in
    let place : at + 3 + 8 * i ≡ at + length done = omega (arith, length-words (take i args), length-take-le i args) in
    let more : done ++ to_be_bytes w64 word ≡ front ++ flat_map (to_be_bytes w64) (take (i + 1) args) =
    flat_map_more (to_be_bytes w64) front (take i args) word
    ∙ ap (λ (xs : List ℕ). front ++ flat_map (to_be_bytes w64) xs) (sym (take_more args i 0 lt)) in
    record {
      bytes = overwritten_twice at (at + 3 + 8 * i) done (to_be_bytes w64 word) old c.put_u64.new.out (omega arith) place
          (put ∙ ap (overwritten (at + 3 + 8 * i) (to_be_bytes w64 word)) c.loop-i.invariant.bytes)
          ∙ ap (λ (xs : List ℕ). overwritten at xs old) more;
      fit = c.loop-i.invariant.fit;
    }

pub returns-clause-end : goal.returns-clause-end
returns-clause-end c = omega (arith, length-words c.args.request.now.args, c.len-count.ensures.value)

pub returns-clause-range : goal.returns-clause-range
returns-clause-range c =
    let items = c.as_slice-arg-items.result.now in
    record {
      op = omega arith;
      count = omega (arith, c.len-count.ensures.value, c.len-count.ensures.limit);
      args = subst (AllByRecursion (λ x. x < 2 ^ 64)) (take_all (length items) items (omega arith) ∙ c.as_slice-arg-items.ensures)
          (words_fit (length items) items c.loop-i.invariant.fit);
    }
