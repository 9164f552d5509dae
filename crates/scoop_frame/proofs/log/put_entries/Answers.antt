use Rattle.std.proofs.Common.{◌≡◌, List, ℕ, ◌+◌, ◌∷◌, ◌++◌, [], length, take, sym, ap, subst, ◌∙◌, arith}
use Rattle.std.specs.List.{flat_map, AllByRecursion}
use Rattle.scoop_message.specs.Range.{IsEntry}
use Rattle.std.proofs.lemmas.List.{take_more, length-append}
use Rattle.scoop_frame.specs.Body.{entry_bytes}
use Rattle.scoop_frame.specs.Buffer.{overwritten}
use Rattle.scoop_frame.proofs.Entries.{all_more, entries_more}
use Rattle.scoop_frame.proofs.Writing.{overwritten_twice}
use Rattle.scoop_frame.proofs.log.put_entries.Goals as goal

pub loop-entry-preserved : goal.loop-entry-preserved
loop-entry-preserved c =
    let at = c.args.at in
    let old = c.args.out.now in
    let entries = c.args.entries.now in
    let i = c.loop-entry.entry-index in
    let entry = c.entry-item.result in
    let done = flat_map entry_bytes (take i entries) in
    let next : take i entries ++ entry ∷ [] ≡ take (i + 1) entries = ap (λ e. take i entries ++ e ∷ []) c.entry-item.is
    ∙ sym (take_more entries i entry c.loop-entry-test.true) in
    let more : done ++ entry_bytes entry ≡ flat_map entry_bytes (take (i + 1) entries) =
    sym (entries_more (take i entries) entry) ∙ ap (flat_map entry_bytes) next in
    record {
      bytes = overwritten_twice at c.loop-entry.end done (entry_bytes entry) old c.put_entry-end.new.out (omega arith) c.loop-entry.invariant.end
          (c.put_entry-end.ensures.bytes ∙ ap (overwritten c.loop-entry.end (entry_bytes entry)) c.loop-entry.invariant.bytes)
          ∙ ap (λ (xs : List ℕ). overwritten at xs old) more;
      end = omega (arith, c.put_entry-end.ensures.end, c.loop-entry.invariant.end, length-append done (entry_bytes entry), ap length more);
      limit = omega arith;
      range = subst (AllByRecursion IsEntry) next (all_more (take i entries) entry c.loop-entry.invariant.range c.put_entry-end.ensures.range);
    }
