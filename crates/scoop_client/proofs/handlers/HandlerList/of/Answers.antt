-- The handlers are copied over the first blanks, and the other blanks stay.
use Rattle.std.proofs.Common.{◌≤◌, arith, drop, length, ◌∙◌, replicate}
use Rattle.std.proofs.lemmas.List.{drop-replicate, length-append, length-drop}
use Rattle.std.proofs.Math.Seq.{drop-append_seam}
use Rattle.scoop_reserve.specs.Handlers.{nobody}
use Rattle.scoop_client.proofs.handlers.HandlerList.of.Goals as goal

pub invariant_of-result : goal.invariant_of-result
invariant_of-result c =
    let hs = c.args.handlers.now in
    let blanks = replicate 9 nobody in
    let few : length hs ≤ 9 = omega (arith, c.if-count-gt-MAX_NAMED_HANDLERS.false) in
    rw c.copy_from_slice.ensures.after (record {
      fits = few;
      size = length-append hs (drop (length hs) blanks) ∙ omega (arith, few, length-drop (length hs) blanks);
      others = drop-append_seam hs (drop (length hs) blanks) ∙ drop-replicate (length hs) 9 nobody;
    })
