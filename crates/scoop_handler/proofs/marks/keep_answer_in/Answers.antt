use Rattle.std.proofs.Common.{◌≡◌, false, arith, sym, ◌∙◌}
use Rattle.scoop_message.specs.Message.{same_block}
use Rattle.scoop_handler.specs.Running.{mark_after}
use Rattle.scoop_handler.proofs.After.{mark-of-another, marks-unless-query}
use Rattle.scoop_handler.proofs.MarkLists.{map_in_place, map_left_in_place}
use Rattle.scoop_handler.proofs.marks.keep_answer_in.Goals as goal
use Rattle.scoop_handler.proofs.marks.keep_answer_in.Goals.{then-eq, else-eq}

pub returns-then-not-is_query : goal.returns-then-not-is_query
returns-then-not-is_query g c =
    marks-unless-query c.args.ran.now c.args.marks.now.items (sym c.is_query.ensures ∙ c.if-not-is_query.true)

pub loop-k-preserved : goal.loop-k-preserved
loop-k-preserved g c =
    elim c.if-eq.branch [
      | then-eq w ↦
          rw (w.k-items-is, w.after.ensures) (map_in_place (mark_after c.args.ran.now) _ _ _ _ (omega arith) (omega arith) c.loop-k.invariant)
      | else-eq w ↦
          let other : same_block c.block.result c.args.ran.now.block ≡ false = sym c.eq.ensures ∙ w.if-eq.false in
          rw w.k-items-is (map_left_in_place (mark_after c.args.ran.now) _ _ _ _ (omega arith) (omega arith)
          (mark-of-another c.args.ran.now _ (rw c.block.ensures at other)) c.loop-k.invariant)
    ]
