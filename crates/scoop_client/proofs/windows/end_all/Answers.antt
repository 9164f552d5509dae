use Rattle.std.proofs.Common.{arith}
use Rattle.std.proofs.lemmas.List.{get_or_default}
use Rattle.std.proofs.lemmas.List.Edits.{map_over_more}
use Rattle.scoop_client.specs.Window.{with_end}
use Rattle.scoop_client.proofs.FullWindows.{none_full, left_at}
use Rattle.scoop_client.proofs.windows.end_all.Goals as goal

pub end-requires-clause-room : goal.end-requires-clause-room
end-requires-clause-room g c =
    let i = c.loop-window.window-index in
    rw (left_at with_end c.args.windows.now c.loop-window.windows i c.window-item.result (omega arith) c.loop-window.invariant)
    (none_full c.args.windows.now i c.window-item.result c.requires.room (omega arith))

pub loop-window-preserved : goal.loop-window-preserved
loop-window-preserved g c =
    let i = c.loop-window.window-index in
    rw (c.end.ensures) (map_over_more with_end c.args.windows.now c.loop-window.windows i _ (omega arith) c.loop-window.invariant
    (get_or_default c.loop-window.windows i _ _ (omega arith)))
