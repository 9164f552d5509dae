use Rattle.scoop_weaver.proofs.Anew.{turn_passed}
use Rattle.scoop_weaver.proofs.driving.note_turn.Goals as goal

pub returns : goal.returns
returns g c =
    turn_passed c.args.client.now _ c.args.received.now c.args.moves.now.items _ _ c.handlers-handlers.ensures c.in_ok-note_sends.ensures
    (c.in_ok-note_heard.ensures c.args.client.now)
