use Rattle.scoop_weaver.proofs.Anew.{broken_passed}
use Rattle.scoop_weaver.proofs.driving.note_broken.Goals as goal

pub returns : goal.returns
returns g c = broken_passed c.args.client.now _ _ c.args.place c.args.moves.now.items _ c.handlers-handlers.ensures c.up_to-front.ensures
    c.in_ok-note_sends.ensures
