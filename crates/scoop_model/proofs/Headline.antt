-- Whatever happens, a world is safe.
use Rattle.scoop_model.proofs.Names.{List, ap, subst, MayOpen, steps, IsReached, Run, Safe, Placement, Newcomer, opening, World, Event}
use Rattle.scoop_model.proofs.Order.{in_order, joint_once}
use Rattle.scoop_model.proofs.Answering.{right_answers, accepts_right}
use Rattle.scoop_model.proofs.Whole.{all_tapes, all_whole}
use Rattle.scoop_model.proofs.Ready.{always_facts}

pub always_safe : (ps : List Placement) (ns : List Newcomer) (es : List Event) → MayOpen ps ns → Safe (steps (opening ps ns) es)
always_safe ps ns es may =
    let w : World = steps (opening ps ns) es in
    let f = always_facts ps ns es may in
    let once = joint_once ps ns es in
    record {
      in_order = in_order ps ns es;
      tapes = all_tapes w once f.ordered f.taped;
      whole = all_whole w once f.ordered f.taped;
      answers = right_answers w f.answering;
      accepted = accepts_right w f.answering;
    }

pub reached_safe : (w : World) → IsReached w → Safe w
reached_safe w r = subst Safe (ap (λ (x : Run). x.0) r.leads) (always_safe r.placements r.newcomers r.events r.opens)
