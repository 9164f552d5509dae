use Rattle.std.proofs.Common.{sym, ◌∙◌, arith}
use Rattle.scoop_handler.proofs.MarkPlaces.{is_place, is_nowhere, is_outside}
use Rattle.scoop_handler.proofs.marks.find_place.Goals as goal
use Rattle.scoop_handler.proofs.marks.find_place.Goals.{else-place-marks-via-then-place-marks+else-eq, else-place-marks-via-else-place-marks}

pub returns-then-eq : goal.returns-then-eq
returns-then-eq c =
    is_place c.args.client c.args.marks.now c.place_of_client-place.result _ c.requires c.place_of_client-place.ensures.place c.if-place-marks.true
    (sym (c.if-eq.ensures {u = tt}))

pub returns-else-place-marks : goal.returns-else-place-marks
returns-else-place-marks c =
    let marks = c.args.marks.now in
    let i = c.place_of_client-place.result in
    elim c.else-place-marks.branch [
      | else-place-marks-via-then-place-marks+else-eq w ↦ is_nowhere c.args.client marks i _ c.requires c.place_of_client-place.ensures.place
          (λ within. sym w.eq.ensures ∙ w.if-eq.false)
      | else-place-marks-via-else-place-marks w ↦ is_outside c.args.client marks i c.requires c.place_of_client-place.ensures.place
          (omega (arith, w.if-place-marks.false))
    ]
