-- A session's turns, one after another.
use Rattle.std.proofs.Common.{◌≡◌, List, [], ◌∷◌, ◌++◌, Option, Result, refl, ap, ◌∙◌}
use Rattle.scoop_client.specs.declared.phase.ClientNote.{ClientNote}
use Rattle.scoop_client.specs.State.{ClientState}
use Rattle.scoop_driver.specs.declared.error.DriverError.{DriverError}
use Rattle.scoop_driver.specs.declared.step.Step.{Step}
use Rattle.scoop_driver.specs.declared.step.Step.TheVariants.{Gave, Turned, Broke}
use Rattle.scoop_driver.specs.Steps.{commands_by}
use Rattle.scoop_driver.specs.State.{Seen}
use Rattle.scoop_driver.specs.Turning.{TakesTurn, TurnAnswers}
use Rattle.scoop_driver.proofs.StepLists.{commands_by-append, goes_nothing, goes_on}
use Rattle.scoop_session.specs.Obeying.{TakesTurnsOnly}

pub turned_none : (s : Seen) → TakesTurnsOnly s s
turned_none s = ([], goes_nothing s, refl)

silent_turn : (r : Result (Option ClientNote) DriverError) (c : ClientState) (steps : List Step) → TurnAnswers c steps r → commands_by steps ≡ []
silent_turn r c [] is = refl
silent_turn r c (Gave x ∷ []) is = absurd is
silent_turn r c (Turned got ∷ []) is = refl
silent_turn r c (Broke place ∷ []) is = refl
silent_turn r c (s ∷ t ∷ ss) is = absurd is

pub turned_more : (r : Result (Option ClientNote) DriverError) (s t u : Seen) → TakesTurnsOnly s t → TakesTurn r t u → TakesTurnsOnly s u
turned_more r s t u (xs, goes, silent) (ys, next, answers) = (
  xs ++ ys,
  goes_on xs ys s t u goes next,
  commands_by-append xs ys ∙ (ap (λ zs. zs ++ commands_by ys) silent ∙ silent_turn r t.client ys answers),
)
