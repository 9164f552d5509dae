-- A driver's steps as moves of its client.
use Rattle.std.proofs.Common.{◌≡◌, ◌+◌, List, [], ◌∷◌, drop, Ok, Err, refl}
use Rattle.std.proofs.lemmas.List.{take-append-drop}
use Rattle.scoop_client.specs.State.{ClientState}
use Rattle.scoop_client.specs.Commands as client
use Rattle.scoop_driver.specs.declared.step.Step.{Step}
use Rattle.scoop_driver.specs.declared.step.Step.TheVariants.{Gave, Turned, Broke}
use Rattle.scoop_driver.specs.Steps.{AllCan, Can, after, after_command}
use Rattle.scoop_driver.specs.Driving.{CanStep, AreMoves, move_of}

-- a command that is taken is its outcome
pub taken : (c d : ClientState) (o : client.Outcome) → o ≡ Ok d → o ≡ Ok (after_command c o)
taken c d (Ok x) is = refl
taken c d (Err e) is = cc

can_move : (c : ClientState) (s : Step) → Can c s → CanStep c (move_of c s)
can_move c (Gave x) can = taken c can.0 _ can.1
can_move c (Turned got) can = tt
can_move c (Broke place) can = (drop (place + 1) c.handlers, take-append-drop (place + 1) c.handlers)

step_moves : (c : ClientState) (s : Step) (ss : List Step) → Can c s → AreMoves (after c s) ss → AreMoves c (s ∷ ss)
step_moves c (Gave x) ss can rest = record { can = (can_move c (Gave x) can, rest.can); client = rest.client }
step_moves c (Turned got) ss can rest = record { can = (can_move c (Turned got) can, rest.can); client = rest.client }
step_moves c (Broke place) ss can rest = record { can = (can_move c (Broke place) can, rest.can); client = rest.client }

pub are_moves : (c : ClientState) (ss : List Step) → AllCan c ss → AreMoves c ss
are_moves c [] can = record { can = tt; client = refl }
are_moves c (s ∷ ss) can = step_moves c s ss can.0 (are_moves (after c s) ss can.1)
