-- The handlers and clients with which a world may open.
use Rattle.std.specs.Prelude.{◌≡◌, ◌-◌, ◌^◌, ◌≤◌, ◌<◌, List, length, map, true}
use Rattle.std.specs.List.{AllByRecursion}
use Rattle.scoop_message.specs.declared.limits.TheConstants.{MAX_HANDLERS, MAX_CLIENTS, MAX_ENTRIES}
use Rattle.scoop_message.specs.declared.name.HandlerId.{HandlerId}
use Rattle.scoop_handler.specs.State.{AreWords}
use Rattle.scoop_reserve.specs.Handlers.{has}
use Rattle.scoop_model.specs.Step.{Placement, Newcomer}
use Rattle.scoop_message.specs.Lists.{NoRepeats}

-- an object of the class that is placed with it
pub record IsPlaced (p : Placement) : Type 0 where
  pub words : AreWords p.words
  pub class : length p.words ≡ p.class.words

-- a Log carries one to four entries, and there is a next incarnation
pub record IsJoining (n : Newcomer) : Type 0 where
  pub some : 1 ≤ n.batch
  pub limit : n.batch ≤ MAX_ENTRIES
  pub next : n.stored < 2 ^ 32 - 1

-- a client knows one handler at least, each once, and each of them is placed
pub record KnowsPlaced (placed : List HandlerId) (n : Newcomer) : Type 0 where
  pub some : 1 ≤ length n.handlers
  pub once : NoRepeats n.handlers
  pub among : (h : HandlerId) → has n.handlers h ≡ true → has placed h ≡ true

-- one to MAX_HANDLERS handlers and at most MAX_CLIENTS clients, each once
pub record MayOpen (placements : List Placement) (newcomers : List Newcomer) : Type 0 where
  pub some : 1 ≤ length placements
  pub few : length placements ≤ MAX_HANDLERS
  pub apart : NoRepeats (map (λ p. p.handler) placements)
  pub placed : AllByRecursion IsPlaced placements
  pub few_clients : length newcomers ≤ MAX_CLIENTS
  pub clients_apart : NoRepeats (map (λ n. n.id) newcomers)
  pub joining : AllByRecursion IsJoining newcomers
  pub knowing : AllByRecursion (KnowsPlaced (map (λ p. p.handler) placements)) newcomers
