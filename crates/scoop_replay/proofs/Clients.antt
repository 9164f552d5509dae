-- A replayed client goes on by its steps and restarts.
use Rattle.std.proofs.Common.{◌≡◌, ◌+◌, ◌-◌, ◌^◌, ◌==◌, ◌<◌, ℕ, false, List, [], ◌∷◌, ◌++◌, map, length, Option, Some, None, Result, Ok, Err, refl, sym, ap, ◌∙◌, subst, arith}
use Rattle.std.proofs.lemmas.Bool.Decides.{Decides-eqb}
use Rattle.std.specs.Prelude.{IfOk, IsOk, nat_lt}
use Rattle.scoop_message.specs.declared.name.ClientId.{ClientId}
use Rattle.scoop_message.specs.declared.name.HandlerId.{HandlerId}
use Rattle.scoop_message.specs.declared.message.Message.{Message}
use Rattle.scoop_client.specs.State.{ClientState}
use Rattle.scoop_client.specs.declared.command.Command.{Command}
use Rattle.scoop_client.specs.declared.error.BeginError.{BeginError}
use Rattle.scoop_client.specs.Beginning.{Begins, begun, greeting, unless_repeated}
use Rattle.scoop_client.specs.Commands as client
use Rattle.scoop_client.specs.Hearing.{heard}
use Rattle.scoop_reserve.specs.Handlers.{first_repeated}
use Rattle.scoop_model.proofs.Basics.{by_test}
use Rattle.scoop_model.proofs.Moves.{Notices, passes_over, hears, Takes, takes_reserve, takes}
use Rattle.scoop_driver.specs.declared.step.Received.{Received}
use Rattle.scoop_driver.specs.declared.step.Step.{Step}
use Rattle.scoop_driver.specs.declared.step.Step.TheVariants.{Broke, Gave, Turned}
use Rattle.scoop_driver.specs.Steps.{Can, after, after_command, after_message, message_in}
use Rattle.scoop_weave.specs.System.{LocalClient, after_restart}
use Rattle.scoop_weave.specs.ClientSteps.{driven, moves_at}
use Rattle.scoop_weaver.specs.declared.traffic.Traffic.{Traffic}
use Rattle.scoop_weaver.specs.declared.trail.Passage.{Passage}
use Rattle.scoop_weaver.specs.Passing.{silent, traffic_of}
use Rattle.scoop_weaver.specs.Trails.{HasTraffic}
use Rattle.scoop_replay.specs.Client.{ClientTale, ClientValue, IsClientTale, RestartsOn, StepsOn, local_client}
use Rattle.scoop_replay.proofs.Drivers.{tale_restarted, tale_stepped}

-- ---- a step keeps the client's number and incarnation

pub record SameParty (c d : ClientState) : Type 0 where
  pub id : d.id ≡ c.id
  pub inc : d.inc ≡ c.inc

same_itself : (c : ClientState) → SameParty c c
same_itself c = record { id = refl; inc = refl }

takes_same : (c d : ClientState) (x : Command) → Takes c x d → SameParty c d
takes_same c d x (takes_reserve hs at_idle begins) = record { id = refl; inc = refl }
takes_same c d x t = record { id = refl; inc = refl }

notices_same : (c : ClientState) (m : Message) (d : ClientState) → Notices c m d → SameParty c d
notices_same c m d (passes_over n) = same_itself c
notices_same c m d n = record { id = refl; inc = refl }

given_same : (c : ClientState) (x : Command) (o : client.Outcome) → client.command c x ≡ o → SameParty c (after_command c o)
given_same c x (Ok d) e = takes_same c d x (takes c d x e)
given_same c x (Err error) e = same_itself c

told_same : (c : ClientState) (o : Option Message) → SameParty c (after_message c o)
told_same c None = same_itself c
told_same c (Some m) = notices_same c m (heard c m).0 (hears c m)

pub same_party : (c : ClientState) (s : Step) → SameParty c (after c s)
same_party c (Gave x) = given_same c x (client.command c x) refl
same_party c (Turned got) = told_same c (message_in got)
same_party c (Broke place) = same_itself c

-- ---- steps

abbrev stored_as : ClientState → ℕ → LocalClient
stored_as c inc = record { client = c; stored = inc }

pub steps_on :
    (s : Step) (old new : ClientValue) (post more : List Message) (moves : List Traffic) → Can old.client s → new.client ≡ after old.client s
    → moves ≡ map traffic_of (moves_at old.client s)
    → ((ts : List Traffic) → HasTraffic post old.trail ts → HasTraffic more new.trail (ts ++ moves)) → StepsOn s old new post more
steps_on s old new post more moves can is moved adds joined t at tale =
    let same : t.now.client ≡ old.client = ap (λ (c : LocalClient). c.client) at in (
      tale_stepped joined t post more old.trail new.trail s tale (subst (λ c. Can c s) (sym same) can)
          (λ ts has. subst (λ ms. HasTraffic more new.trail (ts ++ ms)) (moved ∙ ap (λ c. map traffic_of (moves_at c s)) (sym same)) (adds ts has)),
      ap local_client is
          ∙ (ap (stored_as (after old.client s)) (same_party old.client s).inc ∙ ap (λ (c : LocalClient). driven c (s ∷ [])) (sym at)),
    )

differs : (m n : ℕ) → (m ≡ n → ⊥) → (m == n) ≡ false
differs m n other =
    by_test (λ b. (m == n) ≡ b → b ≡ false) (m == n) (λ _ e. absurd (other ((Decides-eqb m n).0 e))) (λ _ e. refl) refl

pub restarts_on :
    (old new : ClientValue) (post more : List Message) → (old.client.inc ≡ 2 ^ 32 - 1 → ⊥)
    → new.client ≡ greeting old.client.id (old.client.inc + 1) old.client.handlers 0 old.client.batch
    → ((ts : List Traffic) → HasTraffic post old.trail ts → HasTraffic more new.trail (ts ++ silent ∷ [])) → RestartsOn old new post more
restarts_on old new post more other is adds joined t at tale =
    let room : (old.client.inc == 2 ^ 32 - 1) ≡ false = differs old.client.inc (2 ^ 32 - 1) other in (
      tale_restarted joined t post more old.trail new.trail tale (subst (λ (c : LocalClient). (c.stored == 2 ^ 32 - 1) ≡ false) (sym at) room) adds,
      ap local_client is ∙ ap after_restart (sym at),
    )

-- ---- the meaning of the tests

pub can_give : (c : ClientState) (x : Command) → IsOk (client.command c x) → Can c (Gave x)
can_give c x ok = given (client.command c x) refl ok
  where
    given : (o : client.Outcome) → client.command c x ≡ o → IsOk o → Can c (Gave x)
    given (Ok d) e is = (d, e)
    given (Err error) e is = absurd (cc)

repeats : (c d : ClientState) (o : Option HandlerId) → unless_repeated c o ≡ Ok d → d ≡ c
repeats c d None e = cc
repeats c d (Some h) e = absurd (cc)

is_greeting :
    (id : ClientId) (inc : ℕ) (hs : List HandlerId) (last batch : ℕ) (c : ClientState) → begun id inc hs last batch ≡ Ok c → c ≡ greeting id inc hs last batch
is_greeting id inc hs last batch c e = grind (arith, nat_lt, repeats)

pub begins_greeting :
    (id : ClientId) (inc : ℕ) (hs : List HandlerId) (last batch : ℕ) (res : Result ClientState BeginError) → Begins (begun id inc hs last batch) res
    → IfOk res (λ c. c ≡ greeting id inc hs last batch)
begins_greeting id inc hs last batch (Ok c) e = is_greeting id inc hs last batch c e
begins_greeting id inc hs last batch (Err error) e = tt
