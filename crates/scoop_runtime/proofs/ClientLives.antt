-- A client's lives, one after another. The first is that of its session. A second one may cut the block that the session left.
use Rattle.std.proofs.Common.{◌≡◌, ℕ, Bool, true, false, List, [], ◌∷◌, Option, Some, None, Result, Ok, Err, refl, sym, ap, subst, ◌∙◌, arith}
use Rattle.std.specs.Prelude.{OnOk}
use Rattle.scoop_message.specs.declared.name.Block.{Block}
use Rattle.scoop_message.specs.declared.name.ClientId.{ClientId}
use Rattle.scoop_message.specs.declared.name.HandlerId.{HandlerId}
use Rattle.scoop_client.specs.declared.phase.Phase.{Phase}
use Rattle.scoop_client.specs.declared.phase.Phase.TheVariants.{Greeting, Idle, Locking, Opening, Running, Ending, GivingUp}
use Rattle.scoop_client.specs.State.{ClientState, phase_of}
use Rattle.scoop_keeper.specs.Keeper.{IsSame}
use Rattle.scoop_driver.specs.declared.step.Step.{Step}
use Rattle.scoop_driver.specs.Steps.{AllCan, walk}
use Rattle.scoop_driver.specs.State.{Seen}
use Rattle.scoop_texts.specs.declared.error.RuntimeError.{RuntimeError}
use Rattle.scoop_session.specs.declared.parting.Left.{Left}
use Rattle.scoop_session.specs.declared.parting.Left.TheVariants as left
use Rattle.scoop_texts.specs.declared.progress.ClientStop.{ClientStop}
use Rattle.scoop_texts.specs.declared.progress.Unended.{Unended}
use Rattle.scoop_texts.specs.declared.progress.Unended.TheVariants.{Nothing, When, GivenUp, Cut, Held}
use Rattle.scoop_runtime.specs.Beginnings.{BeginsNext}
use Rattle.scoop_runtime.specs.ClientLives.{AreLives, BeginsNone, ClientLife, ClientRan, LivesAtMostOnce, LivesBy, LivesOf, LivesOn}
use Rattle.scoop_runtime.specs.ClientLives.{LivesThen, RunsLives, Lived, Unbegun, it_stays, it_takes}
use Rattle.scoop_runtime.specs.Cutting.{BecomesOf, PartsFrom}
use Rattle.scoop_session.specs.Obeying.{Drives}
use Rattle.scoop_session.specs.Parting.{Leaves}
use Rattle.scoop_session.specs.Endings.{input_ended}
use Rattle.scoop_session.proofs.Driven.{drives_both}

same_incarnations : (i : ℕ → Option ℕ) → IsSame i i
same_incarnations i = record { each = λ c. refl }

-- ---- one life

module _ (id : ClientId) (batch : ℕ) (known : List HandlerId) where
  -- a keeper that is honest later was honest then
  begins_later : (old new : ℕ → Option ℕ) (honest later : Type 0) (c : ClientState) → (later → honest) → BeginsNext id batch known old new honest c
      → BeginsNext id batch known old new later c
  begins_later old new honest later c was begins =
      record { inc = begins.inc; begins = begins.begins; limit = begins.limit; next = λ h. begins.next (was h); stored = λ h. begins.stored (was h) }

  pub lives_none : (old new : ℕ → Option ℕ) (honest : Type 0) → BeginsNone id old new honest → LivesAtMostOnce id batch known old new honest
  lives_none old new honest (it_stays stays) = record { lives = []; are = stays; few = omega arith }
  lives_none old new honest (it_takes takes) =
      record { lives = Unbegun new ∷ []; are = (takes, λ _. same_incarnations new); few = omega arith }

  pub lives_once : (old new : ℕ → Option ℕ) (honest : Type 0) (fresh : ClientState) (s t : Seen) → BeginsNext id batch known old new honest fresh
      → s.client ≡ fresh → Drives s t → LivesAtMostOnce id batch known old new honest
  lives_once old new honest fresh s t begins is (steps, goes) = record {
    lives = Lived s.client steps new ∷ [];
    are = (subst (λ c. BeginsNext id batch known old new honest c) (sym is) begins, goes.can, λ _. same_incarnations new);
    few = omega arith;
  }

  -- ---- a client that begins, and what comes after its first life

  module _ (old between new : ℕ → Option ℕ) (honest later : Type 0) (was : later → honest) (c : ClientState)
      (begins : BeginsNext id batch known old between honest c) where
    first_then : (steps : List Step) (lives : List ClientLife) → AllCan c steps → AreLives id batch known later between lives new
        → AreLives id batch known later old (Lived c steps between ∷ lives) new
    first_then steps lives can are = (begins_later old between honest later c was begins, can, are)

    abbrev lives_first : (steps : List Step) (more : List ClientLife) → LivesThen (Lived c steps between ∷ more) more
    lives_first steps more = record { fresh = c; steps = steps; stored = between; are = refl }

    -- it ended early
    same_nothing : (last : Option (Block × List HandlerId)) → PartsFrom id batch known last Nothing between new later → later → IsSame between new
    same_nothing None parts = parts.1
    same_nothing (Some x) parts = parts

    same_when : (last : Option (Block × List HandlerId)) → PartsFrom id batch known last When between new later → later → IsSame between new
    same_when None parts = parts.1
    same_when (Some x) parts = parts

    same_given_up : (b : Block) (last : Option (Block × List HandlerId)) → PartsFrom id batch known last (GivenUp b) between new later → later
        → IsSame between new
    same_given_up b None parts = parts.1
    same_given_up b (Some x) parts = parts

    gave_up : (b : Block) (rest : Left) → BecomesOf rest (GivenUp b) → rest ≡ left.GivenUp
    gave_up b left.Nothing becomes = cc
    gave_up b left.When becomes = cc
    gave_up b left.GivenUp becomes = refl
    gave_up b left.Open becomes = absurd becomes

    module _ (e : RuntimeError) (rest : Left) (on : LivesOn c (Err e) rest) where
      abbrev early : Unended → Type 0
      early u = RunsLives {E = RuntimeError} id batch known old new later (Err e) u

      alone : (later → IsSame between new) → AreLives id batch known later old (Lived c on.steps between ∷ []) new
      alone same = first_then on.steps [] on.can same

      ran_cut : (b : Block) (last : Option (Block × List HandlerId)) → PartsFrom id batch known last (Cut b) between new later → early (Cut b)
      ran_cut b None parts = absurd parts.0
      ran_cut b (Some x) parts = record {
        lives = Lived c on.steps between ∷ Lived parts.fresh parts.steps new ∷ [];
        are = first_then on.steps (Lived parts.fresh parts.steps new ∷ []) on.can (parts.begins, parts.can, λ _. same_incarnations new);
        by_end = record {
          later = Lived parts.fresh parts.steps new ∷ [];
          first = lives_first on.steps (Lived parts.fresh parts.steps new ∷ []);
          last = record { fresh = parts.fresh; steps = parts.steps; stored = new; are = refl };
          silent = parts.silent;
          handlers = x.1;
          greeted = parts.greeted;
        };
      }

      ran_held : (b : Block) (last : Option (Block × List HandlerId)) → PartsFrom id batch known last (Held b) between new later → early (Held b)
      ran_held b None parts = record {
        lives = Lived c on.steps between ∷ [];
        are = alone parts.1;
        by_end = record { later = []; first = lives_first on.steps []; few = omega arith };
      }
      ran_held b (Some x) parts = record {
        lives = Lived c on.steps between ∷ parts.lives;
        are = first_then on.steps parts.lives on.can parts.are;
        by_end = record { later = parts.lives; first = lives_first on.steps parts.lives; few = parts.few };
      }

      ran_early : (last : Option (Block × List HandlerId)) (u : Unended) → PartsFrom id batch known last u between new later → BecomesOf rest u → early u
      ran_early last Nothing parts becomes =
          record { lives = Lived c on.steps between ∷ []; are = alone (same_nothing last parts); by_end = omega arith }
      ran_early last When parts becomes =
          record { lives = Lived c on.steps between ∷ []; are = alone (same_when last parts); by_end = lives_first on.steps [] }
      ran_early last (GivenUp b) parts becomes = record {
        lives = Lived c on.steps between ∷ [];
        are = alone (same_given_up b last parts);
        by_end = record { once = lives_first on.steps []; idle = on.given_up (gave_up b rest becomes) };
      }
      ran_early last (Cut b) parts becomes = ran_cut b last parts
      ran_early last (Held b) parts becomes = ran_held b last parts

    pub ran_lives : (ended : Result (Unit {0}) RuntimeError) (rest : Left) (last : Option (Block × List HandlerId)) (u : Unended)
        → LivesOn c ended rest → PartsFrom id batch known last u between new later → BecomesOf rest u
        → RunsLives {E = RuntimeError} id batch known old new later ended u
    ran_lives (Ok done) rest last u on parts becomes =
        let none : u ≡ Nothing = subst (λ r. BecomesOf r u) on.nothing becomes in
        let same = same_nothing last (subst (λ v. PartsFrom id batch known last v between new later) none parts) in
        record {
          lives = Lived c on.steps between ∷ [];
          are = first_then on.steps [] on.can same;
          by_end = record { once = lives_first on.steps []; idle = on.idle };
        }
    ran_lives (Err e) rest last u on parts becomes = ran_early e rest on last u parts becomes

  -- no client began
  ran_early_none : (old new : ℕ → Option ℕ) (honest : Type 0) (e : RuntimeError) → BeginsNone id old new honest
      → RunsLives {E = RuntimeError} id batch known old new honest (Err e) Nothing
  ran_early_none old new honest e none =
      let once = lives_none old new honest none in
      record { lives = once.lives; are = once.are; by_end = once.few }

  pub ran_none : (old new : ℕ → Option ℕ) (honest : Type 0) (ended : Result (Unit {0}) RuntimeError) (u : Unended) (e : RuntimeError)
      → BeginsNone id old new honest → ended ≡ Err e → u ≡ Nothing → RunsLives {E = RuntimeError} id batch known old new honest ended u
  ran_none old new honest ended u e none is nothing =
      subst (λ r. RunsLives {E = RuntimeError} id batch known old new honest r u) (sym is)
      (subst (λ v. RunsLives {E = RuntimeError} id batch known old new honest (Err e) v) (sym nothing) (ran_early_none old new honest e none))

  pub ran_nowhere : (old : ℕ → Option ℕ) (honest : Type 0) (ended : Result (Unit {0}) RuntimeError) (u : Unended) (e : RuntimeError)
      → ended ≡ Err e → u ≡ Nothing → RunsLives {E = RuntimeError} id batch known old old honest ended u
  ran_nowhere old honest ended u e is nothing = ran_none old old honest ended u e (it_stays (λ _. same_incarnations old)) is nothing

  -- ---- the whole run

  pub client_ran_well : (old new : ℕ → Option ℕ) (honest : Type 0) (ended : Result (Unit {0}) RuntimeError) (u : Unended) → ended ≡ Ok (tt {0})
      → RunsLives {E = RuntimeError} id batch known old new honest ended u → ClientRan id batch known old new honest (Ok (tt {0}))
  client_ran_well old new honest ended u is runs =
      record { lives = runs.lives; are = runs.are; by_end = subst (λ r. LivesOf {E = RuntimeError} r u runs.lives) is runs.by_end }

  pub client_ran_early : (old new : ℕ → Option ℕ) (honest : Type 0) (ended : Result (Unit {0}) RuntimeError) (u : Unended) (e : RuntimeError)
      (stop : ClientStop) → ended ≡ Err e → stop.progress.unended ≡ u → RunsLives {E = RuntimeError} id batch known old new honest ended u
      → ClientRan id batch known old new honest (Err stop)
  client_ran_early old new honest ended u e stop is left_so runs =
      let by : LivesBy u runs.lives = subst (λ r. LivesOf {E = RuntimeError} r u runs.lives) is runs.by_end in
      record { lives = runs.lives; are = runs.are; by_end = subst (λ v. LivesBy v runs.lives) (sym left_so) by }

-- ---- a session

-- an input that ended outside of blocks left an idle client
ended_idle : (waits : Bool) (p : Phase) → input_ended waits p ≡ Ok (tt {0}) → p ≡ Idle
ended_idle true p is = cc
ended_idle false Idle is = refl
ended_idle false Greeting is = cc
ended_idle false Locking is = cc
ended_idle false Opening is = cc
ended_idle false Running is = cc
ended_idle false Ending is = cc
ended_idle false GivingUp is = cc

if_well : {E : Type 0} (P Q : Type 0) (r : Result (Unit {0}) E) → (P → Q) → OnOk r P → OnOk r Q
if_well P Q (Ok u) then p = then p
if_well P Q (Err e) then p = tt

-- nothing was left
idle_left : (rest : Left) (waits : Bool) (t u : Seen) → Leaves rest waits t u → rest ≡ left.Nothing → phase_of t.client ≡ Idle → phase_of u.client ≡ Idle
idle_left left.Nothing waits t u leaves is idle = ap (λ (s : Seen). phase_of s.client) leaves.1 ∙ idle
idle_left left.When waits t u leaves is idle = cc
idle_left left.GivenUp waits t u leaves is idle = cc
idle_left left.Open waits t u leaves is idle = cc

given_back : (rest : Left) (waits : Bool) (t u : Seen) → Leaves rest waits t u → rest ≡ left.GivenUp → phase_of u.client ≡ Idle
given_back left.Nothing waits t u leaves is = cc
given_back left.When waits t u leaves is = cc
given_back left.GivenUp waits t u leaves is = leaves
given_back left.Open waits t u leaves is = cc

-- the steps of a session, and of what it did at its end
pub lives_on : (c : ClientState) (waits : Bool) (ended : Result (Unit {0}) RuntimeError) (rest : Left) (s t u : Seen) → s.client ≡ c → Drives s t
    → OnOk ended (input_ended waits (phase_of t.client) ≡ Ok (tt {0})) → Leaves rest waits t u → Drives t u
    → (input_ended waits (phase_of t.client) ≡ Ok (tt {0}) → rest ≡ left.Nothing) → LivesOn c ended rest
lives_on c waits ended rest s t u is first well leaves last nothing =
    let both = drives_both s t u first last in
    let goes = both.1 in
    let now : phase_of u.client ≡ phase_of (walk c both.0) = ap phase_of goes.client ∙ ap (λ d. phase_of (walk d both.0)) is in
    record {
      steps = both.0;
      can = subst (λ d. AllCan d both.0) is goes.can;
      idle = if_well _ _ ended
          (λ over. sym now ∙ idle_left rest waits t u leaves (nothing over) (ended_idle waits (phase_of t.client) over)) well;
      nothing = if_well _ _ ended nothing well;
      given_up = λ gave. sym now ∙ given_back rest waits t u leaves gave;
    }
