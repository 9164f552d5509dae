-- The lasting claims of every message that was ever sent. The layers have these facts as invariants. Here each is stated as the
-- theorem states it, for every message of a world that is reached.
use Rattle.scoop_model.proofs.Names.{◌≡◌, ℕ, ◌+◌, List, [], ◌∷◌, ◌++◌, Some, sym, ap, ◌∙◌, subst, arith, zero, suc, slice_get, false, true≢false, length, ◌-◌}
use Rattle.scoop_model.proofs.Names.{Contains, inl, nat_lt, append_assoc, nat_tests, slice_get-get_or, AllByRecursion, list_any, option_map_or, Message, Open}
use Rattle.scoop_model.proofs.Names.{Block, ClientId, HandlerId, Entry, all_found, all_both, all_at, mark_of-client, Mark, AtHeld, AtShut, AtOpen, IsReached}
use Rattle.scoop_model.proofs.Names.{TellsGranted, stored_of, TellsStored, TellsGreeted, HoldsOpenedOrOver, TellsHeld, TellsOpened, HasOpenedAtAll, IsAbandoned}
use Rattle.scoop_model.proofs.Names.{TellsUnlocked, AreOfLog, TellsLogged, TellsRan, World, Site, is_site, log_of, inc_of}
use Rattle.scoop_handler.specs.declared.mark.Stage.{Stage}
use Rattle.scoop_model.proofs.Stands.{Stands}
use Rattle.scoop_model.proofs.Order.{IsGranted, Tells, SiteFits, all_more_of, same_block_itself, ordered_kept, opens_ordered, Ordered}
use Rattle.scoop_model.proofs.Logging.{Carries, Greets, IsOpenedAtAll, IsGivenUp, Shows, is_open_of}
use Rattle.scoop_model.proofs.Answering.{TellsAnswer}
use Rattle.scoop_model.proofs.Ready.{reached_facts, reached_keeps}
use Rattle.scoop_model.proofs.Ready.Runs.{Facts}
use Rattle.scoop_model.proofs.Granting.{granting_kept, opens_granting, Granting}
use Rattle.scoop_model.proofs.Events.{both_kept}

-- ---- lists

-- an item of a list's front part is in the list
slice_front : {A : Type 0} (xs ys : List A) (j : ℕ) (x : A) → slice_get xs j ≡ Some x → slice_get (xs ++ ys) j ≡ Some x
slice_front [] ys j x e = absurd (cc)
slice_front (y ∷ xs) ys zero x e = e
slice_front (y ∷ xs) ys (suc j) x e = slice_front xs ys j x e

-- an item of the back part is in the list, that many places later
slice_behind : {A : Type 0} (xs ys : List A) (i j : ℕ) → i ≡ length xs + j → slice_get (xs ++ ys) i ≡ slice_get ys j
slice_behind [] ys i j e = let same : i ≡ j = omega (arith, e) in ap (slice_get ys) same
slice_behind (x ∷ xs) ys zero j e = absurd (omega (arith, e))
slice_behind (x ∷ xs) ys (suc i) j e = slice_behind xs ys i j (omega (arith, e))

-- a property of each element holds of one that the list contains
contained : {A : Type 0} (P : A → Type 0) (xs : List A) (x : A) → AllByRecursion P xs → Contains xs x → P x
contained P xs x all is = all_at P xs is.0 x (slice_get-get_or xs is.0 x is.1 ∙ ap Some is.2) all

none_any : {A : Type 0} (test : A → _) (xs : List A) → list_any test xs ≡ false → AllByRecursion (λ x. test x ≡ false) xs
none_any test [] e = tt
none_any test (x ∷ xs) e = grind (arith, none_any test xs)

module _ (w : World) (f : Facts w) where
  -- ---- greetings

  inc_stored : (c : ClientId) → inc_of w c ≡ stored_of c w
  inc_stored c = grind (arith, option_map_or, all_found)

  tells_stored : (m : Message) → Greets w m → TellsStored w m
  tells_stored m g = record { stored = λ h c inc is. let le = subst (Greets w) is g in let own = inc_stored c in omega (arith, le, own) }

  tells_greeted : (m : Message) → Greets w m → TellsGreeted w m
  tells_greeted m g = grind arith

  -- ---- locks

  -- the client's mark is the block's own
  module _ (h : HandlerId) (b : Block) (g : IsGranted w h b) where
    abbrev site : Site
    site = g.site

    abbrev mark : Mark
    mark = g.reached.mark

    own_held : mark.inc ≡ b.inc → mark.num ≡ b.num → (stage : Stage) → mark.stage ≡ stage → HoldsOpenedOrOver w h b
    own_held inc num AtHeld is = record {
      site = site;
      found = g.found;
      is = inl ((all_found (SiteFits w.joint) (is_site h) w.sites site f.ordered.sites g.found).holds b
          (record { mark = mark; found = g.reached.found; inc = inc; num = num; stage = is }));
    }
    own_held inc num AtOpen is = grind (arith, all_found, mark_of-client)
    own_held inc num AtShut is = grind arith

    same_inc_held : mark.inc ≡ b.inc → HoldsOpenedOrOver w h b
    same_inc_held inc = grind (arith, nat_lt, nat_tests, own_held)

    granted_held : HoldsOpenedOrOver w h b
    granted_held = grind (arith, nat_lt, nat_tests, same_inc_held)

  tells_held : (m : Message) → Tells w m → TellsHeld w m
  tells_held m t = record { held = λ h b is. granted_held h b (subst (Tells w) is t) }

  -- ---- openings

  opened_all : (b : Block) → IsOpenedAtAll w b → HasOpenedAtAll w b
  opened_all b o = record { handlers = o.handlers; set = o.set; opened = o.opened }

  is_abandoned : (b : Block) → IsGivenUp w b → IsAbandoned w b
  is_abandoned b g = record {
    unopened = λ h was. true≢false (sym (same_block_itself b)
        ∙ contained (λ m. is_open_of b m ≡ false) w.sent (Open h b) (none_any (is_open_of b) w.sent g.none) was);
    given_up = λ p at r held own. g.left b.client p at r held own;
  }

  tells_opened : (m : Message) → Shows w m → TellsOpened w m
  tells_opened m s = record { opened = λ h b is. subst (Shows w) is s }

  tells_unlocked : (m : Message) → Shows w m → TellsUnlocked w m
  tells_unlocked m s = grind (arith, opened_all, is_abandoned)

  -- ---- logs and answers

  of_log : (log : List Entry) (n : ℕ) (es : List Entry) → Stands log n es → AreOfLog log n es
  of_log log n es s =
      let number = s.number in
      record {
        from = omega (arith, number);
        each = λ j e at.
            subst (λ xs. slice_get xs (n - 1 + j) ≡ Some e) (sym (append_assoc s.before es s.behind) ∙ s.all)
            (slice_behind s.before (es ++ s.behind) (n - 1 + j) j (omega (arith, number)) ∙ slice_front es s.behind j e at);
      }

  tells_logged : (m : Message) → Carries w m → Shows w m → TellsLogged w m
  tells_logged m c s = record { logged = λ h b n es is. (of_log (log_of b h w) n es (subst (Carries w) is c), opened_all b (subst (Shows w) is s).1) }

  tells_ran : (m : Message) → TellsAnswer w m → TellsRan w m
  tells_ran m t = record { ran = λ h b n a is. subst (TellsAnswer w) is t }

-- ---- every message of a world that is reached

module _ (w : World) (r : IsReached w) where
  facts : Facts w
  facts = reached_facts w r

  pub all_stored : AllByRecursion (TellsStored w) w.sent
  all_stored = all_more_of (Greets w) (TellsStored w) (tells_stored w facts) w.sent facts.greetings.messages

  pub all_greeted : AllByRecursion (TellsGreeted w) w.sent
  all_greeted = all_more_of (Greets w) (TellsGreeted w) (tells_greeted w facts) w.sent facts.greetings.messages

  pub all_held : AllByRecursion (TellsHeld w) w.sent
  all_held = all_more_of (Tells w) (TellsHeld w) (tells_held w facts) w.sent facts.ordered.messages

  pub all_granted : AllByRecursion (TellsGranted w) w.sent
  all_granted =
      (reached_keeps (λ v. Ordered v × Granting v) (λ v i. both_kept Ordered Granting v (ordered_kept v i.0) (granting_kept v i.0 i.1))
      (λ ps ns may. (opens_ordered ps ns, opens_granting ps ns)) w r).1.messages

  pub all_opened : AllByRecursion (TellsOpened w) w.sent
  all_opened = all_more_of (Shows w) (TellsOpened w) (tells_opened w facts) w.sent facts.openings.messages

  pub all_unlocked : AllByRecursion (TellsUnlocked w) w.sent
  all_unlocked = all_more_of (Shows w) (TellsUnlocked w) (tells_unlocked w facts) w.sent facts.openings.messages

  pub all_logged : AllByRecursion (TellsLogged w) w.sent
  all_logged = all_both (Carries w) (Shows w) (TellsLogged w) (tells_logged w facts) w.sent facts.logging.messages facts.openings.messages

  pub all_ran : AllByRecursion (TellsRan w) w.sent
  all_ran = all_more_of (TellsAnswer w) (TellsRan w) (tells_ran w facts) w.sent facts.answering.messages
