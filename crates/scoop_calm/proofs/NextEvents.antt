-- The next events, taken again and again, lead from every reached world to a calm one. An event that may be next leaves
-- less to do, and if nothing is next, the world is calm.
use Rattle.scoop_calm.proofs.Names.{◌≡◌, ◌<◌, ◌==◌, ◌&&◌, ◌||◌, Bool, true, false, true≢false, List, [], ◌∷◌, length, Option, Some, None, refl, sym, ap, ◌∙◌}
use Rattle.scoop_calm.proofs.Names.{subst, ⊎_elim, arith, same_Some, if◌then◌else◌, is_none, is_some, option_map, option_map_or, is_ok, nat_tests, MAX_QUEUES}
use Rattle.scoop_calm.proofs.Names.{Block, HandlerId, Message, Lock, Open, Unlock, same_block, PrivateQueue, pending, front, Mark, IsCore}
use Rattle.scoop_calm.proofs.Names.{is_open as is_open_stage, mark_of, HolderIsUnderWay, is_holder, task_of, first_task, Stage, Locking, Opening, Unlocking}
use Rattle.scoop_calm.proofs.Names.{GivingUp, has, is_lowest, ReservationState, WindowState, window_of, due, DoEnd, Outcome, command, DueRow, owes_nothing}
use Rattle.scoop_calm.proofs.Names.{greets, reserves, logs, EndRow, ends_block, due_row, command_row, World, Site, Party, number_of, id_of, party_of, site_of}
use Rattle.scoop_calm.proofs.Names.{IsReached, same_block_is, same_block_itself, IsHeldIn, unlocking_is, running_is, found_has, Next, is_open_at, can_do}
use Rattle.scoop_calm.proofs.Names.{asks_well, is_out, can_begin, can_end, Member, inl, inr, ℕ, zero, suc, ◌≤◌, ◌++◌, ◌↔◌, Ok, option_or, append-nil, Hello}
use Rattle.scoop_calm.proofs.Names.{due_in_block, end_block, Event, Run, run, steps, Leads, none_in_empty, has_less, events_of, next_finish, next_begin, ask_of}
use Rattle.scoop_calm.proofs.Names.{next_ask, next_end, next_of, next_events, Settles, stays, IsIdle, IsFree, Calm, settling, left}
use Rattle.scoop_reserve.specs.Due as owed
use Rattle.scoop_calm.specs.declared.next.Next.TheVariants as next
use Rattle.scoop_queue.specs.Sound.{AreApart}
use Rattle.scoop_calm.proofs.Lists.{all_member, none_long, lowest_has}
use Rattle.scoop_calm.proofs.Chosen.{IsChoice, finishes, begins, asks, ends, chosen, none_chosen, none_found, none_or}
use Rattle.scoop_calm.proofs.Moves.{finish_helps, begin_helps, Helps, party_found, site_found, Less, for_clients, for_room, for_work, Useful, by_what_is_left}
use Rattle.scoop_calm.proofs.Talk.{greet_useful, IsReleasing, unlocks, gives_back, block_fits, own_windows, unlock_useful, ending_useful}
use Rattle.scoop_calm.proofs.Opening.{OwnMark, beside, open_useful}
use Rattle.scoop_calm.proofs.Logs.{IsIdleIn, log_useful}
use Rattle.scoop_calm.proofs.Blocks.{queue_there}
use Rattle.scoop_calm.proofs.NeverStuck.{if_free, if_own, settles_leads, calm_or}
use Rattle.scoop_calm.proofs.Everything.{AllFacts, everything}
use Rattle.scoop_calm.proofs.Stepping.{has_nothing}
use Rattle.scoop_calm.proofs.RoundsCalm.{helps_falls}

-- -------- An event that may be next in a reached world leaves less to do. There are three kinds: a job that is out or can go
-- out, a client that asks, and a client that ends its block. A client that asks sends what is due: a greeting, its
-- reservation's message, or a Log. The test of the choice is just what the useful move of that message needs.

given : (t : Bool) (m n : Message) → (if t then Some n else None) ≡ Some m → (t ≡ true) × (n ≡ m)
given true m n e = (refl, same_Some n m e)
given false m n e = absurd (cc)

not_given : (t : Bool) (n : Message) → ◌≡◌ {A = Option Message} (if t then Some n else None) None → t ≡ false
not_given true n e = absurd (cc)
not_given false n e = refl

-- where nothing of the block is pending, its queue is empty
idle_in : (b : Block) (qs : List PrivateQueue) → AreApart qs → (pending b qs == 0) ≡ true → IsIdleIn qs b
idle_in b [] apart none x m own = absurd m
idle_in b (y ∷ ys) apart none x (inl same) own =
    let here : same_block b y.block ≡ true = ap (same_block b) (ap (λ (q : PrivateQueue). q.block) same ∙ own) ∙ same_block_itself b in
    let size : length y.entries ≡ 0 = grind (arith, nat_tests, here) in
    ap (λ (q : PrivateQueue). q.entries) (sym same) ∙ none_long y.entries (omega (arith, size))
idle_in b (y ∷ ys) apart none x (inr n) own =
    let there : same_block b y.block ≡ true → ⊥ = λ is. true≢false (sym (queue_there y.block ys x n (own ∙ same_block_is b y.block is)) ∙ apart.0) in
    idle_in b ys apart.1 (grind (arith, none, there)) x n own

-- a block that is open isn't held
not_held : (marks : List Mark) (b : Block) → is_open_at b (mark_of b.client marks) ≡ true → IsHeldIn marks b → ⊥
not_held marks b opened held =
    let there : (held.mark.num == b.num && is_open_stage held.mark.stage) ≡ true = ap (is_open_at b) (sym held.found) ∙ opened in
    let closed = ap is_open_stage held.stage in
    absurd (grind (arith, there, closed))

module _ (w : World) (r : IsReached w) (e : AllFacts w r) where
  -- ---- a client asks

  module _ (p : Party) (mp : Member p w.parties) (s : Site) (ms : Member s w.sites) where
    abbrev h : HandlerId
    h = number_of s

    at : party_of (id_of p) w ≡ Some p
    at = party_found w r p mp

    here : site_of h w ≡ Some s
    here = site_found w r s ms

    core : IsCore s.core
    core = all_member (λ (x : Site). IsCore x.core) w.sites s e.background.sound.sites ms

    module _ (q : ReservationState) (held : p.client.reservation ≡ Some q) where
      lock_helps : q.stage ≡ Locking → is_lowest h q.left ≡ true → (is_none s.core.state.holder || is_holder s.core.state.holder q.block) ≡ true
          → Helps w (next.Ask (id_of p) h)
      lock_helps stage low can = by_holder s.core.state.holder refl can
        where
          named : has q.handlers h ≡ true
          named = (block_fits w r e p at q held).reserves.within h (lowest_has h q.left low)

          own : OwnMark w r e p at q held h
          own = beside w r e p at q held h named

          same : own.mark.site ≡ s
          same = same_Some own.mark.site s (sym own.mark.found ∙ here)

          by_holder : (o : Option Block) → s.core.state.holder ≡ o → (is_none o || is_holder o q.block) ≡ true → Helps w (next.Ask (id_of p) h)
          by_holder None is f = if_free w r e p at q held stage h named (ap (λ (x : Site). x.core.state.holder) same ∙ is) low
          by_holder (Some b) is f =
              let block : b ≡ q.block = same_block_is b q.block f in
              let way : HolderIsUnderWay (Some b) s.core.state.marks = subst (λ o. HolderIsUnderWay o s.core.state.marks) is core.state.holder in
              let found : mark_of q.block.client s.core.state.marks ≡ Some way.mark = ap (λ (y : Block). mark_of y.client s.core.state.marks) (sym block)
              ∙ way.found in
              let one : own.mark.mark ≡ way.mark = same_Some own.mark.mark way.mark
              (sym own.found ∙ ap (λ (x : Site). mark_of q.block.client x.core.state.marks) same ∙ found) in
              let num : own.mark.mark.num ≡ q.block.num = ap (λ (k : Mark). k.num) one ∙ ap (λ (y : Block). y.num) (way.newest ∙ block) in
              if_own w r e p at q held stage h named num low

      open_helps : q.stage ≡ Opening → has q.left h ≡ true → can_do s.core.state (Open h q.block) ≡ true → Helps w (next.Ask (id_of p) h)
      open_helps stage left can = open_useful w r e p at q held stage h left
          (λ x found is. subst (λ (y : Site). (length y.core.state.queues == MAX_QUEUES) ≡ false) (same_Some s x (sym here ∙ found))
          (room (subst (λ (y : Site). IsHeldIn y.core.state.marks q.block) (same_Some x s (sym found ∙ here)) is)))
        where
          room : IsHeldIn s.core.state.marks q.block → (length s.core.state.queues == MAX_QUEUES) ≡ false
          room is =
              let shut = λ (t : is_open_at q.block (mark_of q.block.client s.core.state.marks) ≡ true). not_held s.core.state.marks q.block t is in
              grind (arith, can, shut)

      log_helps : q.stage ≡ Unlocking → owed.due q h ≡ None → (l : WindowState) → window_of h p.client.windows ≡ Some l → (length l.unacked == 0) ≡ false
          → (pending q.block s.core.state.queues == 0) ≡ true → Helps w (next.Ask (id_of p) h)
      log_helps stage owes l window some none =
          let named : has q.handlers h ≡ true = ap (λ hs. has hs h) (sym (own_windows w r e p at q held).handlers)
          ∙ found_has (λ (y : WindowState). y.handler) h p.client.windows l window in
          let free : has q.left h ≡ false = not_given (has q.left h) (Unlock h q.block) (ap (owed.due_in q h) (sym stage) ∙ owes) in
          let more : 0 < length l.unacked = grind (arith, nat_tests) in
          let own = beside w r e p at q held h named in
          let same : s ≡ own.mark.site = same_Some s own.mark.site (sym here ∙ own.mark.found) in
          log_useful w r e p at q held stage h named free l window more
          (subst (λ (x : Site). IsIdleIn x.core.state.queues q.block) same (idle_in q.block s.core.state.queues core.state.queues.apart none))

      by_stage : (m : Message) (stage : Stage) → q.stage ≡ stage → owed.due_in q h stage ≡ Some m → can_do s.core.state m ≡ true
          → Helps w (next.Ask (id_of p) h)
      by_stage m Locking is owes can = let g = given (is_lowest h q.left) m (Lock h q.block) owes in lock_helps is g.0 (ap (can_do s.core.state) g.1 ∙ can)
      by_stage m Opening is owes can = let g = given (has q.left h) m (Open h q.block) owes in open_helps is g.0 (ap (can_do s.core.state) g.1 ∙ can)
      by_stage m Unlocking is owes can = unlock_useful w r e p at q held (subst IsReleasing (sym is) unlocks) h
          (given (has q.left h) m (Unlock h q.block) owes).0
      by_stage m GivingUp is owes can = unlock_useful w r e p at q held (subst IsReleasing (sym is) gives_back) h
          (given (has q.left h) m (Unlock h q.block) owes).0

    by_due : (o : Option Message) → DueRow p.client h o → option_map_or (can_do s.core.state) o false ≡ true → Helps w (next.Ask (id_of p) h)
    by_due _ owes_nothing can = absurd (true≢false (sym can))
    by_due _ (greets left) can = greet_useful w r e p at h left
    by_due _ (reserves q m welcome held owes) can = by_stage q held m q.stage refl owes can
    by_due _ (logs q l welcome held owes opened window some) can = log_helps q held (unlocking_is q.stage opened) owes l window some can

    ask_helps : asks_well p s ≡ true → Helps w (next.Ask (id_of p) h)
    ask_helps can = by_due (due p.client h) (due_row p.client h) can

  -- ---- a client ends its block

  end_helps : (p : Party) → Member p w.parties → can_end p ≡ true → Helps w (next.End (id_of p))
  end_helps p m can = by_row (command p.client DoEnd) (command_row p.client DoEnd) can
    where
      by_row : (o : Outcome) → EndRow p.client o → is_ok o ≡ true → Helps w (next.End (id_of p))
      by_row _ (ends_block running free room) ok =
          let run = running_is p.client running in
          let q = run.reservation in
          let at = party_found w r p m in
          ending_useful w r p at q run.held (block_fits w r e p at q run.held) (unlocking_is q.stage run.opened) run.going free room
      by_row o row ok = absurd (cc)

  -- ---- each of them

  pub helping : (x : Next) → IsChoice w x → Helps w x
  helping _ (finishes s m is) =
      finish_helps w r s (site_found w r s m) (all_member (λ (x : Site). IsCore x.core) w.sites s e.background.sound.sites m) is
  helping _ (begins s m is) = begin_helps w r s (site_found w r s m) is
  helping _ (asks p s m n is) = ask_helps p m s n is
  helping _ (ends p m is) = end_helps p m is

-- -------- The next events, taken again and again, lead from every reached world to a calm one. Each leaves less to do, so they
-- come to an end. If nothing is next, no useful move is left, so the world is calm. In a calm world nothing is next.

-- ---- less is left to do, as a test

pub less_has : (v w : World) → Less v w → has_less v w ≡ true
less_has v w (for_clients l) = grind (arith, nat_tests, l)
less_has v w (for_room l m) = grind (arith, nat_tests, l, m)
less_has v w (for_work l m n) = grind (arith, nat_tests, l, m, n)

-- ---- where something is next

-- it may be next, so it leaves less to do
next_helps : (w : World) → IsReached w → (x : Next) → next_of w ≡ Some x → Helps w x
next_helps w r x is = helping w r (everything w r) x (chosen w x is)

leads_there : (w : World) (x : Next) (h : Helps w x) → steps w (events_of w x) ≡ h.after
leads_there w x h =
    let es : List Event = events_of w x in
    let all : es ++ [] ≡ es = append-nil es in
    let leads : run w (es ++ []) ≡ (h.after, Ok (length (es ++ []))) = settles_leads w h.after (es ++ []) (h.goes [] h.after (stays h.after)) in
    ap (λ xs. (run w xs).0) (sym all) ∙ ap (λ (y : Run). y.0) leads

pub leaves_less : (w : World) → IsReached w → (x : Next) → next_of w ≡ Some x → has_less (steps w (events_of w x)) w ≡ true
leaves_less w r x is = let h = next_helps w r x is in ap (λ v. has_less v w) (leads_there w x h) ∙ less_has h.after w h.less

-- ---- where nothing is

calm_where_none : (w : World) → IsReached w → next_of w ≡ None → Calm w
calm_where_none w r none = ⊎_elim (λ (calm : Calm w). calm) (λ (u : Useful w). absurd (none_chosen w none u.next u.helps.choice)) (calm_or w r)

module _ (w : World) (calm : Calm w) where
  free : (s : Site) → Member s w.sites → IsFree s
  free s m = all_member IsFree w.sites s calm.sites m

  idle : (p : Party) → Member p w.parties → IsIdle p
  idle p m = all_member IsIdle w.parties p calm.parties m

  begins_nothing : (s : Site) → Member s w.sites → can_begin s ≡ false
  begins_nothing s m =
      ap (λ b. is_some (if b then None else first_task s.core)) (free s m).here
      ∙ ap (λ qs. is_some (option_map (task_of s.core) (front qs))) (free s m).queues

  asks_nothing : (p : Party) → Member p w.parties → (s : Site) → asks_well p s ≡ false
  asks_nothing p m s =
      let n = has_nothing p.client (idle p m).idle in
      let h = number_of s in
      let welcome : has p.client.unwelcomed h ≡ false = none_in_empty p.client.unwelcomed h n.welcome in
      let none : due p.client h ≡ None =
      ap (λ t. if t then Some (Hello h p.client.id p.client.inc) else due_in_block p.client h p.client.reservation) welcome
      ∙ ap (due_in_block p.client h) n.none in
      ap (λ o. option_map_or (can_do s.core.state) o false) none

  no_asks : (ps : List Party) → ((p : Party) → Member p ps → Member p w.parties) → next_ask w.sites ps ≡ None
  no_asks [] within = refl
  no_asks (p ∷ ps) within =
      none_or (ask_of w.sites p) (next_ask w.sites ps)
      (none_found (asks_well p) (λ (s : Site). next.Ask (id_of p) (number_of s)) w.sites (λ s n. asks_nothing p (within p (inl refl)) s))
      (no_asks ps (λ q m. within q (inr m)))

  none_where_calm : next_of w ≡ None
  none_where_calm =
      none_or (next_finish w) (option_or (next_begin w) (option_or (next_ask w.sites w.parties) (next_end w)))
      (none_found is_out (λ (s : Site). next.Finish (number_of s)) w.sites (λ s m. (free s m).here))
      (none_or (next_begin w) (option_or (next_ask w.sites w.parties) (next_end w))
      (none_found can_begin (λ (s : Site). next.Begin (number_of s)) w.sites begins_nothing)
      (none_or (next_ask w.sites w.parties) (next_end w) (no_asks w.parties (λ p m. m))
      (none_found can_end (λ (p : Party). next.End (id_of p)) w.parties (λ p m. ap (λ x. is_ok (end_block p.client x)) (idle p m).idle))))

pub calm_exactly : (w : World) → IsReached w → (next_of w ≡ None) ↔ Calm w
calm_exactly w r = (calm_where_none w r, none_where_calm w)

-- ---- again and again

-- the next events, that many times, lead to a calm world where nothing is next
record Settled (w : World) : Type 0 where
  pub rounds : ℕ
  pub after : World
  pub settles : Settles w (settling rounds w) after
  pub none : next_events after ≡ []
  pub calm : Calm after
  pub few : rounds ≤ left w

progress : (w : World) → IsReached w → ((u : World) → IsReached u → Less u w → Settled u) → Settled w
progress w reached rest = by_next (next_of w) refl
  where
    by_next : (o : Option Next) → next_of w ≡ o → Settled w
    by_next None is = record {
      rounds = zero;
      after = w;
      settles = stays w;
      none = ap (λ o. option_map_or (events_of w) o []) is;
      calm = calm_where_none w reached is;
      few = omega arith;
    }
    by_next (Some x) is =
        let es : List Event = events_of w x in
        let h = next_helps w reached x is in
        let now : next_events w ≡ es = ap (λ o. option_map_or (events_of w) o []) is in
        let s = rest h.after h.reached h.less in
        let path : settling (suc s.rounds) w ≡ es ++ settling s.rounds h.after =
        ap (λ xs. xs ++ settling s.rounds (steps w xs)) now ∙ ap (λ v. es ++ settling s.rounds v) (leads_there w x h) in
        record {
          rounds = suc s.rounds;
          after = s.after;
          settles = subst (λ (xs : List Event). Settles w xs s.after) (sym path) (h.goes (settling s.rounds h.after) s.after s.settles);
          none = s.none;
          calm = s.calm;
          few = (let upto = s.few in let falls = helps_falls w reached x h in omega (arith, upto, falls));
        }

pub settles_by_next : (w : World) → IsReached w → (n : ℕ) × (v : World) × Settles w (settling n w) v × Leads w (settling n w) v × Calm v × (next_events v ≡ [])
    × (n ≤ left w)
settles_by_next w r =
    let s = by_what_is_left Settled progress w r in
    (s.rounds, s.after, s.settles, settles_leads w s.after (settling s.rounds w) s.settles, s.calm, s.none, s.few)
