-- Clients attend to their blocks until nothing of them is unfinished. After a Lock was sent, its client is still at the
-- block, or the handler is done with it. Hearing and commands keep this.
use Rattle.scoop_calm.proofs.Names.{◌≡◌, ◌⊎◌, inl, inr, ℕ, ◌<◌, ◌≤◌, true, false, List, [], ◌∷◌, ◌++◌, map, find, Option, Some, refl, sym, ap, ◌∙◌, subst}
use Rattle.scoop_calm.proofs.Names.{⊎_elim, arith, same_Some, if◌then◌else◌, ⊤, AllByRecursion, Block, ClientId, HandlerId, Message, Lock, Unlocked, Log}
use Rattle.scoop_calm.proofs.Names.{Logged, Answer, same_handler, HandlerState, Stage, Locking, Opening, Unlocking, GivingUp, has, is_lowest, ReservationState}
use Rattle.scoop_calm.proofs.Names.{WindowState, window_of, ClientState, World, Site, Party, number_of, id_of, is_site, is_party, site_of, party_of, set_site}
use Rattle.scoop_calm.proofs.Names.{set_party, count_in, greatest_count, reopened, inc_of, by_test, by_site, by_party, id_found, SiteFits, all_more_of}
use Rattle.scoop_calm.proofs.Names.{state_anew, count_itself, Member, ◌&&◌, true≢false, None, nat_tests, Entry, ObjectAnswer, handler_decides, Step, without}
use Rattle.scoop_calm.proofs.Names.{is_empty, at_stage, is_gone, StepRow, steps_over, one_is_locked, all_are_locked, is_busy, one_is_opened, all_are_opened}
use Rattle.scoop_calm.proofs.Names.{is_unlocked, is_given_back, step_row, ClientNote, with_entry, with_end, acknowledged, at_window, all_over, with_windows}
use Rattle.scoop_calm.proofs.Names.{with_reservation, idle, heard, stepped, after_step, up_to, HeardRow, passed_over, is_welcomed, takes_step, is_acknowledged}
use Rattle.scoop_calm.proofs.Names.{is_accepted, heard_row, has_without, is_gone_one, none_in_empty, WindowFits, WindowsFit, handlers_at, by_window, by_all}
use Rattle.scoop_calm.proofs.Names.{handlers_at_window, fits_acknowledged, unlocking_is, log_of, ◌||◌, not, Bool, Ok, Call, Query, asked, fresh, given_up_in}
use Rattle.scoop_calm.proofs.Names.{Greeting, Idle, is_ended, phase_of, phase_of_block, phase_at, Command, Reserve, DoCall, DoQuery, DoEnd, GiveUp, Outcome}
use Rattle.scoop_calm.proofs.Names.{command, next_block, with_block, ReserveRow, begins_block, LogRow, is_logged, EndRow, ends_block, GiveUpRow, gives_up}
use Rattle.scoop_calm.proofs.Names.{command_row, ok_is, started_fresh, fresh_found}
use Rattle.scoop_calm.proofs.Marks.{IsReleasedIn, IsOverIn}
use Rattle.scoop_reserve.specs.Hearing as reservation
use Rattle.scoop_calm.proofs.Lists.{gone_without, lowest_has, lowest_below, in_asked}

-- -------- Clients attend to their blocks until nothing of them is unfinished. After a Lock was sent, its client is still at the
-- block, or the handler is done with it.

-- ---- at a handler of the world

-- the handler is in the world, and its state is so
pub record AtSite (P : HandlerState → Type 0) (o : Option Site) : Type 0 where
  pub site : Site
  pub found : o ≡ Some site
  pub so : P site.core.state

pub at_set : (P : HandlerState → Type 0) (w : World) (s old : Site) → site_of (number_of s) w ≡ Some old → (P old.core.state → P s.core.state)
    → (h : HandlerId) → AtSite P (site_of h w) → AtSite P (find (is_site h) (set_site s w.sites))
at_set P w s old here more h a =
    by_site (λ o. AtSite P o) w s old h here
    (λ same.
    let found : Some a.site ≡ Some old = sym a.found ∙ (ap (λ j. site_of j w) (sym same) ∙ here) in
    let one : a.site ≡ old = cc in
    record { site = s; found = refl; so = more (subst (λ (x : Site). P x.core.state) one a.so) })
    (λ apart. a)

at_first : (P : HandlerState → Type 0) (h : HandlerId) (x y : Site) (xs ys : List Site) → y.core.state ≡ x.core.state →
    (AtSite P (find (is_site h) xs) → AtSite P (find (is_site h) ys)) → AtSite P (find (is_site h) (x ∷ xs)) → AtSite P (find (is_site h) (y ∷ ys))
at_first P h x y xs ys same later a =
    let k : number_of y ≡ number_of x = ap (λ (st : HandlerState). st.number) same in
    subst (λ n. AtSite P (if same_handler n h then Some y else find (is_site h) ys)) (sym k)
    (by_test (λ t. AtSite P (if t then Some x else find (is_site h) xs) → AtSite P (if t then Some y else find (is_site h) ys)) (is_site h x)
    (λ first a.
    let one : x ≡ a.site = same_Some x a.site a.found in
    record { site = y; found = refl; so = subst P (sym same) (subst (λ (z : Site). P z.core.state) (sym one) a.so) })
    (λ other a. later a) a)

pub at_anew : (P : HandlerState → Type 0) (js : List Block) (n : ℕ) (h : HandlerId) (xs : List Site) → AllByRecursion (SiteFits js) xs
    → AtSite P (find (is_site h) xs) → AtSite P (find (is_site h) (map (reopened n) xs))
at_anew P js n h [] all a = a
at_anew P js n h (x ∷ xs) all a = at_first P h x (reopened n x) xs (map (reopened n) xs) (state_anew js n x all.0) (at_anew P js n h xs all.1) a

abbrev pub IsOver : World → HandlerId → Block → Type 0
IsOver w h b = AtSite (λ s. IsOverIn s b) (site_of h w)

abbrev pub IsReleased : World → HandlerId → Block → Type 0
IsReleased w h b = AtSite (λ s. IsReleasedIn s b) (site_of h w)

-- ---- a client that is at its block

-- the handler was asked for its lock, and has not told that it was given back
abbrev pub AskedAt : ReservationState → HandlerId → Stage → Type 0
AskedAt r h Locking = (has r.handlers h ≡ true) × ((has r.left h ≡ false) ⊎ (is_lowest h r.left ≡ true))
AskedAt r h Opening = has r.handlers h ≡ true
AskedAt r h Unlocking = has r.handlers h ≡ true
AskedAt r h GivingUp = has r.left h ≡ true

-- the client has the block, and has asked the handler
pub record Goes (c : ClientState) (h : HandlerId) (b : Block) : Type 0 where
  pub reservation : ReservationState
  pub held : c.reservation ≡ Some reservation
  pub block : reservation.block ≡ b
  pub asked : AskedAt reservation h reservation.stage

pub record AtWork (w : World) (h : HandlerId) (b : Block) : Type 0 where
  pub party : Party
  pub at : party_of b.client w ≡ Some party
  pub goes : Goes party.client h b

-- the block is of an older incarnation, or over at the handler, or its client is at it
abbrev pub Attended : World → HandlerId → Block → Type 0
Attended w h b = (b.inc < inc_of w b.client) ⊎ (IsOver w h b ⊎ AtWork w h b)

-- facts about messages
abbrev pub Attends : World → Message → Type 0
Attends w (Lock h b) = Attended w h b
Attends w (Unlocked h b) = IsReleased w h b
Attends w (Log h b n es) = IsReleased w h b
Attends w (Logged h b n) = IsReleased w h b
Attends w (Answer h b n a) = IsReleased w h b
Attends w other = ⊤

-- a handler that had given back the lock has acknowledged the entries, and so has received them
pub record ClientAttends (w : World) (c : ClientState) (r : ReservationState) : Type 0 where
  pub unlocked : r.stage ≡ Unlocking → (h : HandlerId) → has r.handlers h ≡ true → has r.left h ≡ false → IsReleased w h r.block
  pub acked : (h : HandlerId) (l : WindowState) → window_of h c.windows ≡ Some l → 0 < l.acked → IsReleased w h r.block
  pub counts : (h : HandlerId) (l : WindowState) → window_of h c.windows ≡ Some l → l.acked ≤ greatest_count h r.block w.sent

abbrev pub PartyAttends : World → ClientState → Type 0
PartyAttends w c = (r : ReservationState) → c.reservation ≡ Some r → ClientAttends w c r

pub record Attending (w : World) : Type 0 where
  pub messages : AllByRecursion (Attends w) w.sent
  pub parties : (c : ClientId) (p : Party) → party_of c w ≡ Some p → PartyAttends w p.client

-- ---- what goes on

pub record Onto (v w : World) : Type 0 where
  pub over : (h : HandlerId) (b : Block) → IsOver v h b → IsOver w h b
  pub released : (h : HandlerId) (b : Block) → IsReleased v h b → IsReleased w h b
  pub counts : (h : HandlerId) (b : Block) → greatest_count h b v.sent ≤ greatest_count h b w.sent
  pub incs : (c : ClientId) → inc_of v c ≤ inc_of w c
  pub work : (h : HandlerId) (b : Block) → AtWork v h b → Attended w h b

module _ (v w : World) (x : Onto v w) where
  attended_more : (h : HandlerId) (b : Block) → Attended v h b → Attended w h b
  attended_more h b (inl older) = inl (omega (arith, older, x.incs b.client))
  attended_more h b (inr (inl o)) = inr (inl (x.over h b o))
  attended_more h b (inr (inr a)) = x.work h b a

  pub attends_more : (m : Message) → Attends v m → Attends w m
  attends_more (Lock h b) a = attended_more h b a
  attends_more (Unlocked h b) a = x.released h b a
  attends_more (Log h b n es) a = x.released h b a
  attends_more (Logged h b n) a = x.released h b a
  attends_more (Answer h b n y) a = x.released h b a
  attends_more m a = tt

  pub messages_more : (ms : List Message) → AllByRecursion (Attends v) ms → AllByRecursion (Attends w) ms
  messages_more ms all = all_more_of (Attends v) (Attends w) attends_more ms all

  pub client_more : (c : ClientState) → PartyAttends v c → PartyAttends w c
  client_more c f = λ r held.
      let g = f r held in
      record {
        unlocked = λ at h e free. x.released h r.block (g.unlocked at h e free);
        acked = λ h l found some. x.released h r.block (g.acked h l found some);
        counts = λ h l found. let le = g.counts h l found in let more = x.counts h r.block in omega (arith, le, more);
      }

-- ---- counts in messages

pub counts_more : (h : HandlerId) (b : Block) (ms ns : List Message) → greatest_count h b ms ≤ greatest_count h b (ms ++ ns)
counts_more h b [] ns = omega arith
counts_more h b (m ∷ ms) ns = let rest = counts_more h b ms ns in omega (arith, rest)

pub told_count : (h : HandlerId) (b : Block) (n : ℕ) (ms : List Message) → Member (Logged h b n) ms → n ≤ greatest_count h b ms
told_count h b n [] m = absurd m
told_count h b n (x ∷ xs) (inl e) = omega (arith, ap (count_in h b) e ∙ count_itself h b n)
told_count h b n (x ∷ xs) (inr k) = omega (arith, told_count h b n xs k)

-- ---- one client changes

-- a client that is at work has changed, or is as it was
pub work_set : (w v : World) (c : ClientId) (p q : Party) → party_of c w ≡ Some p → id_of q ≡ id_of p → v.parties ≡ set_party q w.parties →
    ((h : HandlerId) (b : Block) → Goes p.client h b → Attended v h b) → (h : HandlerId) (b : Block) → AtWork w h b → Attended v h b
work_set w v c p q at same parties own h b a =
    ⊎_elim
    (λ (there : find (is_party b.client) (set_party q w.parties) ≡ Some a.party).
    inr (inr (record { party = a.party; at = ap (find (is_party b.client)) parties ∙ there; goes = a.goes })))
    (λ (is : id_of q ≡ b.client).
    let c_is : c ≡ b.client = sym (id_found c w p at) ∙ sym same ∙ is in
    let both : Some p ≡ Some a.party = sym at ∙ ap (λ d. party_of d w) c_is ∙ a.at in
    let one : p ≡ a.party = cc in
    own h b (subst (λ (x : Party). Goes x.client h b) (sym one) a.goes))
    (by_party (λ o. (o ≡ Some a.party) ⊎ (id_of q ≡ b.client)) w q p b.client
    (ap (λ d. party_of d w) (same ∙ id_found c w p at) ∙ at)
    (λ is. inr is) (λ apart. inl a.at))

-- the clients of the world, where one changes
pub parties_set : (w v : World) (c : ClientId) (p q : Party) → party_of c w ≡ Some p → id_of q ≡ id_of p → v.parties ≡ set_party q w.parties
    → PartyAttends v q.client → ((x : ClientState) → PartyAttends w x → PartyAttends v x) →
    ((d : ClientId) (x : Party) → party_of d w ≡ Some x → PartyAttends w x.client) → (d : ClientId) (x : Party) → party_of d v ≡ Some x
    → PartyAttends v x.client
parties_set w v c p q at same parties own more all d x found =
    by_party (λ o. o ≡ Some x → PartyAttends v x.client) w q p d
    (ap (λ e. party_of e w) (same ∙ id_found c w p at) ∙ at)
    (λ is e. let one : q ≡ x = cc in subst (λ (y : Party). PartyAttends v y.client) one own)
    (λ apart e. more x.client (all d x e))
    (sym (ap (find (is_party d)) parties) ∙ found)

-- -------- Hearing and commands keep that a client attends to its block. Where the client had asked, it is still at work, or the
-- handler is done with the block (`Follows`). A client leaves its block only after giving it up and getting its locks
-- back, or after all its windows are over. Handlers are done with such a block (`Around`).

-- the client goes on to another state: where it had asked, it is at work still, or the handler is done with its block
pub record Follows (w : World) (c d : ClientState) : Type 0 where
  pub goes : (h : HandlerId) (b : Block) → Goes c h b → IsOver w h b ⊎ Goes d h b
  pub attends : PartyAttends w d

-- the windows of a block: what each holds, and what messages say of it
pub record WindowsTold (w : World) (r : ReservationState) (ls : List WindowState) : Type 0 where
  pub handlers : handlers_at ls ≡ r.handlers
  pub fits : (h : HandlerId) (l : WindowState) → window_of h ls ≡ Some l → WindowFits (log_of r.block h w) l
  pub released : (h : HandlerId) (l : WindowState) → window_of h ls ≡ Some l → 0 < l.acked → IsReleased w h r.block
  pub counts : (h : HandlerId) (l : WindowState) → window_of h ls ≡ Some l → l.acked ≤ greatest_count h r.block w.sent

-- the world's facts about a client and a message
pub record Around (w : World) (c : ClientState) (m : Message) : Type 0 where
  pub windows : (r : ReservationState) → c.reservation ≡ Some r → WindowsFit w c r
  pub counted : (h : HandlerId) (b : Block) (n : ℕ) → m ≡ Logged h b n → n ≤ greatest_count h b w.sent
  pub answered : (h : HandlerId) (b : Block) (n : ℕ) (a : ObjectAnswer) → m ≡ Answer h b n a → n ≤ greatest_count h b w.sent
  pub given_over : (r : ReservationState) → c.reservation ≡ Some r → r.stage ≡ GivingUp → (h : HandlerId) → IsReleased w h r.block → IsOver w h r.block
  pub ends_over : (r : ReservationState) (ls : List WindowState) → WindowsTold w r ls → all_over ls ≡ true → (h : HandlerId) → has r.handlers h ≡ true
      → IsOver w h r.block

pub up_to_le : (h : HandlerId) (n : ℕ) (o : Option (HandlerId × ℕ)) → up_to h n o ≤ n
up_to_le h n None = omega arith
up_to_le h n (Some q) = grind (arith, nat_tests)

-- ---- the reservation stays, and windows too

module _ (w : World) (c : ClientState) (f : PartyAttends w c) where
  pub same_reservation : (d : ClientState) → d.reservation ≡ c.reservation → PartyAttends w d → Follows w c d
  same_reservation d same g = record {
    goes = λ h b a. inr (record { reservation = a.reservation; held = same ∙ a.held; block = a.block; asked = a.asked });
    attends = g;
  }

  stays : (d : ClientState) → d.reservation ≡ c.reservation → d.windows ≡ c.windows → Follows w c d
  stays d same windows = same_reservation d same (λ r held.
      let g = f r (sym same ∙ held) in
      record {
        unlocked = g.unlocked;
        acked = λ h l found. g.acked h l (ap (window_of h) (sym windows) ∙ found);
        counts = λ h l found. g.counts h l (ap (window_of h) (sym windows) ∙ found);
      })

  -- ---- a step of the reservation

  module _ (r s : ReservationState) (held : c.reservation ≡ Some r) (block : s.block ≡ r.block)
      (asks : (h : HandlerId) → AskedAt r h r.stage → IsOver w h r.block ⊎ AskedAt s h s.stage)
      (frees : s.stage ≡ Unlocking → (h : HandlerId) → has s.handlers h ≡ true → has s.left h ≡ false → IsReleased w h r.block)
      (leaves : is_gone s ≡ true → (h : HandlerId) → AskedAt r h r.stage → IsOver w h r.block) where
    own_asked : (h : HandlerId) (b : Block) (a : Goes c h b) → AskedAt r h r.stage × (r.block ≡ b)
    own_asked h b a =
        let one : a.reservation ≡ r = same_Some a.reservation r (sym a.held ∙ held) in
        (subst (λ (q : ReservationState). AskedAt q h q.stage) one a.asked, ap (λ (q : ReservationState). q.block) (sym one) ∙ a.block)

    stepped_follows : Follows w c (stepped c s)
    stepped_follows =
        by_test (λ t. Follows w c (if t then idle c else with_reservation c s)) (is_gone s)
        (λ gone. record { goes = λ h b a. let own = own_asked h b a in inl (subst (IsOver w h) own.1 (leaves gone h own.0)); attends = λ q e. absurd (cc) })
        (λ on. record {
          goes = λ h b a.
              let own = own_asked h b a in
              ⊎_elim (λ (o : IsOver w h r.block). inl (subst (IsOver w h) own.1 o))
              (λ (n : AskedAt s h s.stage). inr (record { reservation = s; held = refl; block = block ∙ own.1; asked = n })) (asks h own.0);
          attends = λ q e.
              let g = f r held in
              subst (ClientAttends w (with_reservation c s)) (same_Some s q e) (record {
                unlocked = λ at h named free. subst (IsReleased w h) (sym block) (frees at h named free);
                acked = λ h l found some. subst (IsReleased w h) (sym block) (g.acked h l found some);
                counts = λ h l found. subst (λ b. l.acked ≤ greatest_count h b w.sent) (sym block) (g.counts h l found);
              });
        })

  lowest_one : (h x : HandlerId) (hs : List HandlerId) → is_lowest h hs ≡ true → is_lowest x hs ≡ true → h ≡ x
  lowest_one h x hs p q =
      let same : h.0 ≡ x.0 = omega (arith, lowest_below h hs x p (lowest_has x hs q), lowest_below x hs h q (lowest_has h hs p)) in
      (handler_decides h x).0 (grind (arith, nat_tests))

  not_without : (h x : HandlerId) (hs : List HandlerId) → has hs x ≡ false → has (without h hs) x ≡ false
  not_without h x hs e = let before = has_without h x hs in grind (arith, before)

  step_follows : (m : Message) → Around w c m → (r s : ReservationState) (st : Step) → c.reservation ≡ Some r → StepRow r m s st → Attends w m
      → Follows w c (after_step c s st).0
  step_follows m round r s st held (steps_over n) t = stays c refl refl
  step_follows m round r s st held (one_is_locked h at low more) t =
      stepped_follows r (at_stage r Locking (without h r.left)) held refl
      (λ x a.
      let old : AskedAt r x Locking = subst (AskedAt r x) at a in
      inr (
        old.0,
        inl (⊎_elim (λ (gone : has r.left x ≡ false). not_without h x r.left gone)
            (λ (lowest : is_lowest x r.left ≡ true). subst (λ y. has (without h r.left) y ≡ false) (lowest_one h x r.left low lowest) (gone_without h r.left))
            old.1),
      ))
      (λ e. absurd (cc)) (λ gone x a. absurd (true≢false (sym gone)))
  step_follows m round r s st held (all_are_locked h at low none_left) t =
      stepped_follows r (at_stage r Opening r.handlers) held refl
      (λ x a. let old : AskedAt r x Locking = subst (AskedAt r x) at a in inr old.0)
      (λ e. absurd (cc)) (λ gone x a. absurd (true≢false (sym gone)))
  step_follows m round r s st held (is_busy h at low) t =
      stepped_follows r r held refl (λ x a. inr a) (λ e. absurd (let f : Locking ≡ Unlocking = sym at ∙ e in cc))
      (λ gone x a. absurd (true≢false (sym gone ∙ ap (λ y. reservation.is_given_up_in y && is_empty r.left) at)))
  step_follows m round r s st held (one_is_opened h at is more) t =
      stepped_follows r (at_stage r Opening (without h r.left)) held refl
      (λ x a. let old : AskedAt r x Opening = subst (AskedAt r x) at a in inr old)
      (λ e. absurd (cc)) (λ gone x a. absurd (true≢false (sym gone)))
  step_follows m round r s st held (all_are_opened h at is none_left) t =
      stepped_follows r (at_stage r Unlocking r.handlers) held refl
      (λ x a. let old : AskedAt r x Opening = subst (AskedAt r x) at a in inr old)
      (λ e x named free. absurd (true≢false (sym named ∙ free))) (λ gone x a. absurd (true≢false (sym gone)))
  step_follows m round r s st held (is_unlocked h at is) t =
      stepped_follows r (at_stage r Unlocking (without h r.left)) held refl
      (λ x a. let old : AskedAt r x Unlocking = subst (AskedAt r x) at a in inr old)
      (λ e x named free.
      by_test (λ _. IsReleased w x r.block) (has r.left x)
      (λ in_left. subst (λ z. IsReleased w z r.block) (is_gone_one h x r.left in_left free) t)
      (λ gone. (f r held).unlocked at x named gone))
      (λ gone x a. absurd (true≢false (sym gone)))
  step_follows m round r s st held (is_given_back h at is) t =
      let over : IsOver w h r.block = round.given_over r held at h t in
      stepped_follows r (at_stage r GivingUp (without h r.left)) held refl
      (λ x a.
      let old : AskedAt r x GivingUp = subst (AskedAt r x) at a in
      by_test (λ _. IsOver w x r.block ⊎ (has (without h r.left) x ≡ true)) (has (without h r.left) x)
      (λ still. inr still)
      (λ gone. inl (subst (λ z. IsOver w z r.block) (is_gone_one h x r.left old gone) over)))
      (λ e. absurd (cc))
      (λ gone x a.
      let old : AskedAt r x GivingUp = subst (AskedAt r x) at a in
      subst (λ z. IsOver w z r.block) (is_gone_one h x r.left old (none_in_empty (without h r.left) x gone)) over)

  module _ (m : Message) (round : Around w c m) where
    -- ---- windows

    module _ (r : ReservationState) (held : c.reservation ≡ Some r) (h : HandlerId) (k : ℕ) (told : IsReleased w h r.block)
        (le : k ≤ greatest_count h r.block w.sent) where
      abbrev news : List WindowState
      news = at_window h (acknowledged k) c.windows

      raised : (l : WindowState) → l.acked ≤ greatest_count h r.block w.sent → (acknowledged k l).acked ≤ greatest_count h r.block w.sent
      raised l was = omega (arith, was, le)

      news_told : WindowsTold w r news
      news_told =
          let g = f r held in
          let windows = round.windows r held in
          record {
            handlers = handlers_at_window h (acknowledged k) (λ l. refl) c.windows ∙ windows.handlers;
            fits = by_window (λ x l. WindowFits (log_of r.block x w) l) h (acknowledged k) (λ l. refl) c.windows
                (λ l found. fits_acknowledged (log_of r.block h w) k l (windows.windows h l found)) (λ x l apart found. windows.windows x l found);
            released = by_window (λ x l. 0 < l.acked → IsReleased w x r.block) h (acknowledged k) (λ l. refl) c.windows (λ l found some. told)
                (λ x l apart found. g.acked x l found);
            counts = by_window (λ x l. l.acked ≤ greatest_count x r.block w.sent) h (acknowledged k) (λ l. refl) c.windows
                (λ l found. raised l (g.counts h l found)) (λ x l apart found. g.counts x l found);
          }

      news_attend : (waits : Option (HandlerId × ℕ)) → PartyAttends w (with_windows c news waits)
      news_attend waits q e =
          let one : r ≡ q = same_Some r q (sym held ∙ e) in
          let t = news_told in
          subst (ClientAttends w (with_windows c news waits)) one (record { unlocked = (f r held).unlocked; acked = t.released; counts = t.counts })

      news_follow : (waits : Option (HandlerId × ℕ)) → Follows w c (with_windows c news waits)
      news_follow waits = same_reservation (with_windows c news waits) refl (news_attend waits)

      settled_follows : r.stage ≡ Unlocking → (waits : Option (HandlerId × ℕ))
          → Follows w c (if all_over news then idle (with_windows c news waits) else with_windows c news waits)
      settled_follows at waits =
          by_test (λ t. Follows w c (if t then idle (with_windows c news waits) else with_windows c news waits)) (all_over news)
          (λ over. record {
            goes = λ x b a.
                let one : a.reservation ≡ r = same_Some a.reservation r (sym a.held ∙ held) in
                let asked_now : AskedAt r x Unlocking = subst (AskedAt r x) at (subst (λ (q : ReservationState). AskedAt q x q.stage) one a.asked) in
                inl (subst (IsOver w x) (ap (λ (q : ReservationState). q.block) (sym one) ∙ a.block) (round.ends_over r news news_told over x asked_now));
            attends = λ q e. absurd (cc);
          })
          (λ on. news_follow waits)

  row_follows : (m : Message) → Around w c m → (d : ClientState) (note : ClientNote) → HeardRow c m d note → Attends w m → Follows w c d
  row_follows m round d note (passed_over n) t = stays c refl refl
  row_follows m round d note (is_welcomed h left) t = stays d refl refl
  row_follows m round d note (takes_step n r held) t = step_follows n round r (reservation.heard r n).0 (reservation.heard r n).1 held (step_row r n) t
  row_follows m round d note (is_acknowledged h n r l held opened window new_count) t =
      settled_follows m round r held h (up_to h n c.waits) t
      (omega (arith, up_to_le h n c.waits, round.counted h r.block n refl)) (unlocking_is r.stage opened) c.waits
  row_follows m round d note (is_accepted h n a r held opened waits) t = news_follow m round r held h n t (round.answered h r.block n a refl) None

pub heard_follows : (w : World) (c : ClientState) (m : Message) → PartyAttends w c → Around w c m → Attends w m → Follows w c (heard c m).0
heard_follows w c m f round t = row_follows w c f m round (heard c m).0 (heard c m).1 (heard_row c m) t

-- ---- it takes a command

module _ (w : World) (c : ClientState) (f : PartyAttends w c) where
  pub log_attends : (h : HandlerId) (e : Entry) (waits : Option (HandlerId × ℕ)) → PartyAttends w (with_windows c (at_window h (with_entry e) c.windows) waits)
  log_attends h e waits r held =
      let g = f r held in
      record {
        unlocked = g.unlocked;
        acked = by_window (λ x l. 0 < l.acked → IsReleased w x r.block) h (with_entry e) (λ l. refl) c.windows (λ l found. g.acked h l found)
            (λ x l apart found. g.acked x l found);
        counts = by_window (λ x l. l.acked ≤ greatest_count x r.block w.sent) h (with_entry e) (λ l. refl) c.windows (λ l found. g.counts h l found)
            (λ x l apart found. g.counts x l found);
      }

  pub end_attends : PartyAttends w (with_windows c (map with_end c.windows) None)
  end_attends r held =
      let g = f r held in
      record {
        unlocked = g.unlocked;
        acked = by_all (λ x l. 0 < l.acked → IsReleased w x r.block) with_end (λ l. refl) c.windows (λ h l found. g.acked h l found);
        counts = by_all (λ x l. l.acked ≤ greatest_count x r.block w.sent) with_end (λ l. refl) c.windows (λ h l found. g.counts h l found);
      }

-- -------- Commands keep that a client attends to its block.

-- an idle client has no block
phase_busy : (stage : Stage) (t : Bool) → phase_at stage t ≡ Idle → ⊥
phase_busy Locking t e = cc
phase_busy Unlocking true e = cc
phase_busy stage t e = cc

pub idle_none : (c : ClientState) (r : ReservationState) → phase_of c ≡ Idle → c.reservation ≡ Some r → ⊥
idle_none c r e held =
    by_test (λ t. (if t then phase_of_block c.windows c.reservation else Greeting) ≡ Idle → ⊥) (is_empty c.unwelcomed)
    (λ greeted f. phase_busy r.stage (is_ended c.windows) (ap (phase_of_block c.windows) (sym held) ∙ f))
    (λ greeting f. cc) e

module _ (w : World) (c : ClientState) (f : PartyAttends w c) where
  reserve_follows : (d : ClientState) (hs : List HandlerId) (o : Outcome) → ReserveRow c hs o → o ≡ Ok d → Follows w c d
  reserve_follows d hs o (begins_block r at_idle room begins) e =
      subst (Follows w c) (ok_is (with_block c hs r) d e) (record {
        goes = λ h b a. absurd (idle_none c a.reservation at_idle a.held);
        attends = λ q held.
            let one : fresh (next_block c) hs ≡ q = started_fresh (next_block c) hs c.handlers r begins ∙ same_Some r q held in
            record {
              unlocked = λ at. absurd (let g : Locking ≡ Unlocking = ap (λ (y : ReservationState). y.stage) one ∙ at in cc);
              acked = λ h l found some. absurd (let z : 0 ≡ l.acked = ap (λ (y : WindowState). y.acked) (fresh_found hs h l found) in omega (arith, z, some));
              counts = λ h l found. let z : 0 ≡ l.acked = ap (λ (y : WindowState). y.acked) (fresh_found hs h l found) in omega (arith, z);
            };
      })
  reserve_follows d hs o row e = absurd (cc)

  log_follows : (d : ClientState) (h : HandlerId) (n : Entry) (o : Outcome) → LogRow c h n o → o ≡ Ok d → Follows w c d
  log_follows d h n o (is_logged l running free window room more) e =
      subst (Follows w c) (ok_is _ d e) (same_reservation w c f (with_windows c (at_window h (with_entry n) c.windows) _) refl (log_attends w c f h n _))
  log_follows d h n o row e = absurd (cc)

  end_follows : (d : ClientState) (o : Outcome) → EndRow c o → o ≡ Ok d → Follows w c d
  end_follows d o (ends_block running free room) e = subst (Follows w c) (ok_is (with_windows c (map with_end c.windows) None) d e)
      (same_reservation w c f (with_windows c (map with_end c.windows) None) refl (end_attends w c f))
  end_follows d o row e = absurd (cc)

  or_true : (t u : Bool) → (t ≡ false) ⊎ (u ≡ true) → (not t || u) ≡ true
  or_true true false e = ⊎_elim (λ (p : true ≡ false). absurd (true≢false p)) (λ (q : false ≡ true). absurd (true≢false (sym q))) e
  or_true t u e = refl

  given : (r s : ReservationState) (stage : Stage) → r.stage ≡ stage → c.reservation ≡ Some r → given_up_in r stage ≡ Ok s → Follows w c (with_reservation c s)
  given r s Locking at held e =
      let is : at_stage r GivingUp (asked r.handlers r.left) ≡ s = cc in
      subst (λ x. Follows w c (with_reservation c x)) is (record {
        goes = λ h b a.
            let one : a.reservation ≡ r = same_Some a.reservation r (sym a.held ∙ held) in
            let old : AskedAt r h Locking = subst (AskedAt r h) at (subst (λ (q : ReservationState). AskedAt q h q.stage) one a.asked) in
            inr (record {
              reservation = at_stage r GivingUp (asked r.handlers r.left);
              held = refl;
              block = ap (λ (q : ReservationState). q.block) (sym one) ∙ a.block;
              asked = in_asked r.handlers r.left h old.0 (or_true (has r.left h) (is_lowest h r.left) old.1);
            });
        attends = λ q own.
            let g = f r held in
            let one : at_stage r GivingUp (asked r.handlers r.left) ≡ q = same_Some (at_stage r GivingUp (asked r.handlers r.left)) q own in
            subst (ClientAttends w (with_reservation c (at_stage r GivingUp (asked r.handlers r.left)))) one (record {
              unlocked = λ e. absurd (cc);
              acked = g.acked;
              counts = g.counts;
            });
      })
  given r s stage at held e = absurd (cc)

  give_up_follows : (d : ClientState) (o : Outcome) → GiveUpRow c o → o ≡ Ok d → Follows w c d
  give_up_follows d o (gives_up r s locking held is) e = subst (Follows w c) (ok_is (with_reservation c s) d e) (given r s r.stage refl held is)
  give_up_follows d o row e = absurd (cc)

  pub command_follows : (d : ClientState) (x : Command) → command c x ≡ Ok d → Follows w c d
  command_follows d (Reserve hs) e = reserve_follows d hs _ (command_row c (Reserve hs)) e
  command_follows d (DoCall h r) e = log_follows d h (Call r) _ (command_row c (DoCall h r)) e
  command_follows d (DoQuery h r) e = log_follows d h (Query r) _ (command_row c (DoQuery h r)) e
  command_follows d DoEnd e = end_follows d _ (command_row c DoEnd) e
  command_follows d GiveUp e = give_up_follows d _ (command_row c GiveUp) e
