-- Trails stand for their traffic: a search over numbers is one over messages.
use Rattle.std.proofs.Common.{arith, ◌≡◌, ◌⊎◌, inl, inr, ℕ, zero, suc, ◌+◌, ◌<◌, ◌≤◌, false, true, Bool, List, [], ◌∷◌, ◌++◌, map, length, get_or, set, slice_get, refl, sym, ap, ◌∙◌, subst, append-nil}
use Rattle.std.proofs.Common.{Option, Some, None, append_assoc}
use Rattle.std.specs.Prelude.{◌↔◌, Contains, IfSome, option_to_list, slice_index}
use Rattle.std.specs.List.{AllByRecursion, AllZip}
use Rattle.std.specs.Option.{option_map}
use Rattle.std.proofs.lemmas.List.{map-append}
use Rattle.std.proofs.lemmas.List.Elements.{Contains-append_left, Contains-append_right, Contains-append_cases}
use Rattle.std.proofs.lemmas.Option.{slice_get-map, slice_get_read, get_or_from_slice_get}
use Rattle.scoop_message.specs.declared.message.Message.{Message}
use Rattle.scoop_weave.specs.Order.{party_at}
use Rattle.scoop_weaver.specs.declared.traffic.Traffic.{Traffic}
use Rattle.scoop_weaver.specs.declared.trail.Passage.{Passage}
use Rattle.scoop_weaver.specs.Post.{message_at, Grows}
use Rattle.scoop_weaver.specs.Trails.{traffic_at, traffic_along, IsNumbered, HasTraffic, HaveTraffic, HasOrder, WasSent, IsReadyBy, step_at, trail_len, parties_along, AreFlags}
use Rattle.scoop_weaver.specs.Trails.{IsTrailRun, AllNumbered}
use Rattle.scoop_message.specs.Lists.{NoRepeats}
use Rattle.scoop_weaver.specs.Weaving.{IsReady, IsRun, IsUnexplained, IsWoven, left, next_at}
use Rattle.scoop_weaver.proofs.Taking.{run_more, all_woven, nothing_run, left_less, unexplained}

-- ---- numbers

get_more : (xs ys : List Message) (k : ℕ) (m : Message) → slice_get xs k ≡ Some m → slice_get (xs ++ ys) k ≡ Some m
get_more [] ys k m e = absurd (cc)
get_more (x ∷ xs) ys zero m e = e
get_more (x ∷ xs) ys (suc k) m e = get_more xs ys k m e

there : (xs : List Message) (k : ℕ) → suc k ≤ length xs → (m : Message) × (slice_get xs k ≡ Some m)
there [] k h = absurd (omega arith)
there (x ∷ xs) zero h = (x, refl)
there (x ∷ xs) (suc k) h = there xs k (omega arith)

-- a number within a list of messages names the same one as the list grows
pub stays : (old more : List Message) (n : ℕ) → n ≤ length old → message_at (old ++ more) n ≡ message_at old n
stays old more zero h = refl
stays old more (suc n) h = let t = there old n h in get_more old more n t.0 t.1 ∙ sym t.1

len_more : (xs ys : List Message) → length xs ≤ length (xs ++ ys)
len_more [] ys = omega arith
len_more (x ∷ xs) ys = let h = len_more xs ys in omega arith

pub grows_len : (old new : List Message) → Grows old new → length old ≤ length new
grows_len old new g = subst (λ xs. length old ≤ length xs) (sym g.is) (len_more old g.more)

pub grows_stays : (old new : List Message) (n : ℕ) → Grows old new → n ≤ length old → message_at new n ≡ message_at old n
grows_stays old new n g h = subst (λ xs. message_at xs n ≡ message_at old n) (sym g.is) (stays old g.more n h)

pub grows_same : (xs : List Message) → Grows xs xs
grows_same xs = record { more = []; is = sym (append-nil xs) }

pub grows_both : (xs ys zs : List Message) → Grows xs ys → Grows ys zs → Grows xs zs
grows_both xs ys zs g h =
    record { more = g.more ++ h.more; is = h.is ∙ (ap (λ ws. ws ++ h.more) g.is ∙ append_assoc xs g.more h.more) }

traffic_stays : (old new : List Message) (x : Passage) → Grows old new → IsNumbered old x → traffic_at new x ≡ traffic_at old x
traffic_stays old new x g n =
    ap (λ m. record { heard = m; sent = message_at new x.sent }) (grows_stays old new x.heard g n.heard)
    ∙ ap (λ m. record { heard = message_at old x.heard; sent = m }) (grows_stays old new x.sent g n.sent)

numbered_stays : (old new : List Message) (x : Passage) → Grows old new → IsNumbered old x → IsNumbered new x
numbered_stays old new x g n =
    let h = grows_len old new g in
    let a = n.heard in
    let b = n.sent in
    record { heard = omega arith; sent = omega arith }

-- a trail keeps its traffic as the messages grow
pub traffic_grows : (old new : List Message) (xs : List Passage) → Grows old new → AllByRecursion (IsNumbered old) xs
    → (traffic_along new xs ≡ traffic_along old xs) × AllByRecursion (IsNumbered new) xs
traffic_grows old new [] g all = (refl, tt)
traffic_grows old new (x ∷ xs) g all =
    let rest = traffic_grows old new xs g all.1 in (
      ap (λ t. t ∷ traffic_along new xs) (traffic_stays old new x g all.0) ∙ ap (λ ts. traffic_at old x ∷ ts) rest.0,
      (numbered_stays old new x g all.0, rest.1),
    )

all_more : (post : List Message) (xs : List Passage) (x : Passage) → AllByRecursion (IsNumbered post) xs → IsNumbered post x
    → AllByRecursion (IsNumbered post) (xs ++ x ∷ [])
all_more post [] x all n = (n, tt)
all_more post (y ∷ xs) x all n = (all.0, all_more post xs x all.1 n)

pub traffic_more :
    (old new : List Message) (xs : List Passage) (x : Passage) (ts : List Traffic) (t : Traffic) → Grows old new → HasTraffic old xs ts → IsNumbered new x
    → traffic_at new x ≡ t → HasTraffic new (xs ++ x ∷ []) (ts ++ t ∷ [])
traffic_more old new xs x ts t g has n is =
    let grown = traffic_grows old new xs g has.numbered in
    record {
      is = map-append (traffic_at new) xs (x ∷ []) ∙ (ap (λ us. us ++ traffic_at new x ∷ []) (grown.0 ∙ has.is) ∙ ap (λ u. ts ++ u ∷ []) is);
      numbered = all_more new xs x grown.1 n;
    }

pub one_more :
    (old between new : List Message) (xs ys : List Passage) (ts : List Traffic) (t : Traffic) (heard sent : ℕ) → Grows old between → Grows between new
    → message_at between heard ≡ t.heard → heard ≤ length between → message_at new sent ≡ t.sent → sent ≤ length new
    → ys ≡ xs ++ record { heard = heard; sent = sent } ∷ [] → HasTraffic old xs ts → HasTraffic new ys (ts ++ t ∷ [])
one_more old between new xs ys ts t heard sent g h is_heard heard_in is_sent sent_in more has =
    let x : Passage = record { heard = heard; sent = sent } in
    let longer = grows_len between new h in
    let n : IsNumbered new x = record { heard = omega arith; sent = sent_in } in
    let first : message_at new heard ≡ t.heard = grows_stays between new heard h heard_in ∙ is_heard in
    let is : traffic_at new x ≡ t = ap (λ m. record { heard = m; sent = message_at new sent }) first ∙ ap (λ m. record { heard = t.heard; sent = m }) is_sent in
    subst (λ zs. HasTraffic new zs (ts ++ t ∷ [])) (sym more) (traffic_more old new xs x ts t (grows_both old between new g h) has n is)

-- ---- parties

party_along : (post : List Message) (trails : List (List Passage)) (i : ℕ) → party_at (parties_along post trails) i ≡ traffic_along post (party_at trails i)
party_along post [] zero = refl
party_along post [] (suc i) = refl
party_along post (xs ∷ trails) zero = refl
party_along post (xs ∷ trails) (suc i) = party_along post trails i

count_along : (post : List Message) (trails : List (List Passage)) → length (parties_along post trails) ≡ length trails
count_along post [] = refl
count_along post (xs ∷ trails) = ap suc (count_along post trails)

len_along : (post : List Message) (xs : List Passage) → length (traffic_along post xs) ≡ length xs
len_along post [] = refl
len_along post (x ∷ xs) = ap suc (len_along post xs)

at_along : (post : List Message) (trails : List (List Passage)) (p k : ℕ)
    → slice_get (party_at (parties_along post trails) p) k ≡ option_map (traffic_at post) (slice_get (party_at trails p) k)
at_along post trails p k = ap (λ ts. slice_get ts k) (party_along post trails p) ∙ slice_get-map (traffic_at post) (party_at trails p) k

next_along : (post : List Message) (trails : List (List Passage)) (p k : ℕ) (x : Passage) → slice_get (party_at trails p) k ≡ Some x
    → slice_get (party_at (parties_along post trails) p) k ≡ Some (traffic_at post x)
next_along post trails p k x e = at_along post trails p k ∙ ap (option_map (traffic_at post)) e

numbered_at : (post : List Message) (trails : List (List Passage)) (p k : ℕ) (x : Passage) → AllNumbered post trails → slice_get (party_at trails p) k ≡ Some x
    → IsNumbered post x
numbered_at post [] zero k x all e = absurd (cc)
numbered_at post [] (suc p) k x all e = absurd (cc)
numbered_at post (xs ∷ trails) zero k x all e = within xs k all.0 e
  where
    within : (ys : List Passage) (j : ℕ) → AllByRecursion (IsNumbered post) ys → slice_get ys j ≡ Some x → IsNumbered post x
    within [] j a f = absurd (cc)
    within (y ∷ ys) zero a f = let same : y ≡ x = cc in subst (IsNumbered post) same a.0
    within (y ∷ ys) (suc j) a f = within ys j a.1 f
numbered_at post (xs ∷ trails) (suc p) k x all e = numbered_at post trails p k x all.1 e

-- ---- a move is taken

heard_was_sent : (post : List Message) (flags : List Bool) (sent : List Message) (n : ℕ) → AreFlags post flags sent → n ≤ length post → WasSent flags n
    → IfSome (message_at post n) (Contains sent)
heard_was_sent post flags sent zero f h was = tt
heard_was_sent post flags sent (suc n) f h was =
    let t = there post n h in subst (λ o. IfSome o (Contains sent)) (sym t.1) (f.only n t.0 was t.1)

sent_was_flagged : (post : List Message) (flags : List Bool) (sent : List Message) (n : ℕ) → AreFlags post flags sent → n ≤ length post
    → IfSome (message_at post n) (Contains sent) → WasSent flags n
sent_was_flagged post flags sent zero f h has = tt
sent_was_flagged post flags sent (suc n) f h has = let t = there post n h in f.all n t.0 t.1 (subst (λ o. IfSome o (Contains sent)) t.1 has)

in_none : (m : Message) → Contains [] m → ⊥
in_none m c = let h = c.1 in omega arith

in_one : (x m : Message) → Contains (x ∷ []) m → x ≡ m
in_one x m (zero, within, is) = is
in_one x m (suc k, within, is) = absurd (omega arith)

in_option : (o : Option Message) (m : Message) → Contains (option_to_list o) m → o ≡ Some m
in_option None m c = absurd (in_none m c)
in_option (Some x) m c = ap Some (in_one x m c)

option_in : (o : Option Message) (m : Message) → o ≡ Some m → Contains (option_to_list o) m
option_in o m e = subst (λ z. Contains (option_to_list z) m) (sym e) (0, omega arith, refl)

added : (sent : List Message) (o : Option Message) (m : Message) → Contains (sent ++ option_to_list o) m ↔ (Contains sent m ⊎ (o ≡ Some m))
added sent o m = ((λ c. apart (Contains-append_cases sent (option_to_list o) m c)), joined)
  where
    apart : Contains sent m ⊎ Contains (option_to_list o) m → Contains sent m ⊎ (o ≡ Some m)
    apart (inl c) = inl c
    apart (inr c) = inr (in_option o m c)

    joined : Contains sent m ⊎ (o ≡ Some m) → Contains (sent ++ option_to_list o) m
    joined (inl c) = Contains-append_left sent (option_to_list o) m c
    joined (inr e) = Contains-append_right sent (option_to_list o) m (option_in o m e)

-- the flag of this number, if there is one, is set, and no other one changes
pub record Notes (flags next : List Bool) (number : ℕ) : Type 0 where
  pub only : (n : ℕ) → WasSent next n → WasSent flags n ⊎ (n ≡ number)
  pub keeps : (n : ℕ) → WasSent flags n → WasSent next n
  pub noted : number ≤ length flags → WasSent next number
  pub count : length next ≡ length flags

flags_more :
    (post : List Message) (flags next : List Bool) (sent : List Message) (number : ℕ) → number ≤ length post → AreFlags post flags sent
    → Notes flags next number → AreFlags post next (sent ++ option_to_list (message_at post number))
flags_more post flags next sent number within f notes =
    record {
      once = f.once;
      count = notes.count ∙ f.count;
      only = λ n m was is. either n m is (notes.only (suc n) was);
      all = λ n m is has. back n m is (Contains-append_cases sent (option_to_list (message_at post number)) m has);
    }
  where
    own : (k n : ℕ) (m : Message) → k ≤ length post → slice_get post n ≡ Some m → message_at post k ≡ Some m → k ≡ suc n
    own zero n m h is e = absurd (cc)
    own (suc k) n m h is e = ap suc (f.once k n m e is)

    back : (n : ℕ) (m : Message) → slice_get post n ≡ Some m → Contains sent m ⊎ Contains (option_to_list (message_at post number)) m
        → get_or next n false ≡ true
    back n m is (inl has) = notes.keeps (suc n) (f.all n m is has)
    back n m is (inr has) =
        subst (WasSent next) (own number n m within is (in_option (message_at post number) m has))
        (notes.noted (subst (λ k. number ≤ k) (sym f.count) within))

    either : (n : ℕ) (m : Message) → slice_get post n ≡ Some m → WasSent flags (suc n) ⊎ (suc n ≡ number)
        → Contains (sent ++ option_to_list (message_at post number)) m
    either n m is (inl was) = Contains-append_left sent (option_to_list (message_at post number)) m (f.only n m was is)
    either n m is (inr same) =
        Contains-append_right sent (option_to_list (message_at post number)) m
        (option_in (message_at post number) m (ap (message_at post) (sym same) ∙ is))

run_on :
    (post : List Message) (trails : List (List Passage)) (places turns : List ℕ) (flags next : List Bool) (p : ℕ) (x : Passage) → AllNumbered post trails
    → p < length trails → slice_get (party_at trails p) (slice_index places p) ≡ Some x → WasSent flags x.heard
    → Notes flags next x.sent
    → IsTrailRun post trails places turns flags → IsTrailRun post trails (set places p (slice_index places p + 1)) (turns ++ p ∷ []) next
run_on post trails places turns flags next p x all within step ready noted r =
    let t : Traffic = traffic_at post x in
    let n = numbered_at post trails p (slice_index places p) x all step in
    let more = r.sent ++ option_to_list t.sent in
    record {
      order = r.order ++ (p, t) ∷ [];
      turns_are = map-append (λ (y : ℕ × Traffic). y.0) r.order ((p, t) ∷ []) ∙ ap (λ us. us ++ p ∷ []) r.turns_are;
      sent = more;
      run =
          run_more (parties_along post trails) places r.order r.sent more p t r.run (subst (λ k. p < k) (sym (count_along post trails)) within)
          (next_along post trails p (slice_index places p) x step)
          (heard_was_sent post flags r.sent x.heard r.flagged n.heard ready) (λ m. added r.sent t.sent m);
      flagged = flags_more post flags next r.sent x.sent n.sent r.flagged noted;
    }

less_left : (trails : List (List Passage)) (places : List ℕ) (p : ℕ) (x : Passage) → p < length places
    → slice_get (party_at trails p) (slice_index places p) ≡ Some x
    → left (parties_along [] trails) (set places p (slice_index places p + 1)) < left (parties_along [] trails) places
less_left trails places p x within step =
    left_less (parties_along [] trails) places p (traffic_at [] x) within (next_along [] trails p (slice_index places p) x step)

-- the same where it is known how many moves of the party were taken
pub run_from :
    (post : List Message) (trails : List (List Passage)) (places turns : List ℕ) (flags next : List Bool) (p k : ℕ) (x : Passage) → slice_index places p ≡ k
    → AllNumbered post trails → p < length trails → slice_get (party_at trails p) k ≡ Some x → WasSent flags x.heard
    → Notes flags next x.sent
    → IsTrailRun post trails places turns flags → IsTrailRun post trails (set places p (k + 1)) (turns ++ p ∷ []) next
run_from post trails places turns flags next p k x is all within step ready noted r =
    subst (λ j. IsTrailRun post trails (set places p (j + 1)) (turns ++ p ∷ []) next) is
    (run_on post trails places turns flags next p x all within (ap (slice_get (party_at trails p)) is ∙ step) ready noted r)

pub less_from : (trails : List (List Passage)) (places : List ℕ) (p k : ℕ) (x : Passage) → slice_index places p ≡ k → p < length places
    → slice_get (party_at trails p) k ≡ Some x
    → left (parties_along [] trails) (set places p (k + 1)) < left (parties_along [] trails) places
less_from trails places p k x is within step =
    subst (λ j. left (parties_along [] trails) (set places p (j + 1)) < left (parties_along [] trails) places) is
    (less_left trails places p x within (ap (slice_get (party_at trails p)) is ∙ step))

-- how many moves of the party were taken, as it is read
pub place_is : (places : List ℕ) (p k : ℕ) → p < length places → k ≡ get_or places p k → slice_index places p ≡ k
place_is places p k within is = get_or_from_slice_get places p k 0 (slice_get_read places (length places) p k refl within is)

-- the party at a place, as it is read
trail_is : (trails : List (List Passage)) (p : ℕ) (r : List Passage) → p < length trails → r ≡ get_or trails p r → party_at trails p ≡ r
trail_is [] p r within e = absurd (omega arith)
trail_is (q ∷ qs) zero r within e = sym e
trail_is (q ∷ qs) (suc p) r within e = trail_is qs p r (omega arith) e

pub step_there : (trails : List (List Passage)) (p k : ℕ) (r : List Passage) (x : Passage) → p < length trails → r ≡ get_or trails p r
    → Some x ≡ slice_get r k → slice_get (party_at trails p) k ≡ Some x
step_there trails p k r x within is e = ap (λ xs. slice_get xs k) (trail_is trails p r within is) ∙ sym e

-- ---- the beginning and the end

zeros_along : (post : List Message) (trails : List (List Passage)) → map {B = ℕ} (λ t. 0) trails ≡ map {B = ℕ} (λ p. 0) (parties_along post trails)
zeros_along post [] = refl
zeros_along post (xs ∷ trails) = ap (λ ks. 0 ∷ ks) (zeros_along post trails)

zeros_count : (trails : List (List Passage)) → length {A = ℕ} (map (λ t. 0) trails) ≡ length trails
zeros_count [] = refl
zeros_count (xs ∷ trails) = ap suc (zeros_count trails)

pub zeros_len : (trails : List (List Passage)) (places : List ℕ) → places ≡ map (λ t. 0) trails → length places ≡ length trails
zeros_len trails places is = ap (λ ks. length ks) is ∙ zeros_count trails

pub run_at_first :
    (post : List Message) (trails : List (List Passage)) (places : List ℕ) (flags : List Bool) → places ≡ map (λ t. 0) trails
    → ((n : ℕ) → WasSent flags (n + 1) → ⊥) → length flags ≡ length post → NoRepeats post → IsTrailRun post trails places [] flags
run_at_first post trails places flags is none count once =
    record {
      order = [];
      turns_are = refl;
      sent = [];
      run = nothing_run (parties_along post trails) places (is ∙ zeros_along post trails);
      flagged =
          record { once = once; count = count; only = λ n m was e. absurd (none n (later n was)); all = λ n m e has. absurd (in_none m has) };
    }
  where
    later : (n : ℕ) → get_or flags n false ≡ true → WasSent flags (n + 1)
    later n was = subst (λ k. WasSent flags k) (let e : suc n ≡ n + 1 = omega arith in e) was

pub order_found :
    (post : List Message) (trails : List (List Passage)) (places turns : List ℕ) (flags : List Bool)
    → ((p : ℕ) → p < length trails → trail_len trails p ≤ slice_index places p) → IsTrailRun post trails places turns flags
    → HasOrder (parties_along post trails) turns
order_found post trails places turns flags none r =
    record {
      order = r.order;
      turns_are = r.turns_are;
      woven =
          all_woven (parties_along post trails) places r.order r.sent r.run
          (λ p within.
          let small : p < length trails = subst (λ k. p < k) (count_along post trails) within in
          let same : length (party_at (parties_along post trails) p) ≡ trail_len trails p =
          ap (λ ts. length ts) (party_along post trails p) ∙ len_along post (party_at trails p) in
          subst (λ k. k ≤ slice_index places p) (sym same) (none p small));
    }

-- no move can be taken
stuck_along :
    (post : List Message) (trails : List (List Passage)) (places : List ℕ) (flags : List Bool) (sent : List Message) → AllNumbered post trails
    → AreFlags post flags sent → ((p : ℕ) → p < length trails → IsReadyBy flags (step_at trails places p) → ⊥)
    → (p : ℕ) → p < length (parties_along post trails) → IsReady sent (next_at (parties_along post trails) places p) → ⊥
stuck_along post trails places flags sent all f stuck p within ready =
    by (step_at trails places p) refl (subst (IsReady sent) (at_along post trails p (slice_index places p)) ready)
  where
    small : p < length trails
    small = subst (λ k. p < k) (count_along post trails) within

    by : (o : Option Passage) → step_at trails places p ≡ o → IsReady sent (option_map (traffic_at post) o) → ⊥
    by None e none = none
    by (Some x) e has =
        stuck p small
        (subst (IsReadyBy flags) (sym e)
        (sent_was_flagged post flags sent x.heard f (numbered_at post trails p (slice_index places p) x all e).heard has))

pub unexplained_along :
    (post : List Message) (trails : List (List Passage)) (places turns : List ℕ) (flags : List Bool) (p : ℕ) → AllNumbered post trails
    → IsTrailRun post trails places turns flags → ((q : ℕ) → q < length trails → IsReadyBy flags (step_at trails places q) → ⊥) → p < length trails
    → slice_index places p < trail_len trails p → IsUnexplained (parties_along post trails) p (slice_index places p)
unexplained_along post trails places turns flags p all r stuck within some =
    let parties = parties_along post trails in
    let same : length (party_at parties p) ≡ trail_len trails p = ap (λ ts. length ts) (party_along post trails p) ∙ len_along post (party_at trails p) in
    unexplained parties places r.order r.sent r.run (stuck_along post trails places flags r.sent all r.flagged stuck) p
    (subst (λ k. p < k) (sym (count_along post trails)) within) (subst (λ k. slice_index places p < k) (sym same) some)

-- trails that have this traffic
pub have_is : (post : List Message) (trails : List (List Passage)) (parties : List (List Traffic)) → HaveTraffic post trails parties
    → (parties_along post trails ≡ parties) × AllNumbered post trails
have_is post [] [] have = (refl, tt)
have_is post [] (ts ∷ parties) have = absurd have
have_is post (xs ∷ trails) [] have = absurd have
have_is post (xs ∷ trails) (ts ∷ parties) have =
    let rest = have_is post trails parties have.1 in (
      ap (λ us. us ∷ parties_along post trails) have.0.is ∙ ap (λ us. ts ∷ us) rest.0,
      (have.0.numbered, rest.1),
    )
