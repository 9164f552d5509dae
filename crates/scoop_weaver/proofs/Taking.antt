-- The moves taken so far are a beginning of every order. When no further move can be taken, no order goes on. No other beginning
-- has more of a party than was taken (`Covers`). Its first move beyond that would hear only messages of moves that were taken
-- too, so it could be taken. If a party has a move left then, no order explains it.
use Rattle.std.proofs.Common.{◌≡◌, ◌⊎◌, inl, inr, ℕ, zero, suc, ◌+◌, ◌-◌, ◌<◌, ◌≤◌, ◌==◌, true≢false, List, [], ◌∷◌, ◌++◌, map, length, get_or, set, slice_get}
use Rattle.std.proofs.Common.{Option, Some, None, refl, sym, ap, ◌∙◌, subst, append_assoc, append-nil, arith, get_or-set_same, get_or-set_other, length-append}
use Rattle.std.specs.Prelude.{◌↔◌, Contains, IfSome, option_to_list, slice_index, unwrap_or}
use Rattle.std.specs.List.{AllByRecursion}
use Rattle.std.proofs.lemmas.Bool.Decides.{Decides-eqb}
use Rattle.std.proofs.lemmas.List.{length-set, map-append}
use Rattle.std.proofs.lemmas.List.Elements.{Contains-append_left, Contains-append_right, Contains-append_cases}
use Rattle.std.proofs.lemmas.Option.{slice_get_within, slice_get_past}
use Rattle.scoop_message.specs.declared.message.Message.{Message}
use Rattle.scoop_model.proofs.Basics.{by_test, all_mapped}
use Rattle.scoop_weave.proofs.Lists.{flat_map_snoc}
use Rattle.scoop_weave.specs.Order.{own, party_at}
use Rattle.scoop_weave.proofs.Orders.{all_through}
use Rattle.scoop_weaver.specs.declared.traffic.Traffic.{Traffic}
use Rattle.scoop_weaver.specs.Weaving.{sent_by, AllSent, IsWoven, IsStart, Begins, IsUnexplained, IsReady, next_at, party_len, left, IsRun}
use Rattle.scoop_weaver.proofs.Lists.{own_more, own_same, own_split, next_is, start_more, cancel, start_len, start_whole, of_nothing, all_start, all_own}

abbrev items : List (ℕ × Traffic) → List Traffic
items order = map (λ x. x.1) order

items_more : (order : List (ℕ × Traffic)) (p : ℕ) (t : Traffic) → items (order ++ (p, t) ∷ []) ≡ items order ++ t ∷ []
items_more order p t = map-append (λ (x : ℕ × Traffic). x.1) order ((p, t) ∷ [])

all_sent_more : (past ms : List Traffic) (t : Traffic) → AllSent past ms → IfSome t.heard (Contains (sent_by (past ++ ms))) → AllSent past (ms ++ t ∷ [])
all_sent_more past [] t all heard = (subst (λ xs. IfSome t.heard (Contains (sent_by xs))) (append-nil past) heard, tt)
all_sent_more past (m ∷ ms) t all heard =
    (all.0, all_sent_more (past ++ m ∷ []) ms t all.1 (subst (λ xs. IfSome t.heard (Contains (sent_by xs))) (sym (append_assoc past (m ∷ []) ms)) heard))

-- ---- what was sent

if_some : (o : Option Message) (P Q : Message → Type 0) → ((m : Message) → P m → Q m) → IfSome o P → IfSome o Q
if_some None P Q f p = p
if_some (Some m) P Q f p = f m p

in_none : (m : Message) → Contains [] m → ⊥
in_none m c = let h = c.1 in omega arith

in_one : (x m : Message) → Contains (x ∷ []) m → x ≡ m
in_one x m (zero, within, is) = is
in_one x m (suc k, within, is) = absurd (omega arith)

in_option : (o : Option Message) (m : Message) → Contains (option_to_list o) m → o ≡ Some m
in_option None m c = absurd (in_none m c)
in_option (Some x) m c = ap Some (in_one x m c)

option_in : (o : Option Message) (m : Message) → o ≡ Some m → Contains (option_to_list o) m
option_in o m e = subst (λ z. Contains (option_to_list z) m) (sym e) (0, omega arith, refl)

sent_more : (order : List (ℕ × Traffic)) (p : ℕ) (t : Traffic) → sent_by (items (order ++ (p, t) ∷ [])) ≡ sent_by (items order) ++ option_to_list t.sent
sent_more order p t = ap sent_by (items_more order p t) ∙ flat_map_snoc (λ (x : Traffic). option_to_list x.sent) (items order) t

-- ---- a move is taken

module _ (parties : List (List Traffic)) where
  begins_more : (order : List (ℕ × Traffic)) (p : ℕ) (t : Traffic) → Begins parties order → slice_get (party_at parties p) (length (own p order)) ≡ Some t
      → IfSome t.heard (Contains (sent_by (items order))) → Begins parties (order ++ (p, t) ∷ [])
  begins_more order p t b next heard =
      record {
        starts = λ i.
            by_test (λ u. (p == i) ≡ u → IsStart (own i (order ++ (p, t) ∷ [])) (party_at parties i)) (p == i)
            (λ _ e.
            let same : p ≡ i = (Decides-eqb p i).0 e in
            subst (λ j. IsStart (own j (order ++ (p, t) ∷ [])) (party_at parties j)) same
            (subst (λ xs. IsStart xs (party_at parties p)) (sym (own_more p order t)) (start_more (own p order) (party_at parties p) t (b.starts p) next)))
            (λ _ e. subst (λ xs. IsStart xs (party_at parties i)) (sym (own_same i p order t e)) (b.starts i))
            refl;
        sent = subst (AllSent []) (sym (items_more order p t)) (all_sent_more [] (items order) t b.sent heard);
      }

  pub run_more :
      (places : List ℕ) (order : List (ℕ × Traffic)) (sent more : List Message) (p : ℕ) (t : Traffic) → IsRun parties places order sent → p < length parties
      → slice_get (party_at parties p) (slice_index places p) ≡ Some t → IfSome t.heard (Contains sent)
      → ((m : Message) → Contains more m ↔ (Contains sent m ⊎ (t.sent ≡ Some m)))
      → IsRun parties (set places p (slice_index places p + 1)) (order ++ (p, t) ∷ []) more
  run_more places order sent more p t run within next heard adds =
      let all = sent_by (items order) in
      record {
        begins =
            begins_more order p t run.begins (subst (λ k. slice_get (party_at parties p) k ≡ Some t) (run.taken p within) next)
            (if_some t.heard (Contains sent) (Contains all) (λ m. (run.known m).0) heard);
        count = length-set places p (slice_index places p + 1) ∙ run.count;
        taken = λ i small.
            by_test (λ u. (p == i) ≡ u → slice_index (set places p (slice_index places p + 1)) i ≡ length (own i (order ++ (p, t) ∷ []))) (p == i)
            (λ _ e.
            let same : p ≡ i = (Decides-eqb p i).0 e in
            let there : p < length places = subst (λ n. p < n) (sym run.count) within in
            subst (λ j. slice_index (set places p (slice_index places p + 1)) j ≡ length (own j (order ++ (p, t) ∷ []))) same
            (get_or-set_same places p (slice_index places p + 1) 0 there
            ∙ (ap (λ n. n + 1) (run.taken p within) ∙ sym (ap (λ xs. length xs) (own_more p order t) ∙ length-append (own p order) (t ∷ [])))))
            (λ _ e.
            let other : i ≡ p → ⊥ = λ same. true≢false (sym ((Decides-eqb p i).1 (sym same)) ∙ e) in
            get_or-set_other places p i (slice_index places p + 1) 0 other ∙ (run.taken i small ∙ sym (ap (λ xs. length xs) (own_same i p order t e))))
            refl;
        known = λ m.
            subst (λ xs. Contains more m ↔ Contains xs m) (sym (sent_more order p t))
            (both m);
      }
    where
      there_first : (m : Message) → Contains sent m ⊎ (t.sent ≡ Some m) → Contains (sent_by (items order) ++ option_to_list t.sent) m
      there_first m (inl a) = Contains-append_left (sent_by (items order)) (option_to_list t.sent) m ((run.known m).0 a)
      there_first m (inr e) = Contains-append_right (sent_by (items order)) (option_to_list t.sent) m (option_in t.sent m e)

      back : (m : Message) → Contains (sent_by (items order)) m ⊎ Contains (option_to_list t.sent) m → Contains more m
      back m (inl a) = (adds m).1 (inl ((run.known m).1 a))
      back m (inr e) = (adds m).1 (inr (in_option t.sent m e))

      both : (m : Message) → Contains more m ↔ Contains (sent_by (items order) ++ option_to_list t.sent) m
      both m = ((λ c. there_first m ((adds m).0 c)), (λ c. back m (Contains-append_cases (sent_by (items order)) (option_to_list t.sent) m c)))

-- the party at a place, as it is read
party_is : (parties : List (List Traffic)) (p : ℕ) (r : List Traffic) → p < length parties → r ≡ get_or parties p r → party_at parties p ≡ r
party_is [] p r within e = absurd (omega arith)
party_is (q ∷ qs) zero r within e = sym e
party_is (q ∷ qs) (suc p) r within e = party_is qs p r (omega arith) e

pub next_there : (parties : List (List Traffic)) (p k : ℕ) (r : List Traffic) (t : Traffic) → p < length parties → r ≡ get_or parties p r
    → Some t ≡ slice_get r k → slice_get (party_at parties p) k ≡ Some t
next_there parties p k r t within is e = ap (λ xs. slice_get xs k) (party_is parties p r within is) ∙ sym e

pub noted : (A B : Message → Type 0) (o : Option Message) (x : Message) → o ≡ Some x → ((m : Message) → A m ↔ (B m ⊎ (m ≡ x))) → (m : Message)
    → A m ↔ (B m ⊎ (o ≡ Some m))
noted A B o x is adds m = ((λ a. there ((adds m).0 a)), (λ b. (adds m).1 (back b)))
  where
    there : B m ⊎ (m ≡ x) → B m ⊎ (o ≡ Some m)
    there (inl b) = inl b
    there (inr e) = inr (is ∙ ap Some (sym e))

    back : B m ⊎ (o ≡ Some m) → B m ⊎ (m ≡ x)
    back (inl b) = inl b
    back (inr e) = inr (let both : Some m ≡ Some x = sym e ∙ is in cc)

-- ---- how many are left

pub left_less : (parties : List (List Traffic)) (places : List ℕ) (p : ℕ) (t : Traffic) → p < length places
    → slice_get (party_at parties p) (slice_index places p) ≡ Some t → left parties (set places p (slice_index places p + 1)) < left parties places
left_less [] places p t within e = absurd (nobody (slice_index places p) e)
  where
    nobody : (k : ℕ) → slice_get {X = Traffic} [] k ≡ Some t → ⊥
    nobody k e = cc
left_less (q ∷ qs) [] p t within e = absurd (omega arith)
left_less (q ∷ qs) (k ∷ ks) zero t within e = let h : k < length q = slice_get_within q k t e in
    let goal : (length q - (k + 1)) + left qs ks < (length q - k) + left qs ks = omega arith in goal
left_less (q ∷ qs) (k ∷ ks) (suc p) t within e =
    let rest = left_less qs ks p t (omega arith) e in
    let goal : (length q - k) + left qs (set ks p (slice_index ks p + 1)) < (length q - k) + left qs ks = omega arith in
    goal

-- ---- at the end

below_or_past : (i n : ℕ) → (i < n) ⊎ (n ≤ i)
below_or_past i zero = inr (omega arith)
below_or_past zero (suc n) = inl (omega arith)
below_or_past (suc i) (suc n) = next (below_or_past i n)
  where
    next : (i < n) ⊎ (n ≤ i) → (suc i < suc n) ⊎ (suc n ≤ suc i)
    next (inl h) = inl (omega arith)
    next (inr h) = inr (omega arith)

module _ (parties : List (List Traffic)) (places : List ℕ) (order : List (ℕ × Traffic)) (sent : List Message) (run : IsRun parties places order sent) where
  pub all_woven : ((p : ℕ) → p < length parties → party_len parties p ≤ slice_index places p) → IsWoven parties order
  all_woven done =
      record { whole = record { whole = λ i. whole i (known i) }; sent = run.begins.sent }
    where
      known : (i : ℕ) → (i < length parties) ⊎ (length parties ≤ i)
      known i = below_or_past i (length parties)

      whole : (i : ℕ) → (i < length parties) ⊎ (length parties ≤ i) → own i order ≡ party_at parties i
      whole i (inl small) =
          let long : party_len parties i ≤ length (own i order) = subst (λ n. party_len parties i ≤ n) (run.taken i small) (done i small) in
          start_whole (own i order) (party_at parties i) (run.begins.starts i) long
      whole i (inr large) =
          let none : party_at parties i ≡ [] = ap (λ o. unwrap_or o []) (slice_get_past parties i large) in
          of_nothing (own i order) (subst (IsStart (own i order)) none (run.begins.starts i)) ∙ sym none

  -- every other beginning has of each party a beginning of what this one has
  unfoldable Covers : List (ℕ × Traffic) → Type 0
  Covers past = (i : ℕ) → IsStart (own i past) (own i order)

  abbrev IsKnown : Traffic → Type 0
  IsKnown t = (m : Message) → t.sent ≡ Some m → Contains (sent_by (items order)) m

  all_known : (ts : List Traffic) → AllByRecursion (λ t. (m : Message) → t.sent ≡ Some m → Contains (sent_by ts) m) ts
  all_known [] = tt
  all_known (t ∷ ts) = (
    (λ m e. Contains-append_left (option_to_list t.sent) (sent_by ts) m (option_in t.sent m e)),
    later ts (all_known ts),
  )
    where
      later : (xs : List Traffic) → AllByRecursion (λ x. (m : Message) → x.sent ≡ Some m → Contains (sent_by ts) m) xs
          → AllByRecursion (λ x. (m : Message) → x.sent ≡ Some m → Contains (sent_by (t ∷ ts)) m) xs
      later [] all = tt
      later (x ∷ xs) all = ((λ m e. Contains-append_right (option_to_list t.sent) (sent_by ts) m (all.0 m e)), later xs all.1)

  from_known : (ts : List Traffic) → AllByRecursion IsKnown ts → (m : Message) → Contains (sent_by ts) m → Contains (sent_by (items order)) m
  from_known [] all m c = absurd (in_none m c)
  from_known (t ∷ ts) all m c = either (λ b. from_known ts all.1 m b) (Contains-append_cases (option_to_list t.sent) (sent_by ts) m c)
    where
      either : (Contains (sent_by ts) m → Contains (sent_by (items order)) m) → Contains (option_to_list t.sent) m ⊎ Contains (sent_by ts) m
          → Contains (sent_by (items order)) m
      either later (inl a) = all.0 m (in_option t.sent m a)
      either later (inr b) = later b

  covered_sent : (past : List (ℕ × Traffic)) → Covers past → (m : Message) → Contains (sent_by (items past)) m → Contains (sent_by (items order)) m
  unfolding Covers
  covered_sent past covers =
      from_known (items past)
      (all_mapped (λ x. x.1) (λ x. IsKnown x.1) IsKnown (λ x is. is) past
      (all_through (λ j. IsKnown) past (λ j. all_start IsKnown (own j past) (own j order) (covers j) (all_own IsKnown j order (all_known (items order))))))

  module _ (stuck : (p : ℕ) → p < length parties → IsReady sent (next_at parties places p) → ⊥) where
    not_next : (p : ℕ) (t : Traffic) → slice_get (party_at parties p) (length (own p order)) ≡ Some t → IfSome t.heard (Contains (sent_by (items order))) → ⊥
    not_next p t next heard =
        let small : p < length parties = a_party p in
        stuck p small
        (subst (IsReady sent) (sym (subst (λ k. slice_get (party_at parties p) k ≡ Some t) (sym (run.taken p small)) next))
        (if_some t.heard (Contains (sent_by (items order))) (Contains sent) (λ m. (run.known m).1) heard))
      where
        nothing : (k : ℕ) → slice_get {X = Traffic} [] k ≡ Some t → ⊥
        nothing k e = cc

        among : (qs : List (List Traffic)) (q : ℕ) → slice_get (party_at qs q) (length (own p order)) ≡ Some t → q < length qs
        among [] q e = absurd (nothing (length (own p order)) e)
        among (x ∷ xs) zero e = omega arith
        among (x ∷ xs) (suc q) e = let h = among xs q e in omega arith

        a_party : (q : ℕ) → p < length parties
        a_party q = among parties p next

    -- one more move of another beginning
    covers_more :
        (other past : List (ℕ × Traffic)) (p : ℕ) (t : Traffic) (rest : List (ℕ × Traffic)) → Begins parties other → past ++ (p, t) ∷ rest ≡ other
        → IfSome t.heard (Contains (sent_by (items past))) → Covers past
        → Covers (past ++ (p, t) ∷ [])
    unfolding Covers
    covers_more other past p t rest b is heard covers i =
        by_test (λ u. (p == i) ≡ u → IsStart (own i (past ++ (p, t) ∷ [])) (own i order)) (p == i)
        (λ _ e. let same : p ≡ i = (Decides-eqb p i).0 e in subst (λ j. IsStart (own j (past ++ (p, t) ∷ [])) (own j order)) same
        (subst (λ xs. IsStart xs (own p order)) (sym (own_more p past t)) its))
        (λ _ e. subst (λ xs. IsStart xs (own i order)) (sym (own_same i p past t e)) (covers i))
        refl
      where
        -- the party's moves, by the other beginning and by this one
        ours : own p order ++ (run.begins.starts p).rest ≡ party_at parties p
        ours = (run.begins.starts p).is

        theirs : own p past ++ (t ∷ (own p rest ++ (b.starts p).rest)) ≡ party_at parties p
        theirs =
            let split : own p other ≡ own p past ++ t ∷ own p rest =
            ap (own p) (sym is) ∙ (ap (own p) (sym (append_assoc past ((p, t) ∷ []) rest))
            ∙ (own_split p (past ++ (p, t) ∷ []) rest ∙ (ap (λ xs. xs ++ own p rest) (own_more p past t) ∙ append_assoc (own p past) (t ∷ []) (own p rest))))
            in
            sym (append_assoc (own p past) (t ∷ own p rest) (b.starts p).rest) ∙ (ap (λ xs. xs ++ (b.starts p).rest) (sym split) ∙ (b.starts p).is)

        goes_on : (w : List Traffic) → own p past ++ w ≡ own p order → IsStart (own p past ++ t ∷ []) (own p order)
        goes_on [] e =
            let all : own p past ≡ own p order = sym (append-nil (own p past)) ∙ e in
            let next : slice_get (party_at parties p) (length (own p order)) ≡ Some t =
            subst (λ xs. slice_get (party_at parties p) (length xs) ≡ Some t) all
            (subst (λ ys. slice_get ys (length (own p past)) ≡ Some t) theirs (next_is (own p past) t (own p rest ++ (b.starts p).rest))) in
            absurd (not_next p t next (if_some t.heard (Contains (sent_by (items past))) (Contains (sent_by (items order))) (covered_sent past covers) heard))
        goes_on (u ∷ w) e =
            let joined : own p past ++ ((u ∷ w) ++ (run.begins.starts p).rest) ≡ own p past ++ (t ∷ (own p rest ++ (b.starts p).rest)) =
            sym (append_assoc (own p past) (u ∷ w) (run.begins.starts p).rest) ∙ (ap (λ xs. xs ++ (run.begins.starts p).rest) e ∙ (ours ∙ sym theirs)) in
            let heads = cancel (own p past) _ _ joined in
            let same : u ≡ t = cc in
            record { rest = w; is = append_assoc (own p past) (t ∷ []) w ∙ (ap (λ x. own p past ++ x ∷ w) (sym same) ∙ e) }

        its : IsStart (own p past ++ t ∷ []) (own p order)
        its = goes_on (covers p).rest (covers p).is

    all_covered :
        (other past rest : List (ℕ × Traffic)) → Begins parties other → past ++ rest ≡ other → AllSent (items past) (items rest) → Covers past → Covers other
    all_covered other past [] b is sent_all covers = subst Covers (sym (append-nil past) ∙ is) covers
    all_covered other past ((p, t) ∷ rest) b is sent_all covers =
        all_covered other (past ++ (p, t) ∷ []) rest b (append_assoc past ((p, t) ∷ []) rest ∙ is)
        (subst (λ xs. AllSent xs (items rest)) (sym (items_more past p t)) sent_all.1)
        (covers_more other past p t rest b is sent_all.0 covers)

    nothing_covered : Covers []
    unfolding Covers
    nothing_covered i = record { rest = own i order; is = refl }

    covered_len : (other : List (ℕ × Traffic)) → Covers other → (p : ℕ) → length (own p other) ≤ length (own p order)
    unfolding Covers
    covered_len other covers p = start_len (own p other) (own p order) (covers p)

    pub unexplained : (p : ℕ) → p < length parties → slice_index places p < party_len parties p → IsUnexplained parties p (slice_index places p)
    unexplained p small some =
        record {
          order = order;
          begins = run.begins;
          reached = sym (run.taken p small);
          there = some;
          never = λ other b.
              subst (λ n. length (own p other) ≤ n) (sym (run.taken p small))
              (covered_len other (all_covered other [] other b refl b.sent nothing_covered) p);
        }

-- ---- and at the beginning

zeros : (parties : List (List Traffic)) (i : ℕ) → slice_index (map (λ p. 0) parties) i ≡ 0
zeros [] i = refl
zeros (p ∷ ps) zero = refl
zeros (p ∷ ps) (suc i) = zeros ps i

zeros_count : (parties : List (List Traffic)) → length {A = ℕ} (map (λ p. 0) parties) ≡ length parties
zeros_count [] = refl
zeros_count (p ∷ ps) = ap suc (zeros_count ps)

pub nothing_run : (parties : List (List Traffic)) (places : List ℕ) → places ≡ map (λ p. 0) parties → IsRun parties places [] []
nothing_run parties places is =
    subst (λ ks. IsRun parties ks [] []) (sym is)
    (record {
      begins = record { starts = λ i. record { rest = party_at parties i; is = refl }; sent = tt };
      count = zeros_count parties;
      taken = λ i small. zeros parties i;
      known = λ m. ((λ c. c), (λ c. c));
    })

-- where a move is unexplained there is no order
pub no_order : (parties : List (List Traffic)) (p k : ℕ) (order : List (ℕ × Traffic)) → IsUnexplained parties p k → IsWoven parties order → ⊥
no_order parties p k order u w =
    let b : Begins parties order = record { starts = λ i. record { rest = []; is = append-nil (own i order) ∙ w.whole.whole i }; sent = w.sent } in
    let short : length (own p order) ≤ k = u.never order b in
    let same : length (own p order) ≡ party_len parties p = ap (λ xs. length xs) (w.whole.whole p) in
    let there = u.there in
    omega arith
