-- The first of a list that passes a test, found place by place.
use Rattle.std.proofs.Common.{◌≡◌, ℕ, zero, suc, ◌+◌, Bool, true, false, true≢false, List, [], ◌∷◌, map, find, drop, slice_get, Option, Some, None, refl, sym}
use Rattle.std.proofs.Common.{ap, ◌∙◌, arith}
use Rattle.std.specs.Prelude.{if◌then◌else◌, ◌&&◌, not, is_some}
use Rattle.std.specs.Option.{option_map, option_or}
use Rattle.scoop_keeper.proofs.Keyed.{by_test}
use Rattle.scoop_message.specs.declared.name.Block.{Block}
use Rattle.scoop_message.specs.declared.name.ClientId.{ClientId}
use Rattle.scoop_message.specs.declared.request.Entry.{Entry}
use Rattle.scoop_queue.specs.Queue.{front}
use Rattle.scoop_handler.specs.Running.{task_of}
use Rattle.scoop_client.specs.State.{ClientState}
use Rattle.scoop_model.specs.World.{World, Site, Party, number_of}
use Rattle.scoop_world.specs.Standing.{Standing, numbered, standing}
use Rattle.scoop_calm.specs.declared.next.Next.{Next}
use Rattle.scoop_calm.specs.declared.next.Next.TheVariants as next
use Rattle.scoop_calm.specs.Next.{can_begin, next_finish, next_begin}
use Rattle.scoop_calm.specs.Standing.{can_leave, first_out, first_to_begin}

-- ---- place by place

pub drop_get : {A : Type 0} (xs : List A) (i : ℕ) (x : A) → slice_get xs i ≡ Some x → drop i xs ≡ x ∷ drop (i + 1) xs
drop_get [] i x e = absurd (cc)
drop_get (y ∷ ys) zero x e = let same : y ≡ x = cc in ap (λ z. z ∷ ys) same
drop_get (y ∷ ys) (suc i) x e = let on : suc (i + 1) ≡ suc i + 1 = omega arith in drop_get ys i x e ∙ ap (λ n. x ∷ drop n (y ∷ ys)) on

module _ {A : Type 0} (test : A → Bool) (xs : List A) (i : ℕ) (x : A) (at : slice_get xs i ≡ Some x) (left : find test (drop i xs) ≡ find test xs) where
  one : (t : Bool) → test x ≡ t → find test xs ≡ (if t then Some x else find test (drop (i + 1) xs))
  one t is = sym left ∙ ap (find test) (drop_get xs i x at) ∙ ap (λ u. if u then Some x else find test (drop (i + 1) xs)) is

  pub found_here : test x ≡ true → find test xs ≡ Some x
  found_here is = one true is

  pub not_here : test x ≡ false → find test (drop (i + 1) xs) ≡ find test xs
  not_here is = sym (one false is)

-- ---- one of several

pub or_some : (o p : Option Next) → is_some o ≡ true → option_or o p ≡ o
or_some None p e = absurd (true≢false (sym e))
or_some (Some x) p e = refl

pub or_none : (o p : Option Next) → is_some o ≡ false → option_or o p ≡ p
or_none None p e = refl
or_none (Some x) p e = absurd (true≢false e)

-- ---- parties, as they stand

-- a client with its number is that of a party
pub record AtPlace (ps : List Party) (i : ℕ) (n : ClientId × ClientState) : Type 0 where
  pub party : Party
  pub at : slice_get ps i ≡ Some party
  pub is : numbered party ≡ n

pub party_at : (ps : List Party) (i : ℕ) (n : ClientId × ClientState) → Some n ≡ option_map numbered (slice_get ps i) → AtPlace ps i n
party_at ps i n e = from (slice_get ps i) refl e
  where
    from : (o : Option Party) → slice_get ps i ≡ o → Some n ≡ option_map numbered o → AtPlace ps i n
    from None at f = absurd (cc)
    from (Some p) at f = record { party = p; at = at; is = (let same : numbered p ≡ n = cc in same) }

-- a handler found as it stands is found among the handlers
pub standing_found : (test : Standing → Bool) (make : Standing → Next) (ss : List Site)
    → option_map make (find test (map standing ss)) ≡ option_map (λ s. make (standing s)) (find (λ s. test (standing s)) ss)
standing_found test make [] = refl
standing_found test make (s ∷ ss) =
    by_test
    (λ t. option_map make (if t then Some (standing s) else find test (map standing ss))
    ≡ option_map (λ y. make (standing y)) (if t then Some s else find (λ y. test (standing y)) ss))
    (test (standing s)) (λ _. refl) (λ _. standing_found test make ss)

-- ---- all of it

find_same : {A : Type 0} (p q : A → Bool) (xs : List A) → ((x : A) → p x ≡ q x) → find p xs ≡ find q xs
find_same p q [] same = refl
find_same p q (x ∷ xs) same = λ i. if same x i then Some x else find_same p q xs same i

leaves_is : (s : Site) → can_leave (standing s) ≡ can_begin s
leaves_is s = by_cases s.core.out (front s.core.state.queues)
  where
    by_cases : (t : Bool) (o : Option (Block × ℕ × Entry)) → (not t && is_some o) ≡ is_some (if t then None else option_map (task_of s.core) o)
    by_cases true o = refl
    by_cases false None = refl
    by_cases false (Some f) = refl

module _ (w : World) (ss : List Standing) (is : ss ≡ map standing w.sites) where
  pub finish_is : first_out ss ≡ next_finish w
  finish_is = ap first_out is ∙ standing_found (λ (s : Standing). s.is_out) (λ (s : Standing). next.Finish s.state.number) w.sites

  pub begin_is : first_to_begin ss ≡ next_begin w
  begin_is =
      ap first_to_begin is ∙ standing_found can_leave (λ (s : Standing). next.Begin s.state.number) w.sites
      ∙ ap (option_map (λ (s : Site). next.Begin (number_of s))) (find_same (λ (s : Site). can_leave (standing s)) can_begin w.sites leaves_is)
