-- Look-ups by a key, once one item is put in the place of that with its key.
use Rattle.std.proofs.Common.{◌≡◌, Bool, true, false, true≢false, List, [], ◌∷◌, map, find, Option, Some, refl, sym, ap, ◌∙◌, subst, if◌then◌else◌}
use Rattle.std.specs.Bool.{Decides}
use Rattle.scoop_message.specs.declared.name.ClientId.{ClientId}
use Rattle.scoop_message.specs.declared.name.HandlerId.{HandlerId}
use Rattle.scoop_message.specs.declared.message.Message.{Message}
use Rattle.scoop_message.specs.Message.{handler_of, same_client, same_handler}
use Rattle.scoop_message.proofs.Same.{handler_decides, client_decides}
use Rattle.scoop_model.specs.World.{World, Site, Party, number_of, id_of, is_site, is_party, site_of, party_of, set_site, set_party}
use Rattle.scoop_model.specs.Step.{heard_site}
use Rattle.scoop_handler.specs.Hearing.{hear}
use Rattle.scoop_handler.proofs.Basics.{by_test}
use Rattle.scoop_handler.proofs.TableLaws.{number-row}
use Rattle.scoop_handler.proofs.TableRows.{row}
use Rattle.std.proofs.lemmas.Bool.{false_from_ne_true}
pub use Rattle.scoop_handler.proofs.Basics.{key_found}

module _ {A K : Type 0} (key : A → K) (same : K → K → Bool) (decides : (a b : K) → Decides (same a b) (a ≡ b)) where
  abbrev has_key : K → A → Bool
  has_key k x = same (key x) k

  abbrev newer : A → A → A
  newer a x = if has_key (key a) x then a else x

  same_itself : (k : K) → same k k ≡ true
  same_itself k = (decides k k).1 refl

  own_found : (a old : A) (xs : List A) → find (has_key (key a)) xs ≡ Some old → find (has_key (key a)) (map (newer a) xs) ≡ Some a
  own_found a old [] e = absurd (cc)
  own_found a old (x ∷ xs) e =
      let k = key a in
      let rest = find (has_key k) (map (newer a) xs) in
      by_test
      (λ t. (if t then Some x else find (has_key k) xs) ≡ Some old → has_key k x ≡ t
      → (if has_key k (if t then a else x) then Some (if t then a else x) else rest) ≡ Some a)
      (has_key k x)
      (λ here f is. ap (λ u. if u then Some a else rest) (same_itself k))
      (λ there f is. ap (λ u. if u then Some x else rest) is ∙ own_found a old xs f) e refl

  other_found : (a : A) (k : K) (xs : List A) → (key a ≡ k → ⊥) → find (has_key k) (map (newer a) xs) ≡ find (has_key k) xs
  other_found a k [] apart = refl
  other_found a k (x ∷ xs) apart =
      let rest = find (has_key k) (map (newer a) xs) in
      by_test (λ t. (if has_key k (if t then a else x) then Some (if t then a else x) else rest) ≡ (if has_key k x then Some x else find (has_key k) xs))
      (has_key (key a) x)
      (λ is.
      let own : key x ≡ key a = (decides (key x) (key a)).0 is in
      let not_a : has_key k a ≡ false =
      false_from_ne_true (has_key k a) (λ f. apart ((decides (key a) k).0 f)) in
      let not_x : has_key k x ≡ false = subst (λ j. same j k ≡ false) (sym own) not_a in
      ap (λ u. if u then Some a else rest) not_a ∙ other_found a k xs apart ∙ sym (ap (λ u. if u then Some x else find (has_key k) xs) not_x))
      (λ is. ap (λ r. if has_key k x then Some x else r) (other_found a k xs apart))

  -- the cases of a look-up: the key that is new, and the others
  pub by_key : (P : Option A → Type 0) (a old : A) (xs : List A) (k : K) → find (has_key (key a)) xs ≡ Some old
      → (key a ≡ k → P (Some a)) → ((key a ≡ k → ⊥) → P (find (has_key k) xs)) → P (find (has_key k) (map (newer a) xs))
  by_key P a old xs k was here there =
      by_test (λ _. P (find (has_key k) (map (newer a) xs))) (same (key a) k)
      (λ is. let e = (decides (key a) k).0 is in subst (λ j. P (find (has_key j) (map (newer a) xs))) e (subst P (sym (own_found a old xs was)) (here e)))
      (λ is.
      let apart : key a ≡ k → ⊥ = λ e. true≢false (sym ((decides (key a) k).1 e) ∙ is) in
      subst P (sym (other_found a k xs apart)) (there apart))

-- ---- the sites and the parties of a world

pub number_found : (h : HandlerId) (w : World) (s : Site) → site_of h w ≡ Some s → number_of s ≡ h
number_found h w s e = key_found number_of same_handler handler_decides h w.sites s e

-- the site that is found for a handler is that of its own number, also once the handler has heard a message
pub own_site : (w : World) (h : HandlerId) (s : Site) → site_of h w ≡ Some s → site_of (number_of s) w ≡ Some s
own_site w h s found = subst (λ j. site_of j w ≡ Some s) (sym (number_found h w s found)) found

pub heard_place :
    (w : World) (m : Message) (s : Site) → site_of (handler_of m) w ≡ Some s → site_of (number_of (heard_site s (hear s.core.state m))) w ≡ Some s
heard_place w m s found =
    subst (λ j. site_of j w ≡ Some s) (sym (number-row s.core.state m (hear s.core.state m) (row s.core.state m))) (own_site w (handler_of m) s found)

pub id_found : (c : ClientId) (w : World) (p : Party) → party_of c w ≡ Some p → id_of p ≡ c
id_found c w p e = key_found id_of same_client client_decides c w.parties p e

pub by_site : (P : Option Site → Type 0) (w : World) (s old : Site) (h : HandlerId) → site_of (number_of s) w ≡ Some old
    → (number_of s ≡ h → P (Some s)) → ((number_of s ≡ h → ⊥) → P (site_of h w)) → P (find (is_site h) (set_site s w.sites))
by_site P w s old h = by_key number_of same_handler handler_decides P s old w.sites h

-- a site that is put in the place of its handler's is found there
pub site_put : (w : World) (s old : Site) → site_of (number_of s) w ≡ Some old → find (is_site (number_of s)) (set_site s w.sites) ≡ Some s
site_put w s old here = own_found number_of same_handler handler_decides s old w.sites here

pub by_party : (P : Option Party → Type 0) (w : World) (p old : Party) (c : ClientId) → party_of (id_of p) w ≡ Some old
    → (id_of p ≡ c → P (Some p)) → ((id_of p ≡ c → ⊥) → P (party_of c w)) → P (find (is_party c) (set_party p w.parties))
by_party P w p old c = by_key id_of same_client client_decides P p old w.parties c
