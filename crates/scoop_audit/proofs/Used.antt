-- The handlers that a file says a client uses: one of them at least is the file's.
use Rattle.std.proofs.Common.{◌≡◌, ℕ, ◌==◌, Bool, true, false, List, [], ◌∷◌, ◌++◌, length, Option, Some, None, Ok, Err, refl, sym, ap, ◌∙◌, subst}
use Rattle.std.specs.Prelude.{◌&&◌, ◌||◌, find, if◌then◌else◌, nat_le, ⊤}
use Rattle.std.specs.List.{list_any}
use Rattle.std.specs.Option.{ok_or, option_map}
use Rattle.std.proofs.lemmas.Bool.Decides.{Decides-eqb}
use Rattle.std.proofs.lemmas.List.Folds.{list_any-append}
use Rattle.scoop_lines.specs.Reading.{◌>>=◌, unless}
use Rattle.scoop_message.specs.declared.limits.TheConstants.{MAX_HANDLERS}
use Rattle.scoop_message.specs.declared.name.HandlerId.{HandlerId}
use Rattle.scoop_handler.proofs.Basics.{by_test}
use Rattle.scoop_system.specs.declared.error.Wrong.{Wrong}
use Rattle.scoop_system.specs.declared.error.Wrong.TheVariants.{NoHandlerNamed, NoSuchHandler, NotHandlers}
use Rattle.scoop_system.specs.declared.place.HandlerPlace.{HandlerPlace}
use Rattle.scoop_system.specs.Known.{is_among}
use Rattle.scoop_system.specs.Name.{told}
use Rattle.scoop_system.specs.System.{has_name}
use Rattle.scoop_system.specs.Value.{list_of}
use Rattle.scoop_system.specs.Used.{listed_used, named_or_numbered, next_used, some_used, used_at, used_before, used_from, used_handler, used_in}
use Rattle.scoop_audit.proofs.Reading.{ok_same, read_then}

-- a client that names handlers names one of these
abbrev pub UsesSome : List HandlerPlace → Option (List HandlerId) → Type 0
UsesSome hs None = ⊤
UsesSome hs (Some named) = list_any (λ h. is_among named h.handler) hs ≡ true

-- ---- one handler

-- the handler of one of these places
record IsOf (hs : List HandlerPlace) (h : HandlerId) : Type 0 where
  test : HandlerPlace → Bool
  place : HandlerPlace
  found : find test hs ≡ Some place
  is : place.handler ≡ h

is_of : (hs : List HandlerPlace) (test : HandlerPlace → Bool) (o : Option HandlerPlace) (w : Wrong) (h : HandlerId) → find test hs ≡ o
    → ok_or (option_map (λ p. p.handler) o) w ≡ Ok h → IsOf hs h
is_of hs test None w h found is = absurd (cc)
is_of hs test (Some p) w h found is = record { test = test; place = p; found = found; is = cc (is) }

used_is_of : (hs : List HandlerPlace) (name : Option (List ℕ)) (number : Option ℕ) (h : HandlerId) → named_or_numbered hs name number ≡ Ok h → IsOf hs h
used_is_of hs (Some name) number h is =
    is_of hs (λ p. has_name p.name name) (find (λ p. has_name p.name name) hs) (NoHandlerNamed (told name)) h refl is
used_is_of hs None (Some n) h is = is_of hs (λ p. p.handler.0 == n) (find (λ p. p.handler.0 == n) hs) (NoSuchHandler n) h refl is
used_is_of hs None None h is = absurd (cc)

any_found : (test q : HandlerPlace → Bool) (hs : List HandlerPlace) (p : HandlerPlace) → find test hs ≡ Some p → q p ≡ true → list_any q hs ≡ true
any_found test q [] p found passes = absurd (cc)
any_found test q (h ∷ hs) p found passes =
    by_test (λ t. (if t then Some h else find test hs) ≡ Some p → list_any q (h ∷ hs) ≡ true) (test h)
    (λ _ e. let same : h ≡ p = cc (e) in ap (λ t. t || list_any q hs) (ap q same ∙ passes))
    (λ _ e. by_test (λ t. (t || list_any q hs) ≡ true) (q h) (λ _. refl) (λ _. any_found test q hs p e passes))
    found

-- ---- all of them

-- those that were read stay
used_keeps : (hs : List HandlerPlace) (done : List HandlerId) (ds : List _) (named : List HandlerId) (p : HandlerId → Bool)
    → used_from hs done ds ≡ Ok named → list_any p done ≡ true → list_any p named ≡ true
used_keeps hs done [] named p is any = let same : done ≡ named = cc (is) in subst (λ xs. list_any p xs ≡ true) same any
used_keeps hs done (d ∷ ds) named p is any =
    let t = read_then (next_used hs done d) (λ h. used_from hs (done ++ h ∷ []) ds) named is in
    used_keeps hs (done ++ t.value ∷ []) ds named p t.rest
    (list_any-append p done (t.value ∷ []) ∙ ap (λ b. b || list_any p (t.value ∷ [])) any)

first_used : (hs : List HandlerPlace) (d : _) (ds : List _) (named : List HandlerId) → used_from hs [] (d ∷ ds) ≡ Ok named → UsesSome hs (Some named)
first_used hs d ds named is =
    let t = read_then (next_used hs [] d) (λ h. used_from hs (h ∷ []) ds) named is in
    let n = read_then (used_handler hs d) (λ h. unless (used_before [] h) (Ok h)) t.value t.first in
    let same : n.value ≡ t.value = ok_same (Ok n.value) n.value t.value refl n.rest in
    let o = used_is_of hs _ _ n.value n.first in
    let h : HandlerId = o.place.handler in
    let here : t.value ≡ h = sym (o.is ∙ same) in
    let itself : (h.0 == h.0) ≡ true = (Decides-eqb h.0 h.0).1 refl in
    let first : is_among (t.value ∷ []) h ≡ true = ap (λ (x : HandlerId). (x.0 == h.0) || false) here ∙ ap (λ b. b || false) itself in
    any_found o.test (λ p. is_among named p.handler) hs o.place o.found
    (used_keeps hs (t.value ∷ []) ds named (λ x. x.0 == h.0) t.rest first)

listed_some : (hs : List HandlerPlace) (ds : List _) (named : List HandlerId) → some_used hs ds ≡ Ok named → UsesSome hs (Some named)
listed_some hs [] named is = absurd (cc)
listed_some hs (d ∷ ds) named is =
    by_test (λ t. (if t then used_from hs [] (d ∷ ds) else Err NotHandlers) ≡ Ok named → UsesSome hs (Some named))
    (nat_le 1 (length (d ∷ ds)) && nat_le (length (d ∷ ds)) MAX_HANDLERS) (λ _ e. first_used hs d ds named e) (λ _ e. absurd (cc)) is

list_some : (hs : List HandlerPlace) (o : Option _) (used : Option (List HandlerId)) → (listed_used hs o >>= λ named. Ok (Some named)) ≡ Ok used
    → UsesSome hs used
list_some hs None used is = absurd (cc)
list_some hs (Some items) used is =
    let t = read_then (some_used hs (list_of items)) (λ named. Ok (Some named)) used is in
    let same : Some t.value ≡ used = ok_same (Ok (Some t.value)) (Some t.value) used refl t.rest in
    subst (UsesSome hs) same (listed_some hs (list_of items) t.value t.first)

entry_some : (hs : List HandlerPlace) (o : Option _) (used : Option (List HandlerId)) → used_in hs o ≡ Ok used → UsesSome hs used
entry_some hs None used is = let same : None ≡ used = cc (is) in subst (UsesSome hs) same tt
entry_some hs (Some x) used is = search list_some

pub used_some : (hs : List HandlerPlace) (d : _) (used : Option (List HandlerId)) → used_at hs d ≡ Ok used → UsesSome hs used
used_some hs d used is = search entry_some
