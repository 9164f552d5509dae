-- Keys of one store that differ.
use Rattle.std.proofs.Common.{◌≡◌, ◌≢◌, ℕ, ◌^◌, ◌<◌, ◌++◌, length, drop, get_or, refl, sym, ap, ◌∙◌, arith}
use Rattle.std.proofs.lemmas.Fmt.{decimal_injective}
use Rattle.std.proofs.lemmas.List.{drop_at}
use Rattle.scoop_etcd.specs.Etcd.{Bytes}
use Rattle.scoop_etcd.specs.Keys.{handler_key, client_key, owner_key}
use Rattle.scoop_etcd.specs.declared.keys.Owner.{Owner}
use Rattle.scoop_etcd.specs.declared.keys.Owner.TheVariants.{Node, Client}

-- equal texts that begin with the same name have the same rest
rest_same : (name a b : Bytes) → name ++ a ≡ name ++ b → a ≡ b
rest_same name a b e = sym (drop_at name a (length name) refl) ∙ ap (drop (length name)) e ∙ drop_at name b (length name) refl

pub handler_same : (name : Bytes) (a b : ℕ) → a < 2 ^ 32 → b < 2 ^ 32 → handler_key name a ≡ handler_key name b → a ≡ b
handler_same name a b p q e =
    decimal_injective a b (omega (arith, p)) (omega (arith, q)) (ap (drop 10) (rest_same name _ _ e))

pub client_same : (name : Bytes) (a b : ℕ) → a < 2 ^ 32 → b < 2 ^ 32 → client_key name a ≡ client_key name b → a ≡ b
client_same name a b p q e =
    decimal_injective a b (omega (arith, p)) (omega (arith, q)) (ap (drop 9) (rest_same name _ _ e))

pub handler_no_client : (name : Bytes) (handler client : ℕ) → handler_key name handler ≢ client_key name client
handler_no_client name handler client e = let same : 104 ≡ 99 = ap (λ xs. get_or xs 1 0) (rest_same name _ _ e) in omega (arith, same)

pub owner_no_handler : (name : Bytes) (owner : Owner) (handler : ℕ) → owner_key name owner ≢ handler_key name handler
owner_no_handler name (Node n) handler e = let same : 111 ≡ 104 = ap (λ xs. get_or xs 1 0) (rest_same name _ _ e) in omega (arith, same)
owner_no_handler name (Client c) handler e = let same : 111 ≡ 104 = ap (λ xs. get_or xs 1 0) (rest_same name _ _ e) in omega (arith, same)

pub owner_no_client : (name : Bytes) (owner : Owner) (client : ℕ) → owner_key name owner ≢ client_key name client
owner_no_client name (Node n) client e = let same : 111 ≡ 99 = ap (λ xs. get_or xs 1 0) (rest_same name _ _ e) in omega (arith, same)
owner_no_client name (Client c) client e = let same : 111 ≡ 99 = ap (λ xs. get_or xs 1 0) (rest_same name _ _ e) in omega (arith, same)
