-- The incarnations of clients in an etcd.
use Rattle.std.specs.Prelude.{◌≡◌, ℕ, ◌^◌, nat_lt, [], ◌∷◌, Option, None, option_map, unwrap_or, if◌then◌else◌}
use Rattle.std.specs.Fmt.{decimal}
use Rattle.scoop_lines.specs.Number.{decimal_below}
use Rattle.scoop_keeper.specs.Keeper.{last_incarnation, next_of}
use Rattle.scoop_etcd.specs.Etcd.{Bytes, Contents, Puts, SameKeys}
use Rattle.scoop_etcd.specs.Keys.{client_key}
use Rattle.scoop_etcd.specs.Owning.{StoreKeys, Owns, value_under}

-- an incarnation is written in decimal digits. A value that writes none counts as the last one, after which none comes.
abbrev pub inc_of : Bytes → ℕ
inc_of value = unwrap_or (decimal_below (2 ^ 32) value) last_incarnation

-- the stored incarnation of each client, by its number
abbrev pub incs_in : Bytes → Contents → ℕ → Option ℕ
incs_in name c client = if nat_lt client (2 ^ 32) then option_map inc_of (value_under c (client_key name client)) else None

-- The store, which still owned the record, put this incarnation for the client.
pub record Advances (IsAlone : Type 0) (old new : Contents) (keys : StoreKeys) (client inc : ℕ) : Type 0 where
  pub met : Contents
  pub own : IsAlone → SameKeys old met
  pub owns : Owns met keys
  pub next : IsAlone → inc ≡ next_of (incs_in keys.name old client)
  pub puts : Puts met new ((client_key keys.name client, decimal inc) ∷ [])
