-- The ownership of a store: a token under its owner's key.
use Rattle.std.specs.Prelude.{◌≡◌, ℕ, [], ◌∷◌, Some, Option}
use Rattle.hex.specs.Hex.{encode_lower}
use Rattle.scoop_etcd.specs.Etcd.{Bytes, Contents, Puts, SameKeys, value_of, revision_of}
use Rattle.scoop_etcd.specs.Keys.{owner_key}
use Rattle.scoop_etcd.specs.declared.keys.Keys.{Keys}
use Rattle.scoop_etcd.specs.declared.keys.Owner.{Owner}

-- the name of a store, the key of its owner, and the token that the store put there
pub record StoreKeys : Type 0 where
  pub name : Bytes
  pub owner : Bytes
  pub token : Bytes

abbrev pub store_keys : Bytes → Bytes → Bytes → StoreKeys
store_keys name owner token = record { name = name; owner = owner; token = token }

abbrev pub keys_of : Keys → StoreKeys
keys_of keys = store_keys keys.name.items keys.owner.items keys.token.items

-- the token is written as 32 hex digits
abbrev pub keys_under : Bytes → Owner → Bytes → StoreKeys
keys_under name owner token = store_keys name (owner_key name owner) (encode_lower token)

abbrev pub value_under : Contents → Bytes → Option Bytes
value_under c key = value_of (c.under key)

-- the store's token stands under its owner's key
abbrev pub Owns : Contents → StoreKeys → Type 0
Owns c keys = value_under c keys.owner ≡ Some keys.token

-- The token was put.
pub record Replaces (IsAlone : Type 0) (old new : Contents) (keys : StoreKeys) : Type 0 where
  pub met : Contents
  pub own : IsAlone → SameKeys old met
  pub puts : Puts met new ((keys.owner, keys.token) ∷ [])

-- The token was put where the owner's key stood at this revision.
pub record Takes (IsAlone : Type 0) (old new : Contents) (keys : StoreKeys) (revision : ℕ) : Type 0 where
  pub met : Contents
  pub own : IsAlone → SameKeys old met
  pub stood : revision_of (met.under keys.owner) ≡ revision
  pub puts : Puts met new ((keys.owner, keys.token) ∷ [])
