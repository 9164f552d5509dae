-- The effect of a store's transactions on its contents, while no other program writes.
use Rattle.std.proofs.Common.{◌≡◌, ◌↔◌, ℕ, ◌+◌, ◌^◌, ◌<◌, ◌≤◌, List, [], ◌∷◌, find, length, Option, Some, None, ap, ◌∙◌, subst, arith, length-append}
use Rattle.std.proofs.lemmas.List.{length-map}
use Rattle.scoop_handler.specs.State.{HandlerState}
use Rattle.scoop_keeper.specs.Keeper.{Stored, Keeps, Stays, IsSame, Sets}
use Rattle.scoop_record.specs.Gathering.{last_of, Over, OverOne, Gathers, GathersAt, is_of}
use Rattle.scoop_etcd.specs.Etcd.{Bytes, Contents, Kept, Puts, contents}
use Rattle.scoop_etcd.specs.Owning.{StoreKeys, Replaces, keys_under}
use Rattle.hex.specs.Hex.{encode_lower}
use Rattle.scoop_etcd.specs.Keys.{owner_key}
use Rattle.scoop_etcd.specs.declared.keys.Owner.{Owner}
use Rattle.scoop_etcd.specs.Incarnation.{Advances, incs_in}
use Rattle.scoop_etcd.specs.States.{Commits, handlers_in}
use Rattle.scoop_etcd.proofs.IncarnationLemmas.{put_inc}
use Rattle.scoop_etcd.proofs.StateLemmas.{put_states, put_states_incs, put_inc_states, put_token_states, put_token_incs}

-- contents with this under each key: what a store holds doesn't depend on the server's revision
abbrev pub with_keys : (Bytes → Option Kept) → Contents
with_keys under = contents 0 under

module _ {IsAlone : Type 0} (old new : Contents) (keys : StoreKeys) (known : List (ℕ × ℕ)) (states : List HandlerState)
    (commits : Commits IsAlone old new keys known states) (alone : IsAlone) where
  pub commit_states : Stays (Over states (handlers_in keys.name old)) (handlers_in keys.name new)
  commit_states =
      subst (λ u. Stays (Over states (handlers_in keys.name (with_keys u))) (handlers_in keys.name new)) (commits.own alone)
      (put_states keys.name commits.met new states commits.writable commits.puts)

  pub commit_incs : IsSame (incs_in keys.name old) (incs_in keys.name new)
  commit_incs =
      subst (λ u. IsSame (incs_in keys.name (with_keys u)) (incs_in keys.name new)) (commits.own alone)
      (put_states_incs keys.name commits.met new states commits.writable commits.puts)

module _ {IsAlone : Type 0} (old new : Contents) (keys : StoreKeys) (client inc : ℕ) (advances : Advances IsAlone old new keys client inc)
    (alone : IsAlone) where
  pub advance_sets : client < 2 ^ 32 → inc < 2 ^ 32 → Sets (incs_in keys.name old) (incs_in keys.name new) client inc
  advance_sets lt below =
      subst (λ u. Sets (incs_in keys.name (with_keys u)) (incs_in keys.name new) client inc) (advances.own alone)
      (put_inc keys.name advances.met new client inc lt below advances.puts)

  pub advance_states : Stays (handlers_in keys.name old) (handlers_in keys.name new)
  advance_states =
      subst (λ u. Stays (handlers_in keys.name (with_keys u)) (handlers_in keys.name new)) (advances.own alone)
      (put_inc_states keys.name advances.met new client _ advances.puts)

-- ---- pending states over stored ones

pub over_stays : (states : List HandlerState) (old new : ℕ → Stored → Type 0) → Stays old new → Stays (Over states old) (Over states new)
over_stays states old new stays = record { each = λ handler v. go (last_of handler states) handler v }
  where
    go : (o : Option HandlerState) (handler : ℕ) (v : Stored) → OverOne o (old handler v) v ↔ OverOne o (new handler v) v
    go None handler v = stays.each handler v
    go (Some s) handler v = ((λ e. e), (λ e. e))

pub keeps_after : (old mid new : ℕ → Stored → Type 0) (s : HandlerState) → Stays old mid → Keeps mid new s → Keeps old new s
keeps_after old mid new s stays keeps = record {
  there = keeps.there;
  others = λ other apart v. let first = stays.each other v in let second = keeps.others other apart v in
      ((λ h. second.0 (first.0 h)), (λ h. first.1 (second.1 h)));
}

pub gathers_few : (old new : List HandlerState) (s : HandlerState) → Gathers old new s → length old < 64 → length new ≤ 64
gathers_few old new s gathers few = go (find (is_of s.number) old) gathers
  where
    go : (o : Option HandlerState) → GathersAt o old new s → length new ≤ 64
    go None is = let long : length new ≡ length old + 1 = ap length is ∙ length-append old (s ∷ []) in omega (arith, long, few)
    go (Some x) is = let long : length new ≡ length old = ap length is ∙ length-map old _ in omega (arith, long, few)

-- ---- a token

module _ {IsAlone : Type 0} (name : Bytes) (owner : Owner) (token : Bytes) (keys : StoreKeys) (same : keys ≡ keys_under name owner token) (old new : Contents)
    (replaces : Replaces IsAlone old new keys) (alone : IsAlone) where
  puts : Puts replaces.met new ((owner_key name owner, encode_lower token) ∷ [])
  puts = subst (λ k. Puts replaces.met new ((k.owner, k.token) ∷ [])) same replaces.puts

  pub replaced_states : Stays (handlers_in name old) (handlers_in name new)
  replaced_states = subst (λ u. Stays (handlers_in name (with_keys u)) (handlers_in name new)) (replaces.own alone) (put_token_states name owner replaces.met new _ puts)

  pub replaced_incs : IsSame (incs_in name old) (incs_in name new)
  replaced_incs = subst (λ u. IsSame (incs_in name (with_keys u)) (incs_in name new)) (replaces.own alone) (put_token_incs name owner replaces.met new _ puts)
