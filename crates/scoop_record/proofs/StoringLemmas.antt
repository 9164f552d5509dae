-- States that are stored one after the other, in one transaction.
use Rattle.std.proofs.Common.{List, [], ◌∷◌, ◌++◌, refl, sym, subst, inl, arith, true, IsTrue}
use Rattle.sqlite.specs.State.{State, HasCleanDisk, KeepsCommit, Shows, Survives}
use Rattle.sqlite.proofs.StateLemmas.{survives_then}
use Rattle.scoop_handler.specs.State.{HandlerState, IsState}
use Rattle.scoop_record.specs.Range.{InRange}
use Rattle.scoop_record.specs.Store.{IsSound, IsRecord, IsInsideAfter, Saves, SavesAll}
use Rattle.scoop_record.specs.Among.{HasRecordTables}
use Rattle.scoop_record.proofs.MigrateLemmas.{saves_push}
use Rattle.scoop_record.proofs.among.MigratedRows.{schema_stays}
use Rattle.scoop_record.proofs.StatementLemmas.{clean_before, keeps_then}

-- the connection after these states were stored
pub record HasStored (old new : State) (all : List HandlerState) : Type 0 where
  pub kept : HasCleanDisk new → KeepsCommit old new
  pub survives : Survives old new (λ _. ⊥)
  pub saved : IsSound new → SavesAll old.now new.now all
  pub inside : HasCleanDisk new → IsInsideAfter all new

pub none_stored : (s : State) → HasStored s s []
none_stored s = record {
  kept = λ clean. record { was_open = λ live. live; committed = λ live. refl };
  survives = record {
    clean = omega arith;
    shield = λ shielded. shielded;
    counts = omega arith;
    limit = refl;
    closes = λ clean live. inl live;
    crash =
        λ clean db may. inl may;
  };
  saved = λ sound. refl;
  inside = λ clean. tt;
}

sound_before : (old new : State) → (HasCleanDisk new → KeepsCommit old new) → Survives old new (λ _. ⊥) → IsSound new → IsSound old
sound_before old new kept survives sound = (clean_before old new _ survives sound.0, (kept sound.0).was_open sound.1)

pub still_record : (old new : State) (all : List HandlerState) → HasStored old new all → (IsSound old → IsRecord old.now) → IsSound new → IsRecord new.now
still_record old new all h was sound =
    subst HasRecordTables (sym (schema_stays old.now new.now all (h.saved sound))) (was (sound_before old new h.kept h.survives sound))

inside_after : (s : State) (all : List HandlerState) (it : HandlerState) → IsTrue s.is_open × IsTrue s.in_transaction → IsInsideAfter (all ++ it ∷ []) s
inside_after s [] it h = h
inside_after s (x ∷ all) it h = h

-- a call after them that commits nothing
module _ (old mid new : State) (all : List HandlerState) (h : HasStored old mid all) (kept : HasCleanDisk new → KeepsCommit mid new)
    (survives : Survives mid new (λ _. ⊥)) where
  pub then_kept : HasCleanDisk new → KeepsCommit old new
  then_kept clean = keeps_then old mid new (h.kept (clean_before mid new _ survives clean)) (kept clean)

  pub then_survives : Survives old new (λ _. ⊥)
  then_survives = survives_then old mid new _ _ _ (λ clean db none. absurd none) (λ clean db none. absurd none) h.survives survives

  pub stored_more : (it : HandlerState)
      → (HasCleanDisk new → IsState it × InRange it × Saves mid.now new.now it × Shows mid new new.now mid.committed true)
      → HasStored old new (all ++ it ∷ [])
  stored_more it put = record {
    kept = then_kept;
    survives = then_survives;
    saved = λ sound.
        let own = put sound.0 in
        saves_push old.now mid.now new.now all it (h.saved (sound_before mid new kept survives sound)) own.0 own.1 own.2;
    inside = λ clean. let shown = (put clean).3 in inside_after new all it (shown.is_open, shown.mode);
  }
