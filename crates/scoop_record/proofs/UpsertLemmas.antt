-- The source and the update of INSERT .. ON CONFLICT DO UPDATE on a table with an integer key, and what the effects of all
-- statements use.
use Rattle.std.proofs.Common.{◌≡◌, ◌⊎◌, ℕ, [], ◌∷◌, Bool, true, false, cond}
use Rattle.std.proofs.Common.{Some, Result, Ok, Err, refl, inl, inr, ℤ}
use Rattle.sqlite_value.specs.declared.value.Value.{Value}
use Rattle.sqlite_value.specs.declared.value.Value.TheVariants.{Null, Int}
use Rattle.sqlite_sql.specs.Ops.{unary}
use Rattle.sqlite_sql.specs.Term.{lit, col}
use Rattle.sqlite_schema.specs.declared.command.Upsert.{Upsert}
use Rattle.sqlite_schema.specs.declared.command.Source.{Source}
use Rattle.sqlite_schema.specs.declared.command.Source.TheVariants.{Values}
use Rattle.sqlite_schema.specs.declared.schema.Kind.TheVariants.{Integer}
use Rattle.sqlite_rules.specs.Cast.{cast}
use Rattle.scoop_record.proofs.TableLemmas.{query_of, key_is}

abbrev pub given_row : Source
given_row = Values (col 0 0 ∷ lit Null ∷ col 0 1 ∷ []) 3

-- `ON CONFLICT (key) DO UPDATE SET value = excluded.value`
abbrev pub overwrites : ℕ → Upsert
overwrites tree = record {
  target = Some (0 ∷ []);
  update = Some
      (record { lets = []; body = query_of tree (key_is 2) (col 1 0 ∷ col 1 0 ∷ lit Null ∷ col 0 5 ∷ []) });
}

either : (b : Bool) (x : Value) → cond b x x ≡ x
either true x = refl
either false x = refl

pub cast_int : (n : ℤ) → cast Integer (Int n) ≡ Int n
unfolding unary
cast_int n = either _ (Int n)

-- a part that gave a value did not stop on the way
pub went : {B E R : Type 0} {b : B} {Stops : E → Type 0} → ((stop : E) × Stops stop × (Ok b ≡ Err stop)) ⊎ R → R
went (inl stopped) = absurd (let e = stopped.2 in cc)
went (inr on) = on

pub same_value : {B E : Type 0} {a b : B} → ◌≡◌ {A = Result B E} (Ok a) (Ok b) → a ≡ b
same_value e = cc
