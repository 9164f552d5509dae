-- Values that are read one after another.
use Rattle.std.proofs.Common.{◌≡◌, Option, Some, None, Ok, Err, refl}
use Rattle.scoop_lines.specs.Reading.{Read, ◌>>=◌, unless}

pub record Then {E A B : Type 0} (r : Read E A) (read : A → Read E B) (y : B) : Type 0 where
  pub value : A
  pub first : r ≡ Ok value
  pub rest : read value ≡ Ok y

pub read_then : {E A B : Type 0} (r : Read E A) (read : A → Read E B) (y : B) → (r >>= read) ≡ Ok y → Then r read y
read_then (Ok x) read y is = record { value = x; first = refl; rest = is }
read_then (Err w) read y is = absurd (cc)

pub unless_ok : {E A : Type 0} (o : Option E) (r : Read E A) (x : A) → unless o r ≡ Ok x → r ≡ Ok x
unless_ok None r x is = is
unless_ok (Some w) r x is = absurd (cc)

pub unless_none : {E A : Type 0} (o : Option E) (r : Read E A) (x : A) → unless o r ≡ Ok x → o ≡ None
unless_none None r x is = refl
unless_none (Some w) r x is = absurd (cc)

pub ok_same : {E A : Type 0} (r : Read E A) (x y : A) → r ≡ Ok x → r ≡ Ok y → x ≡ y
ok_same r x y one other = cc
