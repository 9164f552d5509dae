-- The values of an answer, in memory and in the definitions.
use Rattle.std.proofs.Common.{◌≡◌, List, [], ◌∷◌, map, Some, Ok, refl, ap}
use Rattle.serde_json.specs.Data.{Data}
use Rattle.serde_json.specs.Find.{as_array}
use Rattle.serde_json.specs.View.{view, items_view}
use Rattle.serde_json.specs.declared.value.Value.{Value}
use Rattle.scoop_etcd_calls.specs.Answer.{entry, list_of, values_at}
use Rattle.scoop_etcd_calls.specs.declared.fault.Field.TheVariants.{Pairs}

-- the values of an array
pub list_of_view : (vs : List Value) → list_of (items_view vs) ≡ map view vs
list_of_view [] = refl
list_of_view (v ∷ vs) = ap (λ ds. view v ∷ ds) (list_of_view vs)

pub values_listed : (d list : Data) (vs : List Value) → entry Pairs d ≡ Some list → as_array list ≡ Some (items_view vs)
    → values_at d ≡ Ok (map view vs)
values_listed d list vs found array = rw (found, array, list_of_view vs) refl
