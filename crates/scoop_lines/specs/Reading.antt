-- Reading in sequence, with a fault of any type.
use Rattle.std.specs.Prelude.{List, [], ◌∷◌, Option, Some, None, Result, Ok, Err}

-- the value that was read, or its fault
abbrev pub Read : Type 0 → Type 0 → Type 0
Read E A = Result A E

-- read one value after another, up to the first fault
infixl 10 ◌>>=◌
abbrev pub ◌>>=◌ : {E A B : Type 0} → Read E A → (A → Read E B) → Read E B
(Ok x) >>= read = read x
(Err fault) >>= read = Err fault

-- a fault, if there is one, comes before the reading
abbrev pub unless : {E A : Type 0} → Option E → Read E A → Read E A
unless None read = read
unless (Some fault) read = Err fault

-- read all items alike, from the left
abbrev pub each_of : {I E A : Type 0} → (I → Read E A) → List I → Read E (List A)
each_of read [] = Ok []
each_of read (item ∷ items) = read item >>= λ x. each_of read items >>= λ xs. Ok (x ∷ xs)
