-- Reading in sequence.
use Rattle.std.proofs.Common.{◌≡◌, ℕ, suc, List, [], ◌∷◌, ◌++◌, length, Option, Some, None, Ok, Err, refl, sym, ap, append_assoc, append-nil}
use Rattle.scoop_lines.specs.Reading.{Read, ◌>>=◌, unless, each_of}

-- ---- the parts of what was read

pub bind_ok : {E A B P : Type 0} (r : Read E A) (f : A → Read E B) (y : B) → (r >>= f) ≡ Ok y → ((x : A) → r ≡ Ok x → f x ≡ Ok y → P) → P
bind_ok (Ok x) f y is go = go x refl is
bind_ok (Err fault) f y is go = cc

pub unless_ok : {E A P : Type 0} (w : Option E) (r : Read E A) (y : A) → unless w r ≡ Ok y → (w ≡ None → r ≡ Ok y → P) → P
unless_ok None r y is go = go refl is
unless_ok (Some fault) r y is go = cc

-- ---- items that are read alike

-- these, and what is read after them
abbrev pub joined : {E A : Type 0} → List A → Read E (List A) → Read E (List A)
joined front read = read >>= λ back. Ok (front ++ back)

pub joined_none : {E A : Type 0} (read : Read E (List A)) → read ≡ joined [] read
joined_none (Ok xs) = refl
joined_none (Err fault) = refl

pub joined_one : {E A : Type 0} (front : List A) (x : A) (rest : Read E (List A)) → joined front (rest >>= λ xs. Ok (x ∷ xs)) ≡ joined (front ++ x ∷ []) rest
joined_one front x (Ok xs) = ap Ok (sym (append_assoc front (x ∷ []) xs))
joined_one front x (Err fault) = refl

-- one item more is read
pub joined_more : {I E A : Type 0} (read : I → Read E A) (item : I) (items : List I) (front : List A) (x : A) → read item ≡ Ok x
    → joined front (each_of read (item ∷ items)) ≡ joined (front ++ x ∷ []) (each_of read items)
joined_more read item items front x is = rw is (joined_one front x (each_of read items))

-- an item can't be read
pub joined_fault : {I E A : Type 0} (read : I → Read E A) (item : I) (items : List I) (front : List A) (fault : E) → read item ≡ Err fault
    → joined front (each_of read (item ∷ items)) ≡ Err fault
joined_fault read item items front fault is = rw is refl

-- all items are read
pub joined_all : {E A : Type 0} (front : List A) → joined {E = E} front (Ok []) ≡ Ok front
joined_all front = ap Ok (append-nil front)

-- as many as there are items
all_read : {E A : Type 0} (r : Read E A) (rest : Read E (List A)) (xs : List A) (n : ℕ) → ((ys : List A) → rest ≡ Ok ys → length ys ≡ n)
    → (r >>= λ y. rest >>= λ ys. Ok (y ∷ ys)) ≡ Ok xs → length xs ≡ suc n
all_read (Ok x) (Ok ys) xs n counts is = let same : xs ≡ x ∷ ys = cc in rw same (ap suc (counts ys refl))
all_read (Ok x) (Err fault) xs n counts is = cc
all_read (Err fault) rest xs n counts is = cc

pub length-each_of : {I E A : Type 0} (read : I → Read E A) (items : List I) (xs : List A) → each_of read items ≡ Ok xs → length xs ≡ length items
length-each_of read [] xs is = let same : xs ≡ [] = cc in rw same refl
length-each_of read (item ∷ items) xs is = all_read (read item) (each_of read items) xs (length items) (length-each_of read items) is
