-- The names of the classes are text.
use Rattle.std.proofs.Common.{◌≡◌, ℕ, Bool, true, false, List, None, codes, refl, sym, subst}
use lib.Utf8.{encode}
use Rattle.std.specs.Str.{IsUtf8}
use Rattle.std.proofs.lemmas.Slice.Eq.{bytes_eq-Decides}
use Rattle.scoop_classes.specs.Classes.{class_named, same_text}

differs : (word name : List ℕ) (same : Bool) → same_text word name ≡ same → IsUtf8 name → ¬ (IsUtf8 word) → same ≡ false
differs word name false is text bad = refl
differs word name true is text bad = absurd (bad (subst IsUtf8 (sym ((bytes_eq-Decides word name).0 is)) text))

other : (word name : List ℕ) → IsUtf8 name → ¬ (IsUtf8 word) → same_text word name ≡ false
other word name text bad = differs word name (same_text word name) refl text bad

-- a name that is no text names no class
pub no_class : (word : List ℕ) → ¬ (IsUtf8 word) → class_named word ≡ None
unfolding encode
no_class word bad =
    let cell = other word (codes "cell") (codes "cell", (refl, refl)) bad in
    let counter = other word (codes "counter") (codes "counter", (refl, refl)) bad in
    let account = other word (codes "account") (codes "account", (refl, refl)) bad in
    let exchange = other word (codes "exchange") (codes "exchange", (refl, refl)) bad in
    rw (cell, counter, account, exchange) refl
