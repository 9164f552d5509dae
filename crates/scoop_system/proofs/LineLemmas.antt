-- Words read alike, in sequence, up to one of a name.
use Rattle.std.proofs.Common.{◌≡◌, ℕ, true, false, List, [], ◌∷◌, ◌++◌, Ok, Err, refl, ap, append-nil}
use Rattle.scoop_lines.specs.Words.{Word}
use Rattle.scoop_lines.specs.Reading.{Read, each_of}
use Rattle.scoop_lines.proofs.ReadingLemmas.{joined, joined_more, joined_fault}
use Rattle.scoop_system.specs.declared.line.fault.LineFault.{LineFault}
use Rattle.scoop_system.specs.declared.line.words.Border.{Border}
use Rattle.scoop_system.specs.Words.{before, is_border}

-- one word more is read
pub before_read : {A : Type 0} (read : Word → Read LineFault A) (border : Border) (word : Word) (words : List Word) (front : List A) (x : A)
    → is_border border word ≡ false → read word ≡ Ok x
    → joined front (each_of read (before border (word ∷ words))) ≡ joined (front ++ x ∷ []) (each_of read (before border words))
before_read read border word words front x other is = rw other (joined_more read word (before border words) front x is)

-- a word can't be read
pub before_fault : {A : Type 0} (read : Word → Read LineFault A) (border : Border) (word : Word) (words : List Word) (front : List A) (fault : LineFault)
    → is_border border word ≡ false → read word ≡ Err fault → joined front (each_of read (before border (word ∷ words))) ≡ Err fault
before_fault read border word words front fault other is = rw other (joined_fault read word (before border words) front fault is)

-- the word that ends the others
pub before_end : {A : Type 0} (read : Word → Read LineFault A) (border : Border) (word : Word) (words : List Word) (front : List A)
    → is_border border word ≡ true → joined front (each_of read (before border (word ∷ words))) ≡ Ok front
before_end read border word words front same = rw same (ap Ok (append-nil front))

-- the number of words before the name, if the first isn't it
pub before_more : (border : Border) (word : Word) (words : List Word) → is_border border word ≡ false
    → before border (word ∷ words) ≡ word ∷ before border words
before_more border word words other = rw other refl
