-- Lines that are read one after another.
use Rattle.std.proofs.Common.{◌≡◌, ◌<◌, ◌≤◌, ◌+◌, ℕ, List, [], ◌∷◌, ◌++◌, length, sym, ap, ◌∙◌, append_assoc, append-nil, arith}
use Rattle.std.proofs.lemmas.List.{length-append}
use Rattle.std.proofs.lemmas.Grind.{flat_map-append}
use Rattle.scoop_journal.specs.declared.line.Line.{Line}
use Rattle.scoop_journal.specs.Journal.{ended}
use Rattle.scoop_journal.specs.Line.{text_of}
use Rattle.scoop_audit.specs.Lines.{text_of_all}

-- the text of further lines
pub texts_more : (bytes rest : List ℕ) (xs ys : List Line) → bytes ≡ text_of_all xs ++ (text_of_all ys ++ rest) → bytes ≡ text_of_all (xs ++ ys) ++ rest
texts_more bytes rest xs ys is =
    is ∙ (sym (append_assoc (text_of_all xs) (text_of_all ys) rest) ∙ ap (λ ts. ts ++ rest) (sym (flat_map-append ended xs ys)))

pub one_text : (l : Line) → text_of_all (l ∷ []) ≡ ended l
one_text l = append-nil (ended l)

pub text_more : (bytes rest : List ℕ) (xs : List Line) (l : Line) → bytes ≡ text_of_all xs ++ (ended l ++ rest) → bytes ≡ text_of_all (xs ++ l ∷ []) ++ rest
text_more bytes rest xs l is = texts_more bytes rest xs (l ∷ []) (is ∙ ap (λ ts. text_of_all xs ++ (ts ++ rest)) (sym (one_text l)))

-- the next line, by its text
pub next_line : (bytes text rest : List ℕ) (l : Line) → bytes ≡ text ++ 10 ∷ rest → text ≡ text_of l → bytes ≡ ended l ++ rest
next_line bytes text rest l is at = is ∙ (ap (λ t. t ++ 10 ∷ rest) at ∙ sym (append_assoc (text_of l) (10 ∷ []) rest))

-- a line leaves fewer bytes
pub text_left : (bytes text rest : List ℕ) (byte : ℕ) → bytes ≡ text ++ byte ∷ rest → length rest < length bytes
text_left bytes text rest byte is =
    let count : length bytes ≡ length text + length (byte ∷ rest) = ap length is ∙ length-append text (byte ∷ rest) in
    omega (arith, count)

pub texts_left : (bytes rest : List ℕ) (xs : List Line) → bytes ≡ text_of_all xs ++ rest → length rest ≤ length bytes
texts_left bytes rest xs is =
    let count : length bytes ≡ length (text_of_all xs) + length rest = ap length is ∙ length-append (text_of_all xs) rest in
    omega (arith, count)
