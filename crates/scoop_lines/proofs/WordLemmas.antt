-- The first word of a line.
use Rattle.std.proofs.Common.{◌≡◌, ℕ, suc, ◌+◌, ◌<◌, ◌≤◌, Bool, true, false, not, ◌==◌, nat_lt, List, [], ◌∷◌, length, take, drop, filter, Some, None, refl}
use Rattle.std.proofs.Common.{sym, ◌∙◌, ap, arith, cond}
use Rattle.std.specs.Prelude.{position}
use Rattle.std.specs.List.{slice_split, position_or_len}
use Rattle.std.proofs.lemmas.Bool.Decides.{nat_tests}
use Rattle.std.proofs.lemmas.List.Sums.{prefix_len-le-length}
use Rattle.scoop_lines.specs.Words.{words_of, is_word, begins_with_space}

-- ---- the first place where a test passes, or the length

somewhere : (here : Bool) (n i : ℕ) → cond here (Some n) None ≡ Some i → i ≡ n
somewhere true n i is = cc
somewhere false n i is = cc

nowhere : (here : Bool) (n len : ℕ) → here ≡ nat_lt n len → n ≤ len → cond here (Some n) None ≡ None → len ≡ n
nowhere true n len test most is = cc
nowhere false n len test most is = grind (arith, nat_tests)

pub position_somewhere : (p : ℕ → Bool) (xs : List ℕ) (i : ℕ) → position p xs ≡ Some i → i ≡ position_or_len p xs
position_somewhere p xs i is = somewhere (nat_lt (position_or_len p xs) (length xs)) (position_or_len p xs) i is

pub position_nowhere : (p : ℕ → Bool) (xs : List ℕ) → position p xs ≡ None → length xs ≡ position_or_len p xs
position_nowhere p xs is =
    nowhere (nat_lt (position_or_len p xs) (length xs)) (position_or_len p xs) (length xs) refl (prefix_len-le-length (λ x. not (p x)) xs) is

-- ---- the first word

take_more : (n x : ℕ) (xs : List ℕ) → take (1 + n) (x ∷ xs) ≡ x ∷ take n xs
take_more n x xs = let more : 1 + n ≡ suc n = omega arith in rw more refl

drop_more : (n x : ℕ) (xs : List ℕ) → drop (1 + n) (x ∷ xs) ≡ drop n xs
drop_more n x xs = let more : 1 + n ≡ suc n = omega arith in rw more refl

-- the first part of a line, and the words of the others
record FirstPart (line : List ℕ) (len : ℕ) : Type 0 where
  others : List (List ℕ)
  parts : slice_split (λ byte. byte == 32) line ≡ take len line ∷ others
  words : filter is_word others ≡ words_of (drop len line)

first_part_of : (x : ℕ) (xs : List ℕ) (space : Bool) (len : ℕ) → (x == 32) ≡ space → FirstPart xs len → FirstPart (x ∷ xs) (cond (not space) (1 + len) 0)
first_part_of x xs true len is rest = record { others = slice_split (λ byte. byte == 32) xs; parts = rw is refl; words = rw is refl }
first_part_of x xs false len is rest = record {
  others = rest.others;
  parts = rw (is, rest.parts, take_more) refl;
  words = rest.words ∙ ap words_of (sym (drop_more len x xs));
}

first_part : (line : List ℕ) → FirstPart line (position_or_len (λ byte. byte == 32) line)
first_part [] = record { others = []; parts = refl; words = refl }
first_part (x ∷ xs) = first_part_of x xs (x == 32) (position_or_len (λ byte. byte == 32) xs) refl (first_part xs)

first_word : (x : ℕ) (xs : List ℕ) (space : Bool) (len : ℕ) → space ≡ false → FirstPart (x ∷ xs) (cond (not space) (1 + len) 0)
    → words_of (x ∷ xs) ≡ take (cond (not space) (1 + len) 0) (x ∷ xs) ∷ words_of (drop (cond (not space) (1 + len) 0) (x ∷ xs))
first_word x xs true len is first = cc
first_word x xs false len is first =
    let front = take_more len x xs in
    let parts : slice_split (λ byte. byte == 32) (x ∷ xs) ≡ (x ∷ take len xs) ∷ first.others = first.parts ∙ ap (λ w. w ∷ first.others) front in
    ap (filter is_word) parts ∙ ap (λ ws. (x ∷ take len xs) ∷ ws) first.words
    ∙ ap (λ w. w ∷ words_of (drop (1 + len) (x ∷ xs))) (sym front)

-- a line that begins with a word
pub words_of-first : (line : List ℕ) → begins_with_space line ≡ false → 0 < length line
    → words_of line ≡ take (position_or_len (λ byte. byte == 32) line) line ∷ words_of (drop (position_or_len (λ byte. byte == 32) line) line)
words_of-first [] b l = absurd (omega arith)
words_of-first (x ∷ xs) b l = first_word x xs (x == 32) (position_or_len (λ byte. byte == 32) xs) b (first_part (x ∷ xs))

-- that word is within the line
pub word_len-le : (line : List ℕ) → position_or_len (λ byte. byte == 32) line ≤ length line
word_len-le line = prefix_len-le-length (λ byte. not (byte == 32)) line

pub some_bytes : {b : Bool} (line : List ℕ) → b ≡ (length line == 0) → b ≡ false → 0 < length line
some_bytes line is some = grind (arith, nat_tests)
