-- The conditions of a line, read in sequence.
use Rattle.std.proofs.Common.{◌≡◌, ℕ, zero, suc, ◌+◌, ◌-◌, ◌<◌, ◌≤◌, List, [], ◌∷◌, ◌++◌, Option, Some, None, Ok, Err, refl, ap, arith}
use Rattle.scoop_lines.specs.Words.{Word}
use Rattle.scoop_lines.specs.Reading.{Read, ◌>>=◌}
use Rattle.scoop_lines.proofs.ReadingLemmas.{joined, joined_one}
use Rattle.scoop_system.specs.declared.condition.TheConstants.{MAX_CONDITIONS}
use Rattle.scoop_system.specs.declared.condition.NamedCondition.{NamedCondition}
use Rattle.scoop_system.specs.declared.line.fault.LineFault.{LineFault}
use Rattle.scoop_system.specs.declared.line.fault.LineFault.TheVariants.{TooManyConditions}
use Rattle.scoop_system.specs.System.{Plan}
use Rattle.scoop_system.specs.Line.{part_of, more_of, if_more, tries_in, tries_word, condition_of, conditions_of, onto}

pub some_left : (left : ℕ) → ¬ (left ≡ 0) → 1 ≤ left
some_left left some = omega (arith, some)

-- ---- the word after `tries`

-- the first condition, if one may stand there
pub tries_first : (left : ℕ) (words : List Word) → 1 ≤ left
    → tries_word left words ≡ (part_of words >>= λ p. if_more (more_of p.2) (tries_word (left - 1)) (tries_in p.2))
unfolding tries_word
tries_first zero words some = absurd (omega (arith, some))
tries_first (suc left) words some = let same : suc left - 1 ≡ left = omega arith in rw same refl

-- no condition may stand there
pub tries_none : (left : ℕ) (words : List Word) → left ≡ 0 → tries_word left words ≡ Err TooManyConditions
unfolding tries_word
tries_none left words none = rw none refl

-- ---- the conditions

-- the first condition, if one may stand there
first_of : (s : Plan) (left : ℕ) (words : List Word) → 1 ≤ left
    → conditions_of s left words
    ≡ (condition_of s words >>= λ c. if_more (more_of c.1) (λ more. onto c.0 (conditions_of s (left - 1) more)) (Ok (c.0 ∷ [])))
unfolding conditions_of
first_of s zero words some = absurd (omega (arith, some))
first_of s (suc left) words some = let same : suc left - 1 ≡ left = omega arith in rw same refl

-- the place after this one has one condition fewer
fewer : (place : ℕ) → place < MAX_CONDITIONS → (MAX_CONDITIONS - place) - 1 ≡ MAX_CONDITIONS - (place + 1)
fewer place within = omega (arith, within)

room : (place : ℕ) → place < MAX_CONDITIONS → 1 ≤ MAX_CONDITIONS - place
room place within = omega (arith, within)

-- a condition with more after it
pub condition_more : (s : Plan) (place : ℕ) (words : List Word) (front : List NamedCondition) (c : NamedCondition) (back more : List Word)
    → place < MAX_CONDITIONS → condition_of s words ≡ Ok (c, back) → more_of back ≡ Some more
    → joined front (conditions_of s (MAX_CONDITIONS - place) words) ≡ joined (front ++ c ∷ []) (conditions_of s (MAX_CONDITIONS - (place + 1)) more)
condition_more s place words front c back more within is next =
    rw (first_of s (MAX_CONDITIONS - place) words (room place within), is, next, fewer place within)
    (joined_one front c (conditions_of s (MAX_CONDITIONS - (place + 1)) more))

-- the last condition
pub condition_last : (s : Plan) (place : ℕ) (words : List Word) (front : List NamedCondition) (c : NamedCondition) (back : List Word)
    → place < MAX_CONDITIONS → condition_of s words ≡ Ok (c, back) → more_of back ≡ None
    → joined front (conditions_of s (MAX_CONDITIONS - place) words) ≡ Ok (front ++ c ∷ [])
condition_last s place words front c back within is end = rw (first_of s (MAX_CONDITIONS - place) words (room place within), is, end) refl

-- a condition can't be read
pub condition_fault : (s : Plan) (place : ℕ) (words : List Word) (front : List NamedCondition) (fault : LineFault) → place < MAX_CONDITIONS
    → condition_of s words ≡ Err fault → joined front (conditions_of s (MAX_CONDITIONS - place) words) ≡ Err fault
condition_fault s place words front fault within is = rw (first_of s (MAX_CONDITIONS - place) words (room place within), is) refl

-- no condition more may stand there
pub condition_none : (s : Plan) (place : ℕ) (words : List Word) (front : List NamedCondition) → place ≡ MAX_CONDITIONS
    → joined front (conditions_of s (MAX_CONDITIONS - place) words) ≡ Err TooManyConditions
unfolding conditions_of
condition_none s place words front all = rw all refl
