-- The words and the answers of an object, entry after entry.
use Rattle.scoop_model.proofs.Names.{◌≡◌, ℕ, List, [], ◌∷◌, ◌++◌, Some, refl, subst, zero, suc, take, slice_get, ⊤, ClassTable, play, entry_effect, Ran}
use Rattle.scoop_model.proofs.Names.{entries_of}

-- each answer is the object's, which begins with these words
abbrev pub AnswersFrom : ClassTable → List ℕ → List Ran → Type 0
AnswersFrom class words [] = ⊤
AnswersFrom class words (r ∷ rs) = (r.answer ≡ (entry_effect class words r.entry).1) × AnswersFrom class (entry_effect class words r.entry).0 rs

pub play_pushed : (class : ClassTable) (words : List ℕ) (rs : List Ran) (r : Ran)
    → play class words (entries_of (rs ++ r ∷ [])) ≡ (entry_effect class (play class words (entries_of rs)) r.entry).0
play_pushed class words [] r = refl
play_pushed class words (x ∷ rs) r = play_pushed class (entry_effect class words x.entry).0 rs r

pub answers_pushed : (class : ClassTable) (words : List ℕ) (rs : List Ran) (r : Ran) → AnswersFrom class words rs
    → r.answer ≡ (entry_effect class (play class words (entries_of rs)) r.entry).1
    → AnswersFrom class words (rs ++ r ∷ [])
answers_pushed class words [] r all own = (own, tt)
answers_pushed class words (x ∷ rs) r all own = (all.0, answers_pushed class (entry_effect class words x.entry).0 rs r all.1 own)

-- an answer is the object's after the entries before it
pub answers_at : (class : ClassTable) (words : List ℕ) (rs : List Ran) → AnswersFrom class words rs → (k : ℕ) (r : Ran) → slice_get rs k ≡ Some r
    → r.answer ≡ (entry_effect class (play class words (entries_of (take k rs))) r.entry).1
answers_at class words [] all k r e = absurd (cc)
answers_at class words (x ∷ rs) all zero r e = let one : x ≡ r = cc in subst (λ (y : Ran). y.answer ≡ (entry_effect class words y.entry).1) one all.0
answers_at class words (x ∷ rs) all (suc k) r e = answers_at class (entry_effect class words x.entry).0 rs all.1 k r e
