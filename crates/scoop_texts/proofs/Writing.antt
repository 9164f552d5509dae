-- The lines of answers, one behind another.
use Rattle.std.proofs.Common.{◌≡◌, ℕ, ◌+◌, ◌<◌, ◌≤◌, List, [], ◌++◌, length, drop, get_or, Option, Some, None, ◌∙◌, refl, ap, sym, subst, append_assoc}
use Rattle.std.proofs.lemmas.List.{append-nil, drop_all, drop_more}
use Rattle.std.specs.Io.KnownBytes.{Appends}
use Rattle.scoop_message.specs.declared.request.Answer.{Answer}
use Rattle.scoop_links.proofs.Writing.{appends_more}
use Rattle.scoop_texts.specs.declared.reply.Reply.TheVariants.{Answered}
use Rattle.scoop_texts.specs.Texts.{answers_text, reply_text}

appends_nothing : (o : Option (List ℕ)) → Appends o o []
appends_nothing None = tt
appends_nothing (Some ws) = sym (append-nil ws)

-- the lines of the first answers were written
abbrev pub Written : ℕ → List Answer → Option (List ℕ) → Option (List ℕ) → Type 0
Written i answers o p = (text : List ℕ) × Appends o p text × (answers_text answers ≡ text ++ answers_text (drop i answers))

pub written_none : (answers : List Answer) (o : Option (List ℕ)) → Written 0 answers o o
written_none answers o = ([], appends_nothing o, refl)

pub written_more : (i : ℕ) (answers : List Answer) (d : Answer) (o p q : Option (List ℕ)) → i < length answers → Written i answers o p
    → Appends p q (reply_text (Answered (get_or answers i d))) → Written (i + 1) answers o q
written_more i answers d o p q below (text, so_far, all) next =
    let x = get_or answers i d in
    let left = answers_text (drop (i + 1) answers) in
    let more : answers_text (drop i answers) ≡ reply_text (Answered x) ++ left = ap answers_text (drop_more answers i d below) in (
      text ++ reply_text (Answered x),
      appends_more o p q text (reply_text (Answered x)) so_far next,
      all ∙ (ap (λ zs. text ++ zs) more ∙ sym (append_assoc text (reply_text (Answered x)) left)),
    )

pub written_all : (i : ℕ) (answers : List Answer) (o p : Option (List ℕ)) → length answers ≤ i → Written i answers o p → Appends o p (answers_text answers)
written_all i answers o p over (text, so_far, all) =
    subst (Appends o p) (sym (all ∙ (ap (λ xs. text ++ answers_text xs) (drop_all i answers over) ∙ append-nil text))) so_far
