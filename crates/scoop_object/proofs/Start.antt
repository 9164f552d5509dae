-- An array of blanks into whose start a list is copied.
use Rattle.std.proofs.Common.{◌≡◌, ◌∙◌, ◌≤◌, ℕ, List, ◌++◌, length, drop, replicate, arith, length-append, length-drop}
use Rattle.std.proofs.Math.Seq.{drop-append_seam}
use Rattle.std.proofs.lemmas.List.{length-replicate, drop-replicate}
use Rattle.scoop_message.specs.Padded.{IsPadded}

pub padded_start : {A : Type 0} (blank : A) (room : ℕ) (items front : List A) → front ≡ items → length items ≤ room
    → IsPadded blank room (length items) (front ++ drop (length items) (replicate room blank))
padded_start blank room items front copied fits =
    let rest = drop (length items) (replicate room blank) in
    record {
      fits = fits;
      size = rw (copied, length-append items rest, length-drop (length items) (replicate room blank), length-replicate room blank) (omega arith);
      others = rw copied (drop-append_seam items rest ∙ drop-replicate (length items) room blank);
    }
