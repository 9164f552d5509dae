-- A world that opens is safe.
use Rattle.scoop_model.proofs.Names.{List, [], refl, NoRepeats, all_made, RightAnswers, AcceptsRight, IsSubsequence, Safe, nothing, Tape, WholeBeforeNext}
use Rattle.scoop_model.proofs.Names.{Placement, Newcomer, new_site, new_party, opening, World}

pub no_repeats : {A : Type 0} → NoRepeats {A = A} []
no_repeats i j x e f = absurd (cc)

pub opens_safe : (placements : List Placement) (newcomers : List Newcomer) → Safe (opening placements newcomers)
opens_safe ps ns =
    let w : World = opening ps ns in
    record {
      in_order = record { once = no_repeats; common = all_made new_site (λ s. IsSubsequence s.opened []) (λ p. nothing) ps };
      tapes = all_made new_site (Tape w) (λ p. record { in_turn = refl; beginnings = tt }) ps;
      whole = all_made new_site (WholeBeforeNext w) (λ p front between back b later e some. absurd (some refl)) ps;
      answers = all_made new_site RightAnswers (λ p k r e. absurd (cc)) ps;
      accepted = all_made new_party (AcceptsRight w) (λ n. record { answered = tt; once = no_repeats }) ns;
    }
