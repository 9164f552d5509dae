-- The part of a datagram that a link keeps.
use Rattle.std.proofs.Common.{◌≡◌, ℕ, List, ◌++◌, length, take, min, ◌≤◌, ap, ◌∙◌, arith}
use Rattle.std.proofs.lemmas.List.{take_at, take_min, take_all, length-take}
use Rattle.scoop_message.specs.declared.limits.TheConstants.{BUFFER_LEN}
use Rattle.scoop_link.specs.Datagram.{kept}

-- a buffer that begins with the first n bytes has them at its front
pub take-copied : (bytes front rest : List ℕ) (n : ℕ) → n ≡ min (length bytes) BUFFER_LEN → front ≡ take n bytes → take n (front ++ rest) ≡ kept bytes
take-copied bytes front rest n is copied =
    let len : length front ≡ n = omega (arith, ap length copied, length-take n bytes) in
    let turned : n ≡ min BUFFER_LEN (length bytes) = omega arith in
    take_at front rest n len ∙ (copied ∙ (ap (λ k. take k bytes) turned ∙ take_min BUFFER_LEN bytes))

-- a datagram that fits, as a frame does, is kept whole
pub kept-short : (bytes : List ℕ) → length bytes ≤ BUFFER_LEN → kept bytes ≡ bytes
kept-short bytes fits = take_all BUFFER_LEN bytes fits
