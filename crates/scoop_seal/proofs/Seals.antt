-- Sealed datagrams, and others.
use Rattle.std.proofs.Common.{◌≡◌, ℕ, ◌+◌, ◌<◌, List, length, take, drop, sym, ap, ◌∙◌, length-append, arith}
use Rattle.std.proofs.lemmas.List.{take_at, drop_at, length-take-le}
use Rattle.sha2.proofs.Facts256.{length-sha256}
use Rattle.scoop_seal.specs.Hmac.{hmac}
use Rattle.scoop_seal.specs.Tag.{tag, sealed, IsForged}

length-hmac : (key message : List ℕ) → length (hmac key message) ≡ 32
unfolding hmac
length-hmac key message = length-sha256 _

pub length-tag : (key bytes : List ℕ) → length (tag key bytes) ≡ 16
length-tag key bytes = length-take-le 16 (hmac key bytes) (omega (arith, length-hmac key bytes))

pub length-sealed : (key bytes : List ℕ) → length (sealed key bytes) ≡ length bytes + 16
length-sealed key bytes = omega (arith, length-append bytes (tag key bytes), length-tag key bytes)

-- a datagram shorter than a tag isn't sealed
pub short-forged : (key datagram : List ℕ) → length datagram < 16 → IsForged key datagram
short-forged key datagram short = record { not_sealed = λ (bytes, is). omega (arith, ap length is, length-sealed key bytes) }

-- a datagram that doesn't end in its tag isn't sealed
pub other-forged : (key datagram : List ℕ) (n : ℕ) → n + 16 ≡ length datagram → (tag key (take n datagram) ≡ drop n datagram → ⊥) → IsForged key datagram
other-forged key datagram n len other = record {
  not_sealed = λ (bytes, is).
      let same : length bytes ≡ n = omega (arith, ap length is, length-sealed key bytes) in
      let front : take n datagram ≡ bytes = ap (take n) is ∙ take_at bytes (tag key bytes) n same in
      let behind : drop n datagram ≡ tag key bytes = ap (drop n) is ∙ drop_at bytes (tag key bytes) n same in
      other (ap (tag key) front ∙ sym behind);
}
