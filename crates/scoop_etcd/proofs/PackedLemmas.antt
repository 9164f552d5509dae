-- Values that are split into an image and pending entries.
use Rattle.std.proofs.Common.{◌≡◌, ℕ, ◌+◌, ◌-◌, ◌^◌, ◌<◌, ◌≤◌, List, ◌++◌, length, take, drop, sym, ap, ◌∙◌, arith}
use Rattle.std.specs.Int.{w64, to_be_bytes}
use Rattle.std.proofs.lemmas.List.{length-drop, length-take-le, take-append-drop, drop-append-le, drop-take}
use Rattle.std.proofs.Math.Seq.{take-length}
use Rattle.byteorder.specs.Endian.{big_from}
use Rattle.scoop_frame.proofs.Bytes.{IsBytes, front, front-drop, front_8}
use Rattle.scoop_etcd.specs.Packed.{IsPacked}

-- a value whose first eight bytes give a length that it has room for
pub split_is : (v : List ℕ) (n : ℕ) → IsBytes v → 8 + n ≤ length v → n ≡ big_from 0 8 v → n < 2 ^ 64 → IsPacked v (drop 8 (take (8 + n) v)) (drop (8 + n) v)
split_is v n bytes room is fits =
    let all = take (8 + n) v in
    let taken : length all ≡ 8 + n = length-take-le (8 + n) v room in
    let long : length (drop 8 all) ≡ n = length-drop 8 all ∙ omega (arith, taken) in
    let begins : front 0 8 v ++ drop 8 v ≡ v = front-drop 0 8 v (omega (arith, room)) in
    let parted : drop 8 v ≡ drop 8 all ++ drop (8 + n) v =
    ap (drop 8) (sym (take-append-drop (8 + n) v)) ∙ drop-append-le 8 all (drop (8 + n) v) (omega (arith, taken)) in
    record {
      fits = omega (arith, long, fits);
      is = sym begins ∙ (λ i. front_8 0 n v bytes is i ++ parted i) ∙ ap (λ k. to_be_bytes w64 k ++ (drop 8 all ++ drop (8 + n) v)) (sym long);
    }

-- the image and the entries as they are read
pub parts_read : (v : List ℕ) (at : ℕ) → 8 ≤ at → (drop 8 (take at v) ≡ take (at - 8) (drop 8 v)) × (drop at v ≡ take (length v - at) (drop at v))
parts_read v at le =
    let long : at ≡ 8 + (at - 8) = omega (arith, le) in (
      ap (λ n. drop 8 (take n v)) long ∙ drop-take 8 (at - 8) v,
      sym (sym (ap (λ n. take n (drop at v)) (length-drop at v)) ∙ take-length (drop at v)),
    )
