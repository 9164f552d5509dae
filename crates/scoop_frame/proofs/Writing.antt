-- Writes to a buffer, one after the other.
use Rattle.std.proofs.Common.{◌≡◌, ℕ, ◌+◌, ◌-◌, ◌<◌, ◌≤◌, List, [], ◌∷◌, ◌++◌, length, take, drop, set, sym, ap, ◌∙◌, append_assoc, arith, add-one}
use Rattle.std.proofs.lemmas.List.{length-take-le, length-append, length-drop, take_at, drop_at, drop-drop, take_rest, drop_all, append-nil, set_split}
use Rattle.std.proofs.lemmas.List.{take-append-drop}
use borrow.Rule.Slice.PartMut.{put_mid}
use Rattle.scoop_frame.specs.Buffer.{written, overwritten}

-- a write to all that follows a place
pub part_written : (at : ℕ) (bytes old part : List ℕ) → at ≤ length old → part ≡ bytes ++ drop (length bytes) (take (length old - at) (drop at old))
    → put_mid at (length old - at) old part ≡ overwritten at bytes old
part_written at bytes old part le e =
    let rest : drop (length old - at) (drop at old) ≡ [] = drop_all (length old - at) (drop at old) (omega (arith, length-drop at old)) in
    let is : part ≡ bytes ++ drop (at + length bytes) old = e ∙ ap (λ (xs : List ℕ). bytes ++ drop (length bytes) xs) (take_rest old at)
    ∙ ap (λ (xs : List ℕ). bytes ++ xs) (drop-drop (length bytes) at old) in
    ap (λ (xs : List ℕ). take at old ++ (part ++ xs)) rest ∙ ap (λ (xs : List ℕ). take at old ++ xs) (append-nil part ∙ is)

-- a write of one byte
pub byte_written : (at byte : ℕ) (old : List ℕ) → at < length old → set old at byte ≡ overwritten at (byte ∷ []) old
byte_written at byte old lt = set_split old at byte lt ∙ ap (λ (n : ℕ). take at old ++ byte ∷ drop n old) (sym (add-one at))

-- a write after a write
pub overwritten_twice : (at place : ℕ) (done bytes old new : List ℕ) → at ≤ length old → place ≡ at + length done
    → new ≡ overwritten place bytes (overwritten at done old) → new ≡ overwritten at (done ++ bytes) old
overwritten_twice at place done bytes old new le here e =
    let front = take at old ++ done in
    let rest = drop (at + length done) old in
    let split : overwritten at done old ≡ front ++ rest = sym (append_assoc (take at old) done rest) in
    let len : length front ≡ place = omega (arith, length-append (take at old) done, length-take-le at old le) in
    let kept : take place (overwritten at done old) ≡ front = ap (take place) split ∙ take_at front rest place len in
    let past : drop place (overwritten at done old) ≡ rest = ap (drop place) split ∙ drop_at front rest place len in
    let n-is : (at + length done) + length bytes ≡ at + length (done ++ bytes) = omega (arith, length-append done bytes) in
    let behind : drop (place + length bytes) (overwritten at done old) ≡ drop (at + length (done ++ bytes)) old =
    sym (drop-drop (length bytes) place (overwritten at done old)) ∙ ap (drop (length bytes)) past ∙ drop-drop (length bytes) (at + length done) old
    ∙ ap (λ (n : ℕ). drop n old) n-is in
    e ∙ ap (λ (xs : List ℕ). xs ++ (bytes ++ drop (place + length bytes) (overwritten at done old))) kept ∙ ap (λ (xs : List ℕ). front ++ (bytes ++ xs)) behind
    ∙ append_assoc (take at old) done (bytes ++ drop (at + length (done ++ bytes)) old)
    ∙ ap (λ (xs : List ℕ). take at old ++ xs) (sym (append_assoc done bytes (drop (at + length (done ++ bytes)) old)))

-- a write of nothing
pub nothing_written : (at : ℕ) (old : List ℕ) → old ≡ overwritten at [] old
nothing_written at old = sym (take-append-drop at old) ∙ ap (λ (n : ℕ). take at old ++ drop n old) (let e : at ≡ at + 0 = omega arith in e)

-- a header before a body
pub body_behind : (head body old mid new : List ℕ) → length head ≡ 26 → 26 ≤ length old → mid ≡ overwritten 26 body old → new ≡ overwritten 0 head mid
    → new ≡ written (head ++ body) old
body_behind head body old mid new len long mid-is new-is =
    let rest = drop (26 + length body) old in
    let behind : drop (0 + length head) mid ≡ body ++ rest = ap (λ (n : ℕ). drop n mid) (let e : 0 + length head ≡ 26 = omega arith in e) ∙ ap (drop 26) mid-is
    ∙ drop_at (take 26 old) (body ++ rest) 26 (length-take-le 26 old long) in
    let n-is : 26 + length body ≡ length (head ++ body) = omega (arith, length-append head body) in
    new-is ∙ ap (λ (xs : List ℕ). head ++ xs) behind ∙ sym (append_assoc head body rest) ∙ ap (λ (n : ℕ). (head ++ body) ++ drop n old) n-is
