-- The state that a refused call leaves.
use Rattle.std.proofs.Common.{◌≡◌, Bool, true, false, Result, Ok, Err, OnOk, OnErr, IfErr, true≢false, sym}
use Rattle.std.specs.Bool.{OnTrue, OnFalse}

pub kept-or : {T E : Type 0} (r : Result T E) {Fits Changed Same Goal : Type 0} → OnOk r Fits → OnOk r Changed → OnErr r Same → (Fits → Changed → Goal)
    → (Same → Goal) → Goal
kept-or (Ok x) fits changed same by_ok by_err = by_ok fits changed
kept-or (Err e) fits changed same by_ok by_err = by_err same

pub on-ok : {T E : Type 0} (r : Result T E) {P Q : Type 0} → (P → Q) → OnOk r P → OnOk r Q
on-ok (Ok x) f p = f p
on-ok (Err e) f p = p

pub on-err : {T E : Type 0} (r : Result T E) {P Q : Type 0} → (P → Q) → OnErr r P → OnErr r Q
on-err (Ok x) f p = p
on-err (Err e) f p = f p

pub if-err : {T E : Type 0} (r : Result T E) {P Q : E → Type 0} → ((e : E) → P e → Q e) → IfErr r P → IfErr r Q
if-err (Ok x) f p = p
if-err (Err e) f p = f e p

pub on-true : {P : Type 0} (b : Bool) → b ≡ true → OnTrue b P → P
on-true true is p = p
on-true false is p = absurd (true≢false (sym is))

pub on-false : {P : Type 0} (b : Bool) → b ≡ false → OnFalse b P → P
on-false true is p = absurd (true≢false is)
on-false false is p = p
