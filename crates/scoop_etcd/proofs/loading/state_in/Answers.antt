use Rattle.std.proofs.Common.{◌≡◌, ◌-◌, length, take, drop, Result, Err, IfErr, subst, refl}
use Rattle.scoop_etcd.specs.Packed.{IsPacked}
use Rattle.scoop_etcd.proofs.PackedLemmas.{parts_read}
use Rattle.scoop_etcd.proofs.StateLemmas.{its_parts}
use Rattle.scoop_etcd.proofs.loading.state_in.Goals as goal

if_err : {T E X : Type 0} (r : Result T E) (e : E) → r ≡ Err e → IfErr r (λ f. f ≡ e → X) → X
if_err {X = X} r e is fact = subst (λ q. IfErr q (λ f. f ≡ e → X)) is fact refl

pub returns-clause-bad : goal.returns-clause-bad
returns-clause-bad c refused s is =
    let v = c.args.value.now in
    let at = c.in-Some.at in
    let parts = parts_read v at c.in-Some.ensures.within.0 in
    let packed = subst (λ image. IsPacked v image (take (length v - at) (drop at v))) parts.0
    (subst (λ entries. IsPacked v (drop 8 (take at v)) entries) parts.1 c.in-Some.ensures.place) in
    if_err _ _ refused c.read_image.ensures.bad s (its_parts c.args.handler v _ _ s packed is)
