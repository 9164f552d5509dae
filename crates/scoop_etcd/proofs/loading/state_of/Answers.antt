use Rattle.std.proofs.Common.{Err, ap, subst}
use Rattle.scoop_handler.specs.State.{HandlerState}
use Rattle.scoop_etcd.specs.States.{IsStateOf}
use Rattle.scoop_etcd.proofs.StateLemmas.{damaged_one, holds_one, missing_one}
use Rattle.scoop_etcd.proofs.loading.state_of.Goals as goal

pub returns-in_default-clause-loaded : goal.returns-in_default-clause-loaded
returns-in_default-clause-loaded c = rw c.in_default.is (missing_one c.args.handler.0)

pub returns-in-Ok-clause-loaded : goal.returns-in-Ok-clause-loaded
returns-in-Ok-clause-loaded c =
    rw c.in-Some.is (holds_one c.args.handler.0 c.in-Some.value.items c.in-Ok.state
    (subst (λ v. IsStateOf c.args.handler.0 v c.in-Ok.state) c.deref.ensures.value c.in-Ok.ensures.ok))

pub returns-in-Err-BadImage-clause-bad : goal.returns-in-Err-BadImage-clause-bad
returns-in-Err-BadImage-clause-bad c told =
    rw c.in-Some.is (damaged_one c.args.handler.0 c.in-Some.value.items
    (subst (λ v. (s : HandlerState) → IsStateOf c.args.handler.0 v s → ⊥) c.deref.ensures.value
    (c.in-Err-BadImage.ensures.bad (ap Err c.in-Err-BadImage.field-0-is))))
