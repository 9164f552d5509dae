use Rattle.std.proofs.Common.{◌≡◌, sym, ap, ◌∙◌, subst}
use Rattle.scoop_handler.specs.Core.{Core, with_state}
use Rattle.scoop_handler.specs.Hearing.{Hearing, hear}
use Rattle.scoop_handler.specs.Running.{MayReset, job_out}
use Rattle.scoop_handler.specs.State.{HandlerState}
use Rattle.scoop_keeper.proofs.StoringLemmas.{job_stays, leaves_state, may_return}
use Rattle.scoop_keeper.specs.Keeper.{Holds}
use Rattle.scoop_keeper.specs.Storing.{leaves}
use Rattle.scoop_keeper.proofs.storing.hear_first.Goals as goal

pub store_heard-requires : goal.store_heard-requires
store_heard-requires g c is_stored left honest =
    let s = c.args.handler.now.state in
    let told = c.in_ok-heard.ensures.ok in
    let stays = leaves_state s c.args.message.now (ap (λ (r : Hearing). leaves r.1.note) told ∙ left) in
    let same : c.state.result.now ≡ s = c.state.ensures ∙ sym (ap (λ (r : Hearing). r.0) told) ∙ stays in
    subst (λ (x : HandlerState). g.K.Keeper.handlers c.args.keeper.now x.number.0 (Holds x)) (sym same) (c.requires.stored is_stored honest)

pub exchange-requires : goal.exchange-requires
exchange-requires g c =
    let old = c.args.handler.now in
    let m = c.args.message.now in
    let after : with_state (hear old.state m).0 old ≡ c.hear.new.self =
    ap (λ (r : Hearing). with_state r.0 old) c.in_ok-heard.ensures.ok ∙ sym c.in_ok-heard.ensures.stays in
    subst (λ (x : Core). MayReset c.args.before.now x) after
    (subst (λ (s : HandlerState). MayReset s (with_state (hear old.state m).0 old)) (sym c.requires.before) (may_return old m c.number-number.ensures.core))

pub returns-in-Ok-clause-job : goal.returns-in-Ok-clause-job
returns-in-Ok-clause-job g c =
    let old = c.args.handler.now in
    let m = c.args.message.now in
    let after : with_state (hear old.state m).0 old ≡ c.hear.new.self =
    ap (λ (r : Hearing). with_state r.0 old) c.in_ok-heard.ensures.ok ∙ sym c.in_ok-heard.ensures.stays in
    ap job_out (sym after) ∙ job_stays old m c.number-number.ensures.core
