use Rattle.std.proofs.Common.{◌≡◌, true, is_ok, Result, Ok, Err, OnOk, sym, ap, ◌∙◌}
use Rattle.scoop_handler.specs.Core.{Core}
use Rattle.scoop_handler.specs.Hearing.{hear}
use Rattle.scoop_handler.specs.State.{HandlerState}
use Rattle.scoop_keeper.proofs.storing.hear_beside.Goals as goal

of_ok : {T E P : Type 0} (r : Result T E) → is_ok r ≡ true → OnOk r P → P
of_ok (Ok x) is p = p
of_ok (Err e) is p = absurd (cc)

pub returns-then-is_ok-clause-beside : goal.returns-then-is_ok-clause-beside
returns-then-is_ok-clause-beside g c =
    let heard = c.hear_first-heard.result in
    let is : is_ok heard ≡ true = sym c.is_ok.ensures.value ∙ c.if-is_ok.true in
    c.follow.ensures c.hear_first-heard.new.handler.state
    (ap (λ (s : HandlerState). (hear s c.args.message.now).0) (of_ok heard is c.hear_first-heard.ensures.before)
    ∙ sym (ap (λ (k : Core). k.state) (of_ok heard is c.hear_first-heard.ensures.state)))
