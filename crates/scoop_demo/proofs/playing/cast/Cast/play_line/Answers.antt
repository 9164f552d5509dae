use Rattle.std.proofs.Common.{sym, ap, ◌∙◌, is_some, [], false}
use Rattle.scoop_keeper.specs.Memory.{incarnation_at}
use Rattle.scoop_demo.proofs.ScriptLemmas.{unknown_stops}
use Rattle.scoop_demo.proofs.StagingLemmas.{blank_staged, handler_staged, client_staged, event_staged}
use Rattle.scoop_demo.proofs.playing.cast.Cast.play_line.Goals as goal

pub returns-in_default-clause-err : goal.returns-in_default-clause-err
returns-in_default-clause-err g c parties stored staged =
    unknown_stops _ (is_some c.args.self.now.world) c.args.line.now parties stored _
    (sym c.is_blank.ensures ∙ c.if-is_blank.false) c.in_default.ensures c.fault_at.ensures

pub returns-then-is_blank-clause-staged : goal.returns-then-is_blank-clause-staged
returns-then-is_blank-clause-staged g c parties stored staged =
    blank_staged _ _ false _ [] _ [] _ (incarnation_at c.args.self.now.keeper) parties stored c.args.line.now [] staged
    (sym c.is_blank.ensures ∙ c.if-is_blank.true)

pub returns-in-Handler-clause-staged : goal.returns-in-Handler-clause-staged
returns-in-Handler-clause-staged g c parties stored staged =
    handler_staged _ _ _ _ _ _ _ _ _ parties stored c.args.line.now _ staged c.place.result (sym c.is_blank.ensures ∙ c.if-is_blank.false)
    (rw c.in-Handler.is at c.in-Some.ensures) c.place.ensures.same
    c.place.ensures.ok c.place.ensures.kept (ap (λ v. v.items) c.place.ensures.others.0) (ap (λ k. incarnation_at k) c.place.ensures.others.1)

pub returns-in-Client-clause-staged : goal.returns-in-Client-clause-staged
returns-in-Client-clause-staged g c parties stored staged =
    client_staged _ _ _ _ _ _ _ _ _ parties stored c.args.line.now _ staged c.join.result (sym c.is_blank.ensures ∙ c.if-is_blank.false)
    (rw c.in-Client.is at c.in-Some.ensures) c.join.ensures.same
    c.join.ensures.ok c.join.ensures.kept (ap (λ v. v.items) c.join.ensures.others.0) (ap (λ k. incarnation_at k) c.join.ensures.others.1)

pub returns-in-Event-clause-staged : goal.returns-in-Event-clause-staged
returns-in-Event-clause-staged g c parties stored staged =
    event_staged _ _ _ _ _ _ _ _ _ parties stored c.args.line.now _ staged c.in-Event.kind c.play_event.result (sym c.is_blank.ensures ∙ c.if-is_blank.false)
    (rw c.in-Event.is at c.in-Some.ensures)
    c.play_event.ensures.opened (c.play_event.ensures.opens parties stored staged)
