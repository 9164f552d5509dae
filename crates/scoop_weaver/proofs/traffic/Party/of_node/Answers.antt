use Rattle.std.proofs.Common.{◌++◌, ◌∷◌, [], map, take, sym, ap, ◌∙◌}
use Rattle.std.proofs.lemmas.List.{map-append, take_all, take_more}
use Rattle.scoop_weaver.proofs.Anew.{entries_passed}
use Rattle.scoop_weaver.specs.Passing.{traffic_in}
use Rattle.scoop_weaver.proofs.traffic.Party.of_node.Goals as goal

pub loop-entry-preserved : goal.loop-entry-preserved
loop-entry-preserved g c =
    let i = c.loop-entry.entry-index in
    let es = c.args.history.now in
    c.in_ok-push.ensures.items
    ∙ ap (λ xs. xs ++ c.entry_traffic-next.result ∷ []) c.loop-entry.invariant
    ∙ ap (λ x. map traffic_in (take i es) ++ x ∷ []) (c.entry_traffic-next.ensures ∙ ap traffic_in c.entry-item.is)
    ∙ sym (ap (λ xs. map traffic_in xs) (take_more es i c.entry-item.result c.loop-entry-test.true) ∙ map-append traffic_in (take i es) (_ ∷ []))

pub returns : goal.returns
returns g c number =
    let es = c.args.history.now in
    c.loop-entry.invariant ∙ (ap (λ xs. map traffic_in xs) (take_all c.loop-entry.entry-index es c.loop-entry-test.false) ∙ entries_passed number es)
