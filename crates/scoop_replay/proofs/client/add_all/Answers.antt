use Rattle.std.proofs.Common.{◌++◌, ◌∷◌, [], take, sym, ap, ◌∙◌, subst, append_assoc}
use Rattle.std.proofs.lemmas.List.{take_all}
use Rattle.scoop_weaver.specs.Trails.{HasTraffic}
use Rattle.scoop_weaver.proofs.Along.{grows_both}
use Rattle.scoop_replay.proofs.Lists.{item_more}
use Rattle.scoop_replay.proofs.client.add_all.Goals as goal

pub loop-next-preserved : goal.loop-next-preserved
loop-next-preserved c =
    let i = c.loop-next.next-index in
    let ms = c.args.moves.now in
    let x = c.next-item.result in (
      grows_both _ _ _ c.loop-next.invariant.0 c.in_ok-add.ensures.grows,
      λ ts has.
          subst (HasTraffic c.add.new.post c.add.new.self)
          (append_assoc ts (take i ms) (x ∷ []) ∙ ap (λ us. ts ++ us) (sym (item_more ms i x c.loop-next-test.true c.next-item.is)))
          (c.in_ok-add.ensures.adds (ts ++ take i ms) (c.loop-next.invariant.1 ts has)),
    )

pub returns-clause-adds : goal.returns-clause-adds
returns-clause-adds c ts has =
    subst (λ us. HasTraffic c.loop-next.post c.loop-next.trail (ts ++ us)) (take_all c.loop-next.next-index c.args.moves.now c.loop-next-test.false)
    (c.loop-next.invariant.1 ts has)
