use Rattle.std.proofs.Common.{◌≡◌, ◌+◌, ◌∷◌, ◌++◌, ◌∙◌, [], take, arith, refl}
use Rattle.std.proofs.lemmas.List.{take_more}
use Rattle.std.proofs.lemmas.Grind.{common_steps}
use Rattle.sqlite.specs.Held.{state}
use Rattle.scoop_record.proofs.StoringLemmas.{none_stored, still_record, stored_more, then_kept, then_survives}
use Rattle.scoop_record.proofs.handlers.put_states.Goals as goal

pub loop-it-init : goal.loop-it-init
loop-it-init g c = (refl, none_stored (state g.S.Store c.args.tx.now.conn.now))

pub put_state-requires : goal.put_state-requires
put_state-requires g c = still_record _ _ _ c.loop-it.invariant.1 c.requires

pub returns-in_err-put_state-clause-same_reference : goal.returns-in_err-put_state-clause-same_reference
returns-in_err-put_state-clause-same_reference g c = c.put_state.ensures.same_reference ∙ c.loop-it.invariant.0

pub returns-in_err-put_state-clause-kept : goal.returns-in_err-put_state-clause-kept
returns-in_err-put_state-clause-kept g c =
    then_kept _ _ _ _ c.loop-it.invariant.1 c.put_state.ensures.kept c.put_state.ensures.survives

pub returns-in_err-put_state-clause-survives : goal.returns-in_err-put_state-clause-survives
returns-in_err-put_state-clause-survives g c =
    then_survives _ _ _ _ c.loop-it.invariant.1 c.put_state.ensures.kept c.put_state.ensures.survives

pub loop-it-preserved : goal.loop-it-preserved
loop-it-preserved g c =
    let it = c.it-item.result in
    let cut : take (c.loop-it.it-index + 1) c.args.all.now ≡ take c.loop-it.it-index c.args.all.now ++ it ∷ [] = grind (arith, common_steps, take_more) in
    rw cut (
      c.put_state.ensures.same_reference ∙ c.loop-it.invariant.0,
      stored_more _ _ _ _ c.loop-it.invariant.1 c.put_state.ensures.kept c.put_state.ensures.survives it
          (λ clean. let own = c.in_ok-put_state.ensures.put clean in (own.0, own.1, own.2, own.3)),
    )

pub returns-clause-same_reference : goal.returns-clause-same_reference
returns-clause-same_reference g c = c.loop-it.invariant.0

pub returns-clause-put : goal.returns-clause-put
returns-clause-put g c =
    let whole : take c.loop-it.it-index c.args.all.now ≡ c.args.all.now = grind (arith, common_steps) in
    (rw whole at c.loop-it.invariant.1).saved

pub returns-clause-layout : goal.returns-clause-layout
returns-clause-layout g c = still_record _ _ _ c.loop-it.invariant.1 c.requires

pub returns-clause-inside : goal.returns-clause-inside
returns-clause-inside g c =
    let whole : take c.loop-it.it-index c.args.all.now ≡ c.args.all.now = grind (arith, common_steps) in
    (rw whole at c.loop-it.invariant.1).inside

pub returns-clause-kept : goal.returns-clause-kept
returns-clause-kept g c = c.loop-it.invariant.1.kept

pub returns-clause-survives : goal.returns-clause-survives
returns-clause-survives g c = c.loop-it.invariant.1.survives
