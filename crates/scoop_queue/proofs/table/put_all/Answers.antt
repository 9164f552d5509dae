use Rattle.std.proofs.Common.{length, [], ◌∷◌, Option, unwrap_or, sym, ap, ◌∙◌}
use Rattle.scoop_queue.specs.declared.error.PutError.{PutError}
use Rattle.scoop_queue.specs.declared.error.PutError.TheVariants.{OutOfMemory}
use Rattle.scoop_queue.specs.Queue.{PrivateQueue, with_entries}
use Rattle.scoop_queue.proofs.Kept.{kept-same, kept-set, put_refusal-place}
use Rattle.scoop_queue.proofs.Results.{if-err, on-err, on-ok}
use Rattle.scoop_queue.proofs.table.put_all.Goals as goal

pub returns-clause-fits : goal.returns-clause-fits
returns-clause-fits g c =
    let at = put_refusal-place c.args.block (length c.args.entries.now)
    c.index_mut-pending.result.now c.args.table.now.entries c.in-Some.place c.in-Some.ensures.place c.index_mut-pending.ensures.value in
    on-ok c.put_all.result (λ fits. at ∙ fits c.args.block) c.put_all.ensures.ok

pub returns-clause-put : goal.returns-clause-put
returns-clause-put g c =
    on-ok c.put_all.result
    (λ put. kept-set c.args.block (λ q. with_entries c.args.entries.now q ∷ [])
    c.index_mut-pending.result.now c.put_all.new.self c.args.table.now.entries c.in-Some.place c.in-Some.ensures.place c.index_mut-pending.ensures.value
    (λ d. ap (λ (q : PrivateQueue). q ∷ []) (sym (put d))))
    c.put_all.ensures.put

pub returns-clause-err : goal.returns-clause-err
returns-clause-err g c =
    let at = put_refusal-place c.args.block (length c.args.entries.now)
    c.index_mut-pending.result.now c.args.table.now.entries c.in-Some.place c.in-Some.ensures.place c.index_mut-pending.ensures.value in
    if-err c.put_all.result (λ e is. is c.args.block ∙ ap (λ (o : Option PutError). unwrap_or o OutOfMemory) (sym at)) c.put_all.ensures.err

pub returns-clause-same : goal.returns-clause-same
returns-clause-same g c =
    on-err c.put_all.result (λ same. kept-same c.index_mut-pending.result.now c.put_all.new.self c.args.table.now.entries c.in-Some.place
    c.index_mut-pending.ensures.value same) c.put_all.ensures.same
