use Rattle.scoop_audit.proofs.auditing.tell.Goals as goal

pub returns-in-Err-clause-stops : goal.returns-in-Err-clause-stops
returns-in-Err-clause-stops c = c.placed.ensures c.args.system.now c.args.bytes.now c.in-Err.ensures.stops
