use Rattle.scoop_netloop.proofs.node_loop.fn.run_beside.scope+FnOnce.call_once.Goals as goal

pub scope-requires : goal.scope-requires
scope-requires g c = let may = c.requires.1.1.1.1.1.1.1 in (may.0, (may.1, (may.2, (may.3, (may.4, (may.5, may.6))))))
