use Rattle.std.proofs.Common.{rules}
use Rattle.toml.specs.View.{view}
use Rattle.scoop_system.proofs.SystemLemmas.{clients_fault}
use Rattle.scoop_system.proofs.reading.read_parts.Goals as goal

pub returns-in_err-clients-clause-fault : goal.returns-in_err-clients-clause-fault
returns-in_err-clients-clause-fault c =
    let handlers = rw (c.as_slice.ensures.value, c.as_slice-2.ensures.value) at c.in_ok-handlers.ensures.ok in
    let clients = rw (c.as_slice-3.ensures.value, c.as_slice-4.ensures.value) at c.in_err-clients.ensures.fault in
    let told =
    clients_fault (view c.args.file.now) c.args.identity c.in_ok-classes.classes.items c.in_ok-nodes.nodes.items c.in_ok-handlers.handlers.items c.in_err-clients.field-0.0
    c.in_ok-classes.ensures.ok c.in_ok-nodes.ensures.ok handlers clients in
    search (rules, told)
