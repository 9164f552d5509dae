use Rattle.sqlite.specs.Held.{state}
use Rattle.scoop_record.specs.Tables.{meta, handlers, clients, pending}
use Rattle.scoop_record.proofs.among.Created.{HasMade, for_handlers, for_clients, for_pending, for_version, all_made}
use Rattle.scoop_record.proofs.create.make_all.Goals as goal

pub create_meta-requires : goal.create_meta-requires
create_meta-requires g c sound = let room = c.requires sound in (room.free.0, room.uncounted)

pub create_handlers-requires : goal.create_handlers-requires
create_handlers-requires g c =
    let s0 = state g.S.Store c.args.tx.now.conn.now in
    let s1 = state g.S.Store c.create_meta.new.tx.conn.now in
    let meta_made : HasMade s0 s1 (meta 0) =
    record { made = c.in_ok-create_meta.ensures.made; survives = c.create_meta.ensures.survives } in
    for_handlers s0 s1 c.requires meta_made

pub create_clients-requires : goal.create_clients-requires
create_clients-requires g c =
    let s0 = state g.S.Store c.args.tx.now.conn.now in
    let s1 = state g.S.Store c.create_meta.new.tx.conn.now in
    let s2 = state g.S.Store c.create_handlers.new.tx.conn.now in
    let meta_made : HasMade s0 s1 (meta 0) =
    record { made = c.in_ok-create_meta.ensures.made; survives = c.create_meta.ensures.survives } in
    let handlers_made : HasMade s1 s2 (handlers 0) =
    record { made = c.in_ok-create_handlers.ensures.made; survives = c.create_handlers.ensures.survives } in
    for_clients s0 s1 c.requires meta_made s2 handlers_made

pub create_pending-requires : goal.create_pending-requires
create_pending-requires g c =
    let s0 = state g.S.Store c.args.tx.now.conn.now in
    let s1 = state g.S.Store c.create_meta.new.tx.conn.now in
    let s2 = state g.S.Store c.create_handlers.new.tx.conn.now in
    let s3 = state g.S.Store c.create_clients.new.tx.conn.now in
    let meta_made : HasMade s0 s1 (meta 0) =
    record { made = c.in_ok-create_meta.ensures.made; survives = c.create_meta.ensures.survives } in
    let handlers_made : HasMade s1 s2 (handlers 0) =
    record { made = c.in_ok-create_handlers.ensures.made; survives = c.create_handlers.ensures.survives } in
    let clients_made : HasMade s2 s3 (clients 0) =
    record { made = c.in_ok-create_clients.ensures.made; survives = c.create_clients.ensures.survives } in
    for_pending s0 s1 c.requires meta_made s2 handlers_made s3 clients_made

pub put_version-requires : goal.put_version-requires
put_version-requires g c =
    let s0 = state g.S.Store c.args.tx.now.conn.now in
    let s1 = state g.S.Store c.create_meta.new.tx.conn.now in
    let s2 = state g.S.Store c.create_handlers.new.tx.conn.now in
    let s3 = state g.S.Store c.create_clients.new.tx.conn.now in
    let s4 = state g.S.Store c.create_pending.new.tx.conn.now in
    let meta_made : HasMade s0 s1 (meta 0) =
    record { made = c.in_ok-create_meta.ensures.made; survives = c.create_meta.ensures.survives } in
    let handlers_made : HasMade s1 s2 (handlers 0) =
    record { made = c.in_ok-create_handlers.ensures.made; survives = c.create_handlers.ensures.survives } in
    let clients_made : HasMade s2 s3 (clients 0) =
    record { made = c.in_ok-create_clients.ensures.made; survives = c.create_clients.ensures.survives } in
    let pending_made : HasMade s3 s4 (pending 0) =
    record { made = c.in_ok-create_pending.ensures.made; survives = c.create_pending.ensures.survives } in
    for_version s0 s1 c.requires meta_made s2 handlers_made s3 clients_made s4 pending_made

pub returns-clause-made : goal.returns-clause-made
returns-clause-made g c clean =
    let s0 = state g.S.Store c.args.tx.now.conn.now in
    let s1 = state g.S.Store c.create_meta.new.tx.conn.now in
    let s2 = state g.S.Store c.create_handlers.new.tx.conn.now in
    let s3 = state g.S.Store c.create_clients.new.tx.conn.now in
    let s4 = state g.S.Store c.create_pending.new.tx.conn.now in
    let s5 = state g.S.Store c.put_version.new.tx.conn.now in
    let meta_made : HasMade s0 s1 (meta 0) =
    record { made = c.in_ok-create_meta.ensures.made; survives = c.create_meta.ensures.survives } in
    let handlers_made : HasMade s1 s2 (handlers 0) =
    record { made = c.in_ok-create_handlers.ensures.made; survives = c.create_handlers.ensures.survives } in
    let clients_made : HasMade s2 s3 (clients 0) =
    record { made = c.in_ok-create_clients.ensures.made; survives = c.create_clients.ensures.survives } in
    let pending_made : HasMade s3 s4 (pending 0) =
    record { made = c.in_ok-create_pending.ensures.made; survives = c.create_pending.ensures.survives } in
    all_made s0 s1 c.requires meta_made s2 handlers_made s3 clients_made s4 pending_made s5 c.args.version c.put_version.ensures.survives clean
    (c.in_ok-put_version.ensures.put clean)
