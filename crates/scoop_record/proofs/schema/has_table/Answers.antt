use Rattle.std.proofs.Common.{sym}
use Rattle.scoop_record.proofs.among.Room.{has_table_at}
use Rattle.scoop_record.proofs.schema.has_table.Goals as goal

pub returns-then-is_table : goal.returns-then-is_table
returns-then-is_table c alone =
    let t = c.in-Some-get.table.now in
    let it = c.is_alone.ensures alone in
    has_table_at c.args.schema.now c.in-Some.at t c.args.name.now c.args.key.now c.args.column.now c.args.kind (sym c.in-Some.ensures)
    (sym c.in-Some-get.ensures.value) (c.is_table.ensures c.if-is_table.true) it.0 it.1 it.2 it.3
