use Rattle.scoop_message.specs.declared.request.Entry.TheVariants.{Call, Query}
use Rattle.scoop_client.proofs.client.Client.may_carry_out.Goals as goal

pub returns-in-Call : goal.returns-in-Call
returns-in-Call g c = rw c.in-Call.is (c.may_log.ensures (Call c.in-Call.field-1))

pub returns-in-Query : goal.returns-in-Query
returns-in-Query g c = rw c.in-Query.is (c.may_log-in-Query.ensures (Query c.in-Query.field-1))
