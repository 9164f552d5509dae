use Rattle.std.proofs.Common.{sym, ◌∙◌, arith}
use Rattle.scoop_message.specs.declared.name.Block.{Block}
use Rattle.scoop_queue.specs.Kept.{queue_at}
use Rattle.scoop_queue.proofs.Keeping.{number-fits}
use Rattle.scoop_queue.proofs.pending.Pending.take_first.Goals as goal

pub overflow_add-self : goal.overflow_add-self
overflow_add-self g c =
    let b : Block = record { client = record { 0 = 0 }; inc = 0; num = 0 } in
    let fits = number-fits (queue_at b c.args.self.now) c.in-Some.entry c.pop_front.new.self.items (c.requires b) c.in-Some.ensures.items
    (sym c.goes_with.ensures ∙ c.if-goes_with.false) in
    omega (arith, fits)
