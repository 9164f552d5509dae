use Rattle.std.proofs.Common.{◌-◌, length, sym, ◌∙◌, arith}
use Rattle.scoop_message.proofs.LastEntry.{ends-last}
use Rattle.scoop_message.proofs.entries.ends.Goals as goal

pub returns-in-len1-up : goal.returns-in-len1-up
returns-in-len1-up c =
    let es = c.args.entries.now in
    c.is_end.ensures ∙ sym (ends-last es (length es - 1) c.last-item.result (omega arith) c.last-item.is)
