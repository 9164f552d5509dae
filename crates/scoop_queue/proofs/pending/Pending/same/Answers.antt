use Rattle.std.proofs.Common.{◌≡◌, sym, ◌∙◌, arith}
use Rattle.std.proofs.lemmas.Slice.Eq.{slice_eq-Decides}
use Rattle.scoop_message.proofs.Same.{entry_decides}
use Rattle.scoop_queue.proofs.States.{state_decides}
use Rattle.scoop_queue.proofs.pending.Pending.same.Goals as goal

pub returns-then-state : goal.returns-then-state
returns-then-state g c =
    let first : c.args.self.now.first ≡ c.args.other.now.first = omega arith in
    let state = (state_decides c.args.self.now.state c.args.other.now.state).0 (sym c.eq-state.ensures ∙ c.if-state.true) in
    let items = slice_eq-Decides entry_decides c.args.self.now.entries.items c.args.other.now.entries.items c.eq-entries.result c.eq-entries.ensures in
    ((λ e. (first, items.0 e, state)), (λ e. items.1 e.1))

pub returns-else-state : goal.returns-else-state
returns-else-state g c =
    let state = state_decides c.args.self.now.state c.args.other.now.state in
    ((λ e. cc), (λ e. let is = state.1 e.2 in cc))
