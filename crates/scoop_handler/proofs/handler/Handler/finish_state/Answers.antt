use Rattle.std.proofs.Common.{length, sym, ap, ◌∙◌}
use Rattle.scoop_handler.specs.State.{HandlerState}
use Rattle.scoop_handler.proofs.After.{job-first, words-after}
use Rattle.scoop_handler.proofs.handler.Handler.finish_state.Goals as goal

pub run_first-requires-clause-words : goal.run_first-requires-clause-words
run_first-requires-clause-words g c =
    let first = job-first c.args.self.now c.args.done.now c.requires.out in
    ap length c.words.ensures ∙ words-after c.args.self.now c.args.done.now first ∙ ap (λ (s : HandlerState). length s.words) (sym c.requires.own)
