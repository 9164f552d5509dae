use Rattle.std.proofs.Common.{◌≡◌, ℕ, List, [], ◌+◌, length, sym, ap, ◌∙◌, arith}
use Rattle.scoop_frame.specs.Buffer.{overwritten}
use Rattle.scoop_frame.specs.Frame.{body_of}
use Rattle.scoop_frame.proofs.Frames.{no_body, body_in_range}
use Rattle.scoop_frame.proofs.Writing.{nothing_written}
use Rattle.scoop_frame.proofs.encoding.put_body.Goals as goal

pub returns-in_default : goal.returns-in_default
returns-in_default c =
    let old = c.args.out.now in
    let none : body_of c.args.version c.args.message.now ≡ [] = no_body c.args.version c.args.message.now c.in_default.not-Log c.in_default.not-Answer in
    record {
      bytes = nothing_written 26 old ∙ ap (λ (xs : List ℕ). overwritten 26 xs old) (sym none);
      end = ap (λ (xs : List ℕ). 26 + length xs) (sym none);
      limit = omega arith;
      range = body_in_range c.args.message.now c.in_default.not-Log c.in_default.not-Answer;
    }
