use Rattle.std.proofs.Common.{◌+◌, inl, inr, length, take, arith}
use Rattle.std.proofs.lemmas.Bool.{cases_lt}
use Rattle.scoop_lines.proofs.ChunkLemmas.{front_ended, front_open, too_much}
use Rattle.scoop_lines.proofs.source.take_piece.Goals as goal

pub returns-in-Err-clause-piece : goal.returns-in-Err-clause-piece
returns-in-Err-clause-piece c =
    let len = c.unwrap_or-len.result in
    elim (cases_lt 4096 (length c.args.line.now.items + length (take len c.args.bytes.now))) [
      | inl long ↦ too_much c.args.bytes.now c.args.line.now.items _ len c.memchr-newline.ensures c.unwrap_or-len.ensures long
      | inr fits ↦ cc (c.in-Err.ensures.variant.1 (omega (arith, fits)))
    ]

pub returns-in-Some-clause-piece : goal.returns-in-Some-clause-piece
returns-in-Some-clause-piece c =
    front_ended c.args.bytes.now _ _ c.in-Some.field-0 c.unwrap_or-len.result c.in-Some.ensures (rw c.in-Some.is at c.unwrap_or-len.ensures) c.in-Ok.ensures.ok

pub returns-in-None-clause-piece : goal.returns-in-None-clause-piece
returns-in-None-clause-piece c =
    front_open c.args.bytes.now _ _ c.unwrap_or-len.result c.in-None.ensures (rw c.in-None.is at c.unwrap_or-len.ensures) c.in-Ok.ensures.ok
