use Rattle.std.proofs.Common.{◌-◌, length}
use Rattle.std.specs.Io.KnownBytes.{Consumes, Keeps}
use Rattle.scoop_lines.specs.Line.{line_limit, IsWithin}
use Rattle.scoop_lines.specs.Piece.{HasNoNewline}
use Rattle.scoop_lines.proofs.source.Source.next_line.Given as goal

abbrev pub invariant-loop-line : goal.invariant-loop-line
invariant-loop-line g l = record {
  taken : Consumes l.initial.self l.self l.line.items;
  unended : HasNoNewline l.line.items;
  within : IsWithin l.line.items;
  output : Keeps (g.W.Write.contents l.initial.output) (g.W.Write.contents l.output);
}

abbrev pub decreases-loop-line : goal.decreases-loop-line
decreases-loop-line g l = line_limit - length l.line.items
