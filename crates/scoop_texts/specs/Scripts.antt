-- The end of a script, by its lines.
use Rattle.std.specs.Prelude.{Option, Some, None}
use Rattle.scoop_system.specs.declared.line.ClientLine.{ClientLine}
use Rattle.scoop_system.specs.declared.line.ClientLine.TheVariants as line
use Rattle.scoop_texts.specs.declared.error.RuntimeError.{RuntimeError}
use Rattle.scoop_texts.specs.declared.error.RuntimeError.TheVariants.{InsideBlock, InsideWhen}

-- the error for a script that ends after this line, by the one for an end before it
abbrev pub after_line : ClientLine → Option RuntimeError → Option RuntimeError
after_line (line.Reserve hs) so_far = Some InsideBlock
after_line (line.ReserveWhen hs conditions tries) so_far = Some InsideWhen
after_line line.End so_far = None
after_line line.GiveUp so_far = None
after_line line.Blank so_far = so_far
after_line (line.Call h r) so_far = so_far
after_line (line.Query h r) so_far = so_far
after_line line.Help so_far = so_far
after_line line.Quit so_far = so_far
