use Rattle.std.proofs.Common.{◌≡◌, ◌-◌, length, take}
use Rattle.scoop_system.specs.declared.condition.TheConstants.{MAX_CONDITIONS}
use Rattle.scoop_lines.specs.Words.{words_of}
use Rattle.scoop_lines.proofs.ReadingLemmas.{joined}
use Rattle.scoop_system.specs.Line.{conditions_of}
use Rattle.scoop_system.proofs.line.when.read_conditions.Given as goal

abbrev pub invariant-loop-place : goal.invariant-loop-place
invariant-loop-place l = record {
  read : conditions_of l.fn.system MAX_CONDITIONS (words_of l.fn.line)
      ≡ joined (take l.place l.conditions) (conditions_of l.fn.system (MAX_CONDITIONS - l.place) (words_of l.rest));
  size : length l.conditions ≡ MAX_CONDITIONS;
}
