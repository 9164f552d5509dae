use Rattle.std.proofs.Common.{◌≡◌, ◌-◌, length, take, drop, map, replicate}
use Rattle.scoop_system.specs.Name.{told_byte}
use Rattle.scoop_system.proofs.name.Name.told_bytes.Given as goal

abbrev pub invariant-loop-place : goal.invariant-loop-place
invariant-loop-place l = record {
  size : length l.cells ≡ 32;
  front : take l.place l.cells ≡ map told_byte (take l.place l.bytes);
  others : drop l.place l.cells ≡ replicate (32 - l.place) 0;
}
