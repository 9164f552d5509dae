use Rattle.std.proofs.Common.{◌≡◌, ℕ, ◌<◌, ◌^◌, ◌++◌, ◌∷◌, length, take, get_or}
use Rattle.std.specs.Int.{w16, w64, to_be_bytes}
use Rattle.std.specs.List.{flat_map}
use Rattle.scoop_frame.specs.Buffer.{overwritten}
use Rattle.scoop_frame.proofs.entry.put_request.Given as goal

abbrev pub invariant-loop-i : goal.invariant-loop-i
invariant-loop-i l = record {
  bytes : l.out ≡ overwritten l.at (to_be_bytes w16 l.request.op ++ length l.request.args ∷ flat_map (to_be_bytes w64) (take l.i l.request.args)) l.fn.out;
  fit : (k : ℕ) → get_or l.arg-items k 0 < 2 ^ 64;
}
