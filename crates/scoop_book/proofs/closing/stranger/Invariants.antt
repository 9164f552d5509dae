-- A fact of the entries that are left is a fact of all.
use Rattle.std.proofs.Common.{◌≡◌, ◌<◌, ◌≤◌, ℕ, length}
use Rattle.std.specs.List.{All, Any}
use Rattle.scoop_book.proofs.closing.stranger.Given as goal

abbrev pub invariant-loop-number : goal.invariant-loop-number
invariant-loop-number g l = record {
  all : All (λ e. e.0 < l.count) l.entries → All (λ e. e.0 < l.count) l.history.entries;
  some : (n : ℕ) → Any (λ e. (e.0 ≡ n) × (l.count ≤ n)) l.entries → Any (λ e. (e.0 ≡ n) × (l.count ≤ n)) l.history.entries;
}

abbrev pub decreases-loop-number : goal.decreases-loop-number
decreases-loop-number g l = length l.entries
