-- Refusals that are final.
use Rattle.std.specs.Prelude.{ℕ, ◌==◌, Bool}
use Rattle.std.specs.List.{list_any}
use Rattle.scoop_etcd_gateway.specs.declared.reply.TheConstants.{FINAL_CODES}

-- nothing was changed, and another try is refused as well
abbrev pub is_final : ℕ → Bool
is_final code = list_any (λ c. c == code) FINAL_CODES
