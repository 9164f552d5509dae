-- One end of a scripted pair, and the call that fails.
use Rattle.std.specs.Prelude.{ℕ, ◌+◌, ◌-◌, ◌^◌, min, ◌==◌, ◌&&◌, not, nat_le, if◌then◌else◌}
use Rattle.scoop_link.specs.declared.script.Script.{Script}

-- its script, and the number of calls so far
pub record ScriptEnd : Type 0 where
  pub script : Script
  pub calls : ℕ

abbrev pub fresh_end : Script → ScriptEnd
fresh_end script = record { script = script; calls = 0 }

abbrev pub after_call : ScriptEnd → ScriptEnd
after_call e = record e { calls = min (e.calls + 1) (2 ^ 64 - 1) }

-- one fault, once the call that fails was made
abbrev pub faults_of : ScriptEnd → ℕ
faults_of e = if not (e.script.fail_at == 0) && nat_le e.script.fail_at e.calls then 1 else 0
