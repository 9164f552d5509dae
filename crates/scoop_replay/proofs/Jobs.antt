-- A job that is out, as its handler hears a message.
use Rattle.std.proofs.Common.{◌≡◌, Result, Ok, Err, sym, ap, ◌∙◌}
use Rattle.std.specs.Prelude.{IfOk, OnErr}
use Rattle.scoop_message.specs.declared.memory.OutOfMemory.{OutOfMemory}
use Rattle.scoop_message.specs.declared.message.Message.{Message}
use Rattle.scoop_handler.specs.declared.note.Heard.{Heard}
use Rattle.scoop_handler.specs.Core.{Core, IsCore, with_state}
use Rattle.scoop_handler.specs.Hearing.{hear}
use Rattle.scoop_handler.specs.Running.{job_out}
use Rattle.scoop_handler.specs.State.{HandlerState}
use Rattle.scoop_keeper.proofs.StoringLemmas.{job_stays}

pub heard_job :
    (c d : Core) (m : Message) (res : Result Heard OutOfMemory) → IsCore c → IfOk res (λ heard. hear c.state m ≡ (d.state, heard))
    → d ≡ with_state d.state c → OnErr res (d ≡ c) → job_out d ≡ job_out c
heard_job c d m (Ok heard) sound is stays same =
    let state : d.state ≡ (hear c.state m).0 = sym (ap (λ (h : HandlerState × Heard). h.0) is) in
    ap job_out (stays ∙ ap (λ s. with_state s c) state) ∙ job_stays c m sound
heard_job c d m (Err e) sound is stays same = ap job_out same
