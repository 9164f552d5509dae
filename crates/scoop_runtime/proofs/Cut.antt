-- A greeting by the next incarnation is a cut.
use Rattle.std.proofs.Common.{◌≡◌, ℕ, false, List, Option, ap, sym, subst, ◌∙◌}
use Rattle.scoop_message.specs.declared.name.ClientId.{ClientId}
use Rattle.scoop_message.specs.declared.name.HandlerId.{HandlerId}
use Rattle.scoop_client.specs.State.{ClientState}
use Rattle.scoop_driver.specs.State.{Seen}
use Rattle.scoop_runtime.specs.Beginnings.{BeginsNext}
use Rattle.scoop_runtime.specs.Cutting.{Cuts}
use Rattle.scoop_session.specs.Obeying.{TakesTurnsOnly}
use Rattle.scoop_session.specs.Parting.{owes}

pub cuts_then :
    (id : ClientId) (batch : ℕ) (known handlers : List HandlerId) (old new : ℕ → Option ℕ) (is_honest : Type 0) (fresh : ClientState) (s t : Seen)
    → BeginsNext id batch known old new is_honest fresh → s.client ≡ fresh → TakesTurnsOnly s t → owes t.client handlers ≡ false
    → Cuts id batch known handlers old new is_honest
cuts_then id batch known handlers old new is_honest fresh s t begins is (steps, goes, silent) greeted = record {
  fresh = s.client;
  begins = subst (λ c. BeginsNext id batch known old new is_honest c) (sym is) begins;
  steps = steps;
  can = goes.can;
  silent = silent;
  greeted = ap (λ c. owes c handlers) (sym goes.client) ∙ greeted;
}
