-- Whether a client has locks to give back.
use Rattle.std.specs.Prelude.{Bool, true, false, List, Option, Some, None}
use Rattle.std.specs.List.{list_any}
use Rattle.scoop_message.specs.declared.name.HandlerId.{HandlerId}
use Rattle.scoop_message.specs.declared.message.Message.{Message}
use Rattle.scoop_message.specs.declared.message.Message.TheVariants.{Unlock}
use Rattle.scoop_client.specs.State.{ClientState}
use Rattle.scoop_client.specs.Due.{due}

-- the message is an Unlock
abbrev pub unlocks : Message → Bool
unlocks (Unlock h b) = true
unlocks m = false

abbrev pub is_unlock : Option Message → Bool
is_unlock None = false
is_unlock (Some m) = unlocks m

-- an Unlock is due to one of these handlers
abbrev pub owes_unlock : ClientState → List HandlerId → Bool
owes_unlock c handlers = list_any (λ h. is_unlock (due c h)) handlers
