-- The value of an unused cell of the handlers that a line names.
use Rattle.scoop_message.specs.declared.name.HandlerId.{HandlerId}

abbrev pub nobody : HandlerId
nobody = record { 0 = 0 }
