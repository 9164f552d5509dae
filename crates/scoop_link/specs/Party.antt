-- Whether two parties are the same.
use Rattle.std.specs.Prelude.{Bool, false}
use Rattle.scoop_message.specs.Message.{same_handler, same_client}
use Rattle.scoop_link.specs.declared.party.Party.{Party}
use Rattle.scoop_link.specs.declared.party.Party.TheVariants.{Handler, Client}

abbrev pub same_party : Party → Party → Bool
same_party (Handler h) (Handler k) = same_handler h k
same_party (Handler h) (Client d) = false
same_party (Client c) (Handler k) = false
same_party (Client c) (Client d) = same_client c d
