-- The advice for a keeper's refusals: what is wrong, and what to do.
use Rattle.std.specs.Prelude.{ℕ, List, codes}
use Rattle.scoop_keeper.specs.declared.keeper.KeeperError.{KeeperError}
use Rattle.scoop_keeper.specs.declared.keeper.KeeperError.TheVariants.{OutOfMemory, Refused, BadImage, IncarnationsSpent, WrongSchema}

-- for running out of memory, in a keeper or anywhere else
abbrev pub memory_advice : List ℕ
memory_advice = codes "end other programs or give this one more memory; with a store, resume with --store, which has all that was answered"

abbrev pub keeper_advice : KeeperError → List ℕ
keeper_advice OutOfMemory = memory_advice
keeper_advice Refused =
    codes "it could not be read or written. Check that the disk has room, and resume with --store, which has all that was answered. Repeat what had no answer"
keeper_advice (BadImage handler) =
    codes "its state of this handler was changed or damaged, beyond repair. Start over with new stores for all nodes and clients, and a new key if there is one"
keeper_advice IncarnationsSpent = codes "this client has used up its incarnations: take another number"
keeper_advice WrongSchema = codes "it belongs to another program or a later version: name the right store"
