-- A client's batch stays, and every Log that is due has entries.
use Rattle.scoop_model.proofs.Names.{◌≡◌, ◌<◌, Some, refl, arith, Ok, length, nat_tests, Message, HandlerId, HasEntries, has, command, due, heard, ClientState}
use Rattle.scoop_model.proofs.Names.{Command}
use Rattle.scoop_client.proofs.Batches.{is_batch}
use Rattle.scoop_model.proofs.Sound.Facts.{HasBatch}
use Rattle.scoop_model.proofs.Moves.{Sends, sends_log, sends, Notices, passes_over, hears, Takes, takes_reserve, takes}

-- ---- the batch stays

takes_batch : (c d : ClientState) (x : Command) → Takes c x d → d.batch ≡ c.batch
takes_batch c d x (takes_reserve hs at_idle begins) = refl
takes_batch c d x t = refl

pub command_batch : (c d : ClientState) (x : Command) → command c x ≡ Ok d → d.batch ≡ c.batch
command_batch c d x e = takes_batch c d x (takes c d x e)

notices_batch : (c : ClientState) (m : Message) (d : ClientState) → Notices c m d → d.batch ≡ c.batch
notices_batch c m d (passes_over n) = refl
notices_batch c m d n = refl

pub heard_batch : (c : ClientState) (m : Message) → (heard c m).0.batch ≡ c.batch
heard_batch c m = notices_batch c m (heard c m).0 (hears c m)

pub same_batch : (c d : ClientState) → d.batch ≡ c.batch → HasBatch c → HasBatch d
same_batch c d same has = record { some = omega (arith, same, has.some); limit = omega (arith, same, has.limit) }

-- ---- what is due has entries

sends_entries : (c : ClientState) (h : HandlerId) → HasBatch c → (m : Message) → Sends c h m → HasEntries m
sends_entries c h batch m (sends_log r l held free opened window some) =
    let left : 0 < length l.unacked = grind (arith, nat_tests) in
    let one = is_batch c.batch l.unacked batch.some left in
    (one.some, one.end)
sends_entries c h batch m s = tt

pub due_entries : (c : ClientState) (h : HandlerId) → HasBatch c → (m : Message) → due c h ≡ Some m → HasEntries m
due_entries c h batch m e = sends_entries c h batch m (sends c h m e)
