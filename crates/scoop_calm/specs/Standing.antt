-- The choice of the next event, by how handlers and clients stand.
use Rattle.std.specs.Prelude.{◌&&◌, not, Bool, false, List, find, is_some, Option}
use Rattle.std.specs.Option.{option_map, option_map_or}
use Rattle.scoop_message.specs.declared.name.ClientId.{ClientId}
use Rattle.scoop_queue.specs.Queue.{front}
use Rattle.scoop_client.specs.State.{ClientState}
use Rattle.scoop_client.specs.Due.{due}
use Rattle.scoop_world.specs.Standing.{Standing}
use Rattle.scoop_calm.specs.declared.next.Next.{Next}
use Rattle.scoop_calm.specs.declared.next.Next.TheVariants as next
use Rattle.scoop_calm.specs.Next.{can_do}

-- its next entry can leave
abbrev pub can_leave : Standing → Bool
can_leave s = not s.is_out && is_some (front s.state.queues)

abbrev pub first_out : List Standing → Option Next
first_out ss = option_map (λ s. next.Finish s.state.number) (find (λ s. s.is_out) ss)

abbrev pub first_to_begin : List Standing → Option Next
first_to_begin ss = option_map (λ s. next.Begin s.state.number) (find can_leave ss)

-- the client owes this handler something that it can do
abbrev pub gets_from : ClientState → Standing → Bool
gets_from c s = option_map_or (can_do s.state) (due c s.state.number) false

-- the first message that the client asks with
abbrev pub first_ask : ClientId → ClientState → List Standing → Option Next
first_ask id c ss = option_map (λ s. next.Ask id s.state.number) (find (gets_from c) ss)
