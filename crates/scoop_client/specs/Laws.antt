-- Laws of every message that is due and of every note, whatever the client's state.
use Rattle.std.specs.Prelude.{◌≡◌, ℕ, ◌+◌, true, false, ⊤, List, Some, None}
use Rattle.scoop_message.specs.declared.name.HandlerId.{HandlerId}
use Rattle.scoop_message.specs.declared.request.Entry.{Entry}
use Rattle.scoop_message.specs.declared.message.Message.{Message}
use Rattle.scoop_message.specs.declared.message.Message.TheVariants.{Log}
use Rattle.scoop_reserve.specs.Handlers.{has}
use Rattle.scoop_reserve.specs.State.{ReservationState}
use Rattle.scoop_reserve.specs.Hearing.{is_open}
use Rattle.scoop_client.specs.declared.phase.ClientNote.{ClientNote}
use Rattle.scoop_client.specs.declared.phase.ClientNote.TheVariants.{Accepted}
use Rattle.scoop_client.specs.Window.{WindowState, first_entries, window_of}
use Rattle.scoop_client.specs.State.{ClientState}

-- Entries are due once all handlers are opened and this one is unlocked. They are the first that aren't acknowledged,
-- and begin at the number after the acknowledged ones.
pub record IsLoggedAt (c : ClientState) (h : HandlerId) (n : ℕ) (es : List Entry) (r : ReservationState) (l : WindowState) : Type 0 where
  pub reservation : c.reservation ≡ Some r
  pub opened : is_open r ≡ true
  pub unlocked : has r.left h ≡ false
  pub window : window_of h c.windows ≡ Some l
  pub number : n ≡ l.acked + 1
  pub entries : es ≡ first_entries c.batch l.unacked

abbrev pub DueInOrder : ClientState → HandlerId → Message → Type 0
DueInOrder c h (Log x b n es) = (r : ReservationState) × (l : WindowState) × IsLoggedAt c h n es r l
DueInOrder c h m = ⊤

-- an answer is accepted for the waiting query, and then no query waits any more
abbrev pub AcceptsOnce : ClientState → ClientState → ClientNote → Type 0
AcceptsOnce c d (Accepted h n a) = (c.waits ≡ Some (h, n)) × (d.waits ≡ None)
AcceptsOnce c d note = ⊤
