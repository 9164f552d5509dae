-- A replayed node goes on by its entries, and opens again.
use Rattle.std.proofs.Common.{◌≡◌, ℕ, List, [], ◌∷◌, ◌++◌, map, Option, Some, None, refl, sym, ap, subst}
use Rattle.scoop_message.specs.declared.message.Message.{Message}
use Rattle.scoop_message.specs.declared.name.Block.{Block}
use Rattle.scoop_message.specs.declared.name.HandlerId.{HandlerId}
use Rattle.scoop_handler.specs.declared.note.Heard.{Heard}
use Rattle.scoop_handler.specs.declared.ran.Ran.{Ran}
use Rattle.scoop_handler.specs.Local.{LocalHandler}
use Rattle.scoop_book.specs.declared.event.Event.TheVariants as event
use Rattle.scoop_book.specs.declared.event.Reply.TheVariants as reply
use Rattle.scoop_book.specs.Moves.{Entry, Moves}
use Rattle.scoop_weave.specs.NodeHistories.{move_in, reopened}
use Rattle.scoop_weaver.specs.declared.traffic.Traffic.{Traffic}
use Rattle.scoop_weaver.specs.declared.trail.Passage.{Passage}
use Rattle.scoop_weaver.specs.Passing.{silent, traffic_of}
use Rattle.scoop_weaver.specs.Trails.{HasTraffic}
use Rattle.scoop_replay.specs.Node.{BeganSo, GoesOn, HeardSo, OpensAgain, RanSo, node_value}
use Rattle.scoop_replay.proofs.Lives.{tale_entered, tale_reopened}

module _ (number : ℕ) (hs ks : List LocalHandler) (trail longer : List Passage) (post more : List Message) where
  abbrev pub Adds : Traffic → Type 0
  Adds x = (ts : List Traffic) → HasTraffic post trail ts → HasTraffic more longer (ts ++ x ∷ [])

  goes_on : (P : Entry → Type 0) (e : Entry) → P e → Moves e.1 e.2 hs ks → Adds (traffic_of (move_in e)) → GoesOn P (node_value number hs trail) (node_value number ks longer) post more
  goes_on P e is moves adds words opening t at tale =
      (e, is, tale_entered words number opening t post more trail longer e ks tale (subst (λ xs. Moves e.1 e.2 xs ks) (sym at) moves) adds)

  pub heard_on :
      (m : Message) (told : Heard) (r : Option Message) → told.reply ≡ r → Moves (event.Hear m) (reply.Heard told) hs ks
      → Adds (record { heard = Some m; sent = told.reply }) → GoesOn (HeardSo m r) (node_value number hs trail) (node_value number ks longer) post more
  heard_on m told r same moves adds = goes_on (HeardSo m r) (0, event.Hear m, reply.Heard told) (told, refl, same) moves adds

  pub began_on :
      (h : HandlerId) (told : Option (Block × ℕ)) → Moves (event.Begin h) (reply.Began told) hs ks → Adds silent
      → GoesOn (BeganSo h) (node_value number hs trail) (node_value number ks longer) post more
  began_on h told moves adds = goes_on (BeganSo h) (0, event.Begin h, reply.Began told) (told, refl) moves adds

  pub ran_on :
      (h : HandlerId) (ran : Ran) → Moves (event.Finish h) (reply.Finished ran) hs ks → Adds silent
      → GoesOn (RanSo h) (node_value number hs trail) (node_value number ks longer) post more
  ran_on h ran moves adds = goes_on (RanSo h) (0, event.Finish h, reply.Finished ran) (ran, refl) moves adds

  pub opens_again :
      ((words : HandlerId → List ℕ) → ks ≡ map (reopened words) hs) → Adds silent
      → OpensAgain (node_value number hs trail) (node_value number ks longer) post more
  opens_again again adds words opening t at tale = (
    tale_reopened words number opening t post more trail longer tale adds,
    again words,
  )
