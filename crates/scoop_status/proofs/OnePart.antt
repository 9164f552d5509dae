-- One part more of a handler is shown.
use Rattle.std.proofs.Common.{◌≡◌, ℕ, zero, suc, ◌+◌, List, [], ◌∷◌, ◌++◌, map, take, slice_get, Some, refl, ap, ◌∙◌}
use Rattle.std.proofs.lemmas.List.{take_more, map-append}
use Rattle.std.proofs.lemmas.Option.{slice_get_within, get_or_from_slice_get, none-some}
use Rattle.scoop_queue.specs.Queue.{PrivateQueue, head_at, head_of, pending}
use Rattle.scoop_queue.specs.declared.state.Head.{Head}
use Rattle.scoop_status.specs.Shown.{head_view, queue_view}

pub mapped_more : {X Y : Type 0} (f : X → Y) (xs : List X) (i : ℕ) (x : X) → slice_get xs i ≡ Some x → map f (take (i + 1) xs) ≡ map f (take i xs) ++ f x ∷ []
mapped_more f xs i x at =
    ap (map f) (take_more xs i x (slice_get_within xs i x at) ∙ ap (λ y. take i xs ++ y ∷ []) (get_or_from_slice_get xs i x x at))
    ∙ map-append f (take i xs) (x ∷ [])

-- a private queue by its head
record QueueAt (qs : List PrivateQueue) (i : ℕ) (h : Head) : Type 0 where
  queue : PrivateQueue
  there : slice_get qs i ≡ Some queue
  head : head_of queue ≡ h

queue_at : (qs : List PrivateQueue) (i : ℕ) (h : Head) → head_at i qs ≡ Some h → QueueAt qs i h
queue_at [] i h at = absurd (none-some h at)
queue_at (q ∷ qs) zero h at = record { queue = q; there = refl; head = cc }
queue_at (q ∷ qs) (suc i) h at =
    let k = queue_at qs i h at in record { queue = k.queue; there = k.there; head = k.head }

pub queues_more : (all qs : List PrivateQueue) (i : ℕ) (h : Head) → head_at i qs ≡ Some h
    → map (queue_view all) (take (i + 1) qs) ≡ map (queue_view all) (take i qs) ++ head_view h (pending h.block all) ∷ []
queues_more all qs i h at =
    let k = queue_at qs i h at in
    mapped_more (queue_view all) qs i k.queue k.there
    ∙ ap (λ (g : Head). map (queue_view all) (take i qs) ++ head_view g (pending g.block all) ∷ []) k.head
