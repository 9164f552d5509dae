-- Two handlers' private queues that differ in one alone.
use Rattle.std.specs.Prelude.{◌≡◌, ℕ, zero, suc, List, [], ◌∷◌}
use Rattle.scoop_queue.specs.Queue.{PrivateQueue}

-- they are as many, of one block at this place, and the same at each other place
abbrev pub AgreeBut : ℕ → (left right : List PrivateQueue) → Type 0
AgreeBut i [] right = ⊥
AgreeBut i (q ∷ qs) [] = ⊥
AgreeBut zero (q ∷ qs) (r ∷ rs) = (q.block ≡ r.block) × (qs ≡ rs)
AgreeBut (suc i) (q ∷ qs) (r ∷ rs) = (q ≡ r) × AgreeBut i qs rs
