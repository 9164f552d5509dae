-- `==` on the states of private queues: it decides whether they are the same.
use Rattle.std.proofs.Common.{◌≡◌, refl}
use Rattle.std.specs.Bool.{Decides}
use Rattle.scoop_queue.specs.declared.state.QueueState.{QueueState}
use Rattle.scoop_queue.specs.declared.state.QueueState.TheVariants.{Open, Ended, Cut}
use Rattle.scoop_queue.specs.contracts.state.QueueStatePartialEq.TheImpl as on_state

pub state_decides : (s t : QueueState) → Decides (on_state.eq-value.it s t) (s ≡ t)
state_decides Open Open = ((λ e. refl), (λ e. refl))
state_decides Open Ended = ((λ e. cc), (λ e. cc))
state_decides Open Cut = ((λ e. cc), (λ e. cc))
state_decides Ended Open = ((λ e. cc), (λ e. cc))
state_decides Ended Ended = ((λ e. refl), (λ e. refl))
state_decides Ended Cut = ((λ e. cc), (λ e. cc))
state_decides Cut Open = ((λ e. cc), (λ e. cc))
state_decides Cut Ended = ((λ e. cc), (λ e. cc))
state_decides Cut Cut = ((λ e. refl), (λ e. refl))
