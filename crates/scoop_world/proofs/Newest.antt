-- The newest block of a client that has heard a message.
use Rattle.std.proofs.Common.{◌≡◌, refl}
use Rattle.std.specs.Prelude.{if◌then◌else◌}
use Rattle.scoop_message.specs.declared.message.Message.{Message}
use Rattle.scoop_reserve.specs.declared.stage.Step.{Step}
use Rattle.scoop_reserve.specs.declared.stage.Step.TheVariants as step
use Rattle.scoop_reserve.specs.State.{ReservationState}
use Rattle.scoop_reserve.specs.Hearing.{is_gone}
use Rattle.scoop_reserve.specs.Hearing as reservation
use Rattle.scoop_client.specs.declared.phase.ClientNote.{ClientNote}
use Rattle.scoop_client.specs.State.{ClientState, with_windows, with_reservation, idle}
use Rattle.scoop_client.specs.Window.{all_over, acknowledged, at_window}
use Rattle.scoop_client.specs.Hearing.{heard, stepped, settled, after_step, up_to}
use Rattle.scoop_client.specs.Rows.{HeardRow, passed_over, is_welcomed, takes_step, is_acknowledged, is_accepted}
use Rattle.scoop_client.proofs.Rows.{heard_row}
use Rattle.scoop_model.specs.Step.{newest_block}
use Rattle.scoop_model.proofs.Basics.{by_test}

stepped_newest : (c : ClientState) (s : ReservationState) → newest_block (stepped c s) ≡ newest_block c
stepped_newest c s = by_test (λ t. newest_block (if t then idle c else with_reservation c s) ≡ newest_block c) (is_gone s) (λ over. refl) (λ on. refl)

step_newest : (c : ClientState) (s : ReservationState) (st : Step) → newest_block (after_step c s st).0 ≡ newest_block c
step_newest c s (step.Locked h) = stepped_newest c s
step_newest c s (step.Busy h) = stepped_newest c s
step_newest c s (step.Opened h) = stepped_newest c s
step_newest c s (step.Unlocked h) = stepped_newest c s
step_newest c s step.Ignored = refl

settled_newest : (c d : ClientState) → newest_block d ≡ newest_block c → newest_block (settled d) ≡ newest_block c
settled_newest c d e = by_test (λ t. newest_block (if t then idle d else d) ≡ newest_block c) (all_over d.windows) (λ over. e) (λ on. e)

row_newest : (c d : ClientState) (m : Message) (note : ClientNote) → HeardRow c m d note → newest_block d ≡ newest_block c
row_newest c d m note (passed_over n) = refl
row_newest c d m note (is_welcomed h left) = refl
row_newest c d m note (takes_step n r has_one) = step_newest c (reservation.heard r n).0 (reservation.heard r n).1
row_newest c d m note (is_acknowledged h n r l has_one opened window fresh_count) =
    settled_newest c (with_windows c (at_window h (acknowledged (up_to h n c.waits)) c.windows) c.waits) refl
row_newest c d m note (is_accepted h n a r has_one opened waits) = refl

pub heard_newest : (c : ClientState) (m : Message) → newest_block (heard c m).0 ≡ newest_block c
heard_newest c m = row_newest c (heard c m).0 m (heard c m).1 (heard_row c m)
