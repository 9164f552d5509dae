use Rattle.std.proofs.Common.{refl}
use Rattle.scoop_images.proofs.Stored.{same_state}
use Rattle.scoop_record.proofs.StoredLemmas.{missing_one, held_one, none_there, lone}
use Rattle.scoop_record.proofs.handlers.state_of.Goals as goal

-- src/handlers.rt:112:1
pub returns-in-Ok-clause-loaded : goal.returns-in-Ok-clause-loaded
returns-in-Ok-clause-loaded c = held_one c.args.handler _ _ c.in-Ok.state c.in-Ok.ensures.ok
    (λ t is. same_state c.args.handler _ _ t c.in-Ok.state is c.in-Ok.ensures.ok) _ _ (rw (c.in-Some.is, c.as_slice.ensures.value) refl)
    (rw (c.in-Some-entries.is, c.as_slice-2.ensures.value) refl)

pub returns-in_default-clause-loaded : goal.returns-in_default-clause-loaded
returns-in_default-clause-loaded c = missing_one c.args.handler.0 _ _ (rw c.in_default.is refl)

pub returns-in_default-entries-clause-bad : goal.returns-in_default-entries-clause-bad
returns-in_default-entries-clause-bad c told = lone c.args.handler.0 c.in-Some.image.items _ _ (rw c.in-Some.is refl) (rw c.in_default-entries.is refl)

pub returns-in-Err-BadImage-clause-bad : goal.returns-in-Err-BadImage-clause-bad
returns-in-Err-BadImage-clause-bad c told =
    none_there c.args.handler _ _ (c.in-Err-BadImage.ensures.bad c.in-Err-BadImage.field-0-is) _ _ (rw (c.in-Some.is, c.as_slice.ensures.value) refl)
    (rw (c.in-Some-entries.is, c.as_slice-2.ensures.value) refl)
