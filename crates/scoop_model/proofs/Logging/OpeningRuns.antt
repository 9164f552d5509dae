-- Whatever happens, messages tell who has greeted whom and where blocks have opened, and only a block of the common
-- list has entries.
use Rattle.scoop_model.proofs.Names.{◌≡◌, List, [], Some, arith, true, false, true≢false, option_map_or, Block, ClientId, HandlerId, all_found, is_open}
use Rattle.scoop_model.proofs.Names.{ReservationState, MayOpen, Placement, Newcomer, opening, World, Party, has_block, log_of, party_of}
use Rattle.scoop_model.proofs.Events.{Changes, both_kept}
use Rattle.scoop_model.proofs.Order.{Ordered, ordered_kept, opens_ordered}
use Rattle.scoop_model.proofs.Sound.{Sound, sound_kept, opens_sound}
use Rattle.scoop_model.proofs.Tape.{left_without}
use Rattle.scoop_model.proofs.Logging.Facts.{Logging}
use Rattle.scoop_model.proofs.Logging.Steps.{logging_kept, opens_logging, openings_kept, opens_openings}
use Rattle.scoop_model.proofs.Logging.Greetings.{Greetings, greetings_kept, opens_greetings}
use Rattle.scoop_model.proofs.Logging.Openings.{IsOpenedAt, IsOpenedAtAll, Openings}
use Rattle.scoop_model.proofs.Logging.OpeningClients.{opened_at_all, unlocking_is}

-- ---- what openings say of a world

-- a block that opened at a handler is in the common list
opened_joint : (w : World) → Ordered w → (h : HandlerId) (b : Block) → IsOpenedAt w h b → has_block w.joint b ≡ false → ⊥
opened_joint w o h b e none = grind (arith, all_found, has_block, option_map_or, true≢false, left_without)

-- a block that isn't in the common list has empty logs
pub unjoined_empty : (w : World) → Ordered w → Openings w → (b : Block) → has_block w.joint b ≡ false → (h : HandlerId) → log_of b h w ≡ []
unjoined_empty w o i b none h = grind (arith, opened_joint)

-- a client whose reservation is opened at all has opened it at each of its handlers
pub running_opened : (w : World) → Ordered w → Logging w → Openings w → (c : ClientId) (p : Party) → party_of c w ≡ Some p → (r : ReservationState)
    → p.client.reservation ≡ Some r → is_open r ≡ true → IsOpenedAtAll w r.block
running_opened w o l i c p at r held opened = opened_at_all w o l i c p at r held (unlocking_is r.stage opened)

-- ---- any event

-- in order, sound, as logged, as greeted and as opened
abbrev pub ToldMore : World → Type 0
ToldMore w = ((Ordered w × Sound w) × Logging w) × (Greetings w × Openings w)

pub told_more_kept : (w : World) → ToldMore w → Changes ToldMore w
told_more_kept w i =
    let o = i.0.0.0 in
    let sound = i.0.0.1 in
    both_kept (λ v. (Ordered v × Sound v) × Logging v) (λ v. Greetings v × Openings v) w
    (both_kept (λ v. Ordered v × Sound v) Logging w (both_kept Ordered Sound w (ordered_kept w o) (sound_kept w o sound)) (logging_kept w o sound i.0.1))
    (both_kept Greetings Openings w (greetings_kept w o i.1.0) (openings_kept w o sound i.0.1 i.1.1))

pub opens_told_more : (ps : List Placement) (ns : List Newcomer) → MayOpen ps ns → ToldMore (opening ps ns)
opens_told_more ps ns may =
    (((opens_ordered ps ns, opens_sound ps ns may), opens_logging ps ns), (opens_greetings ps ns, opens_openings ps ns))
