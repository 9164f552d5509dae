-- The invariant about a site: its slots fit its tape, blocks whose private queues are gone are whole, and messages report the
-- entries that were received. The file also shows its consequence for a world in order.
use Rattle.scoop_model.proofs.Names.{List, AllByRecursion, NoRepeats, all_both, MarksGrow-refl, Tape, WholeBeforeNext, World, Site, number_of}
use Rattle.scoop_model.proofs.Order.{SiteFits, Ordered}
use Rattle.scoop_model.proofs.Logging.{Grown}
use Rattle.scoop_model.proofs.Tape.{Slot, SiteTape, logs_at, grown_tape, site_tape_shown}
use Rattle.scoop_model.proofs.Whole.Sent.{TellsAlike}
use Rattle.scoop_model.proofs.Whole.Marks.{MarksTold, marks_alike}
use Rattle.scoop_model.proofs.Whole.Rows.{SlotsWhole, slots_moved}
use Rattle.scoop_model.proofs.Whole.Shown.{whole_shown}

pub record SiteTaped (w : World) (s : Site) : Type 0 where
  pub told : MarksTold w.sent (number_of s) s.core.state.marks
  pub slots : List Slot
  pub tape : SiteTape (logs_at w s) s slots
  pub whole : SlotsWhole w.sent (number_of s) s.core.state.marks slots

abbrev pub Taped : World → Type 0
Taped w = AllByRecursion (SiteTaped w) w.sites

-- a site stays, where messages tell nothing new of it and logs grow
pub site_more : (v w : World) (s : Site) → TellsAlike (number_of s) v.sent w.sent → Grown v w → SiteTaped v s → SiteTaped w s
site_more v w s alike grown f = record {
  told = marks_alike v.sent w.sent (number_of s) s.core.state.marks alike f.told;
  slots = f.slots;
  tape = grown_tape (logs_at v s) s f.slots f.tape (logs_at w s) (λ b. let g = grown b (number_of s) in record { behind = g.0; all = g.1 });
  whole = slots_moved v.sent w.sent (number_of s) s.core.state.marks s.core.state.marks f.slots alike (MarksGrow-refl s.core.state.marks) f.whole;
}

-- ---- what it shows

module _ (w : World) (once : NoRepeats w.joint) (o : Ordered w) (i : Taped w) where
  pub all_tapes : AllByRecursion (Tape w) w.sites
  all_tapes = all_both (SiteFits w.joint) (SiteTaped w) (Tape w) (λ s f t. site_tape_shown w s w.joint t.slots once f.left t.tape) w.sites o.sites i

  pub all_whole : AllByRecursion (WholeBeforeNext w) w.sites
  all_whole = all_both (SiteFits w.joint) (SiteTaped w) (WholeBeforeNext w)
      (λ s f t. whole_shown w s w.joint t.slots once f.left t.tape t.told t.whole) w.sites o.sites i
