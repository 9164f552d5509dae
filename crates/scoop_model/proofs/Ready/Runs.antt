-- All that every event keeps, together: it holds of every world that is reached.
use Rattle.scoop_model.proofs.Names.{List, ap, subst, MayOpen, steps, IsReached, Run, Placement, Newcomer, opening, World, Event}
use Rattle.scoop_model.proofs.Events.{Changes, both_kept, steps_kept}
use Rattle.scoop_model.proofs.Order.{Ordered, joint_kept, AreApart}
use Rattle.scoop_model.proofs.Sound.{Sound}
use Rattle.scoop_model.proofs.Logging.{Logging, ToldMore, told_more_kept, opens_told_more}
use Rattle.scoop_model.proofs.Logging.Greetings.{Greetings}
use Rattle.scoop_model.proofs.Logging.Openings.{Openings}
use Rattle.scoop_model.proofs.Answering.{Answering, answering_kept, opens_answering}
use Rattle.scoop_model.proofs.Whole.{Taped, taped_kept, opens_taped}
use Rattle.scoop_model.proofs.Standing.{Standing, standing_kept, opens_standing}
use Rattle.scoop_model.proofs.Ready.Facts.{Ready}
use Rattle.scoop_model.proofs.Ready.Counts.{Counts, counts_kept, opens_counts}
use Rattle.scoop_model.proofs.Ready.Readiness as readiness

-- ---- all that every event keeps

-- of what ran and what was answered
abbrev Played : World → Type 0
Played w = Answering w × Taped w

-- the places of blocks, and what replies say of them
abbrev Placed : World → Type 0
Placed w = Standing w × Counts w

abbrev pub Kept : World → Type 0
Kept w = (ToldMore w × Played w) × (Placed w × AreApart w.joint)

-- the same by name
pub record Facts (w : World) : Type 0 where
  pub ordered : Ordered w
  pub sound : Sound w
  pub logging : Logging w
  pub greetings : Greetings w
  pub openings : Openings w
  pub answering : Answering w
  pub taped : Taped w
  pub standing : Standing w
  pub counts : Counts w
  pub once : AreApart w.joint

pub facts : (w : World) → Kept w → Facts w
facts w i = record {
  ordered = i.0.0.0.0.0;
  sound = i.0.0.0.0.1;
  logging = i.0.0.0.1;
  greetings = i.0.0.1.0;
  openings = i.0.0.1.1;
  answering = i.0.1.0;
  taped = i.0.1.1;
  standing = i.1.0.0;
  counts = i.1.0.1;
  once = i.1.1;
}

pub all_kept : (w : World) → Kept w → Changes Kept w
all_kept w i =
    let f = facts w i in
    both_kept (λ v. ToldMore v × Played v) (λ v. Placed v × AreApart v.joint) w
    (both_kept ToldMore Played w (told_more_kept w i.0.0)
    (both_kept Answering Taped w (answering_kept w f.ordered f.logging f.answering) (taped_kept w f.ordered f.sound f.logging f.taped)))
    (both_kept Placed (λ v. AreApart v.joint) w
    (both_kept Standing Counts w (standing_kept w f.ordered f.sound f.logging f.openings f.standing) (counts_kept w f.ordered f.openings f.counts))
    (joint_kept w f.once))

pub opens_kept : (ps : List Placement) (ns : List Newcomer) → MayOpen ps ns → Kept (opening ps ns)
opens_kept ps ns may = ((opens_told_more ps ns may, (opens_answering ps ns, opens_taped ps ns)), ((opens_standing ps ns, opens_counts ps ns), tt))

-- ---- so it is of every world that is reached

pub always_facts : (ps : List Placement) (ns : List Newcomer) (es : List Event) → MayOpen ps ns → Facts (steps (opening ps ns) es)
always_facts ps ns es may = facts (steps (opening ps ns) es) (steps_kept Kept all_kept (opening ps ns) es (opens_kept ps ns may))

-- the facts that each event keeps and an opening world has
pub reached_keeps :
    (P : World → Type 0) → ((w : World) → P w → Changes P w) → ((ps : List Placement) (ns : List Newcomer) → MayOpen ps ns → P (opening ps ns)) → (w : World)
    → IsReached w → P w
reached_keeps P each opens w r =
    let v : World = opening r.placements r.newcomers in
    subst P (ap (λ (x : Run). x.0) r.leads) (steps_kept P each v r.events (opens r.placements r.newcomers r.opens))

pub reached_facts : (w : World) → IsReached w → Facts w
reached_facts w r = facts w (reached_keeps Kept all_kept opens_kept w r)

pub facts_ready : (w : World) → Facts w → Ready w
facts_ready w f = readiness.ready w f.once f.ordered f.logging f.taped f.answering f.greetings f.openings f.standing f.counts

pub reached_ready : (w : World) → IsReached w → Ready w
reached_ready w r = facts_ready w (reached_facts w r)
