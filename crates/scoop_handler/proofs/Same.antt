-- `==` on this crate's data: it decides whether two values are the same.
use Rattle.std.proofs.Common.{◌≡◌, ◌&&◌, ◌==◌, Bool, ℕ, Option, Some, None, ap, refl}
use Rattle.std.proofs.lemmas.Bool.Decides.{Decides-like, Decides-eqb}
use Rattle.std.specs.Bool.{Decides}
use Rattle.std.specs.Cmp.{booleans_Decides}
use Rattle.std.specs.Option.{option_eq}
use Rattle.scoop_message.specs.declared.name.ClientId.{ClientId}
use Rattle.scoop_message.specs.declared.name.Block.{Block}
use Rattle.scoop_message.specs.declared.request.Entry.{Entry}
use Rattle.scoop_message.specs.declared.request.Answer.{Answer}
use Rattle.scoop_message.specs.declared.message.Message.{Message}
use Rattle.scoop_message.specs.contracts.request.AnswerPartialEq.TheImpl as on_answer
use Rattle.scoop_message.proofs.Same.{pair, pair_decides, client_decides, block_decides, entry_decides, answer_decides, message_decides}
use Rattle.scoop_handler.specs.declared.mark.Mark.{Mark}
use Rattle.scoop_handler.specs.declared.mark.Stage.{Stage}
use Rattle.scoop_handler.specs.declared.mark.Stage.TheVariants.{Held as AtHeld, Open as AtOpen, Shut as AtShut}
use Rattle.scoop_handler.specs.declared.note.Heard.{Heard}
use Rattle.scoop_handler.specs.declared.note.Note.{Note}
use Rattle.scoop_handler.specs.declared.note.Note.TheVariants.{Greeted, Granted, Held, Opened, Freed, Took, Known, Dropped}
use Rattle.scoop_handler.specs.declared.note.Reason.{Reason}
use Rattle.scoop_handler.specs.declared.note.Reason.TheVariants.{NotForHandlers, WrongHandler, TooManyClients, Stale, Ungreeted, NotHolder, QueueFull, NotOpen}
use Rattle.scoop_handler.specs.declared.note.Reason.TheVariants.{Gap, PendingFull}
use Rattle.scoop_handler.specs.declared.ran.Ran.{Ran}
use Rattle.scoop_handler.specs.contracts.mark.StagePartialEq.TheImpl as on_stage
use Rattle.scoop_handler.specs.contracts.mark.MarkPartialEq.TheImpl as on_mark
use Rattle.scoop_handler.specs.contracts.note.ReasonPartialEq.TheImpl as on_reason
use Rattle.scoop_handler.specs.contracts.note.NotePartialEq.TheImpl as on_note
use Rattle.scoop_handler.specs.contracts.note.HeardPartialEq.TheImpl as on_heard
use Rattle.scoop_handler.specs.contracts.ran.RanPartialEq.TheImpl as on_ran

pub option_decides : {A : Type 0} (same : A → A → Bool) → ((a b : A) → Decides (same a b) (a ≡ b)) → (x y : Option A) → Decides (option_eq same x y) (x ≡ y)
option_decides same each None None = ((λ e. refl), (λ e. refl))
option_decides same each None (Some y) = ((λ e. cc), (λ e. cc))
option_decides same each (Some x) None = ((λ e. cc), (λ e. cc))
option_decides same each (Some x) (Some y) = Decides-like _ (ap Some) (λ e. cc) (each x y)

-- ---- marks

pub stage_decides : (a b : Stage) → Decides (on_stage.eq-value.it a b) (a ≡ b)
stage_decides AtHeld AtHeld = ((λ e. refl), (λ e. refl))
stage_decides AtHeld AtOpen = ((λ e. cc), (λ e. cc))
stage_decides AtHeld AtShut = ((λ e. cc), (λ e. cc))
stage_decides AtOpen AtHeld = ((λ e. cc), (λ e. cc))
stage_decides AtOpen AtOpen = ((λ e. refl), (λ e. refl))
stage_decides AtOpen AtShut = ((λ e. cc), (λ e. cc))
stage_decides AtShut AtHeld = ((λ e. cc), (λ e. cc))
stage_decides AtShut AtOpen = ((λ e. cc), (λ e. cc))
stage_decides AtShut AtShut = ((λ e. refl), (λ e. refl))

abbrev Kept : Type 0
Kept = ℕ × Answer

kept_decides : (a b : Kept) → Decides (a.0 == b.0 && on_answer.eq-value.it a.1 b.1) (a ≡ b)
kept_decides a b = pair_decides a.0 b.0 a.1 b.1 (Decides-eqb a.0 b.0) (answer_decides a.1 b.1)

abbrev MarkFields : Type 0
MarkFields = ClientId × (ℕ × (ℕ × (Stage × (ℕ × (Bool × Option Kept)))))

abbrev mark_fields : Mark → MarkFields
mark_fields k = pair k.client (pair k.inc (pair k.num (pair k.stage (pair k.received (pair k.ended k.kept)))))

abbrev mark_of_fields : MarkFields → Mark
mark_of_fields t =
    record { client = t.0; inc = t.1.0; num = t.1.1.0; stage = t.1.1.1.0; received = t.1.1.1.1.0; ended = t.1.1.1.1.1.0; kept = t.1.1.1.1.1.1 }

pub mark_decides : (a b : Mark) → Decides (on_mark.eq-value.it a b) (a ≡ b)
mark_decides a b =
    Decides-like _ (ap mark_of_fields) (ap mark_fields)
    (pair_decides a.client b.client _ _ (client_decides a.client b.client)
    (pair_decides a.inc b.inc _ _ (Decides-eqb a.inc b.inc)
    (pair_decides a.num b.num _ _ (Decides-eqb a.num b.num)
    (pair_decides a.stage b.stage _ _ (stage_decides a.stage b.stage)
    (pair_decides a.received b.received _ _ (Decides-eqb a.received b.received)
    (pair_decides a.ended b.ended a.kept b.kept (booleans_Decides a.ended b.ended) (option_decides _ kept_decides a.kept b.kept)))))))

-- ---- what was heard

pub reason_decides : (a b : Reason) → Decides (on_reason.eq-value.it a b) (a ≡ b)
reason_decides NotForHandlers NotForHandlers = ((λ e. refl), (λ e. refl))
reason_decides NotForHandlers b = ((λ e. cc), (λ e. cc))
reason_decides WrongHandler WrongHandler = ((λ e. refl), (λ e. refl))
reason_decides WrongHandler b = ((λ e. cc), (λ e. cc))
reason_decides TooManyClients TooManyClients = ((λ e. refl), (λ e. refl))
reason_decides TooManyClients b = ((λ e. cc), (λ e. cc))
reason_decides Stale Stale = ((λ e. refl), (λ e. refl))
reason_decides Stale b = ((λ e. cc), (λ e. cc))
reason_decides Ungreeted Ungreeted = ((λ e. refl), (λ e. refl))
reason_decides Ungreeted b = ((λ e. cc), (λ e. cc))
reason_decides NotHolder NotHolder = ((λ e. refl), (λ e. refl))
reason_decides NotHolder b = ((λ e. cc), (λ e. cc))
reason_decides QueueFull QueueFull = ((λ e. refl), (λ e. refl))
reason_decides QueueFull b = ((λ e. cc), (λ e. cc))
reason_decides NotOpen NotOpen = ((λ e. refl), (λ e. refl))
reason_decides NotOpen b = ((λ e. cc), (λ e. cc))
reason_decides Gap Gap = ((λ e. refl), (λ e. refl))
reason_decides Gap b = ((λ e. cc), (λ e. cc))
reason_decides PendingFull PendingFull = ((λ e. refl), (λ e. refl))
reason_decides PendingFull b = ((λ e. cc), (λ e. cc))

pub note_decides : (a b : Note) → Decides (on_note.eq-value.it a b) (a ≡ b)
note_decides Greeted Greeted = ((λ e. refl), (λ e. refl))
note_decides Greeted b = ((λ e. cc), (λ e. cc))
note_decides Granted Granted = ((λ e. refl), (λ e. refl))
note_decides Granted b = ((λ e. cc), (λ e. cc))
note_decides Held Held = ((λ e. refl), (λ e. refl))
note_decides Held b = ((λ e. cc), (λ e. cc))
note_decides (Opened x) (Opened y) = Decides-like _ (ap Opened) (λ e. cc) (block_decides x y)
note_decides (Opened x) b = ((λ e. cc), (λ e. cc))
note_decides Freed Freed = ((λ e. refl), (λ e. refl))
note_decides Freed b = ((λ e. cc), (λ e. cc))
note_decides (Took m) (Took n) = Decides-like _ (ap Took) (λ e. cc) (Decides-eqb m n)
note_decides (Took m) b = ((λ e. cc), (λ e. cc))
note_decides Known Known = ((λ e. refl), (λ e. refl))
note_decides Known b = ((λ e. cc), (λ e. cc))
note_decides (Dropped v) (Dropped w) = Decides-like _ (ap Dropped) (λ e. cc) (reason_decides v w)
note_decides (Dropped v) b = ((λ e. cc), (λ e. cc))

abbrev heard_of_fields : Option Message × Note → Heard
heard_of_fields t = record { reply = t.0; note = t.1 }

pub heard_decides : (a b : Heard) → Decides (on_heard.eq-value.it a b) (a ≡ b)
heard_decides a b =
    Decides-like _ (ap heard_of_fields) (ap (λ (h : Heard). pair h.reply h.note))
    (pair_decides a.reply b.reply a.note b.note (option_decides _ message_decides a.reply b.reply) (note_decides a.note b.note))

-- ---- what has run

abbrev ran_fields : Ran → Block × (ℕ × (Entry × Option Answer))
ran_fields r = pair r.block (pair r.number (pair r.entry r.answer))

abbrev ran_of_fields : Block × (ℕ × (Entry × Option Answer)) → Ran
ran_of_fields t = record { block = t.0; number = t.1.0; entry = t.1.1.0; answer = t.1.1.1 }

pub ran_decides : (a b : Ran) → Decides (on_ran.eq-value.it a b) (a ≡ b)
ran_decides a b =
    Decides-like _ (ap ran_of_fields) (ap ran_fields)
    (pair_decides a.block b.block _ _ (block_decides a.block b.block)
    (pair_decides a.number b.number _ _ (Decides-eqb a.number b.number)
    (pair_decides a.entry b.entry a.answer b.answer (entry_decides a.entry b.entry) (option_decides _ answer_decides a.answer b.answer))))
