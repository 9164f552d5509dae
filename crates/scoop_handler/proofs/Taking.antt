-- A handler that takes another state.
use Rattle.std.proofs.Common.{◌≡◌, ℕ, true, IsTrue, List, ◌++◌, length, take, drop, Option, Some, None, is_some, refl, sym, ap, ◌∙◌, subst}
use Rattle.std.proofs.Common.{true≢false}
use Rattle.std.specs.Option.{option_map}
use Rattle.std.proofs.lemmas.Option.{none-some, same_Some}
use Rattle.scoop_message.specs.declared.name.Block.{Block}
use Rattle.scoop_message.specs.declared.request.Entry.{Entry}
use Rattle.scoop_queue.specs.Queue.{front}
use Rattle.std.proofs.Math.Seq.{take-append_seam}
use Rattle.scoop_handler.specs.declared.mark.Mark.{Mark}
use Rattle.scoop_handler.specs.Marks.{set_mark}
use Rattle.scoop_handler.specs.State.{HandlerState, IsState}
use Rattle.scoop_handler.specs.Core.{Core, IsCore, with_state}
use Rattle.scoop_handler.specs.Running.{Task, MayReset, first_task, job_out, task_of}
use Rattle.scoop_handler.proofs.MarkLists.{length-set_mark}

out-first : (c : Core) → c.out ≡ true → job_out c ≡ first_task c
out-first c out = rw out refl

-- with a job out both states have the same first task
same-first : (c : Core) (s : HandlerState) → MayReset s c → c.out ≡ true → first_task (with_state s c) ≡ first_task c
same-first c s may out = sym (out-first (with_state s c) out) ∙ may.job ∙ out-first c out

-- two handlers with the same first task, if there is one
abbrev AreAlike : Core → Core → Type 0
AreAlike d c = (d.state.words ≡ c.state.words) × IsTrue (is_some (front d.state.queues))

alike : (d c : Core) → first_task d ≡ first_task c → IsTrue (is_some (front c.state.queues)) → AreAlike d c
alike d c same some = by (front c.state.queues) refl (front d.state.queues) refl
  where
    by : (f : Option (Block × ℕ × Entry)) → front c.state.queues ≡ f → (e : Option (Block × ℕ × Entry)) → front d.state.queues ≡ e → AreAlike d c
    by None none e is = absurd (true≢false (sym (rw none at some)))
    by (Some f) there None is =
        let none : None ≡ Some (task_of c f) = sym (ap (option_map (task_of d)) is) ∙ same ∙ ap (option_map (task_of c)) there in
        absurd (none-some _ none)
    by (Some f) there (Some e) is =
        let both : Some (task_of d e) ≡ Some (task_of c f) = sym (ap (option_map (task_of d)) is) ∙ same ∙ ap (option_map (task_of c)) there in
        (ap (λ (t : Task). t.words) (same_Some (task_of d e) (task_of c f) both), rw is refl)

pub reset-alike : (c : Core) (s : HandlerState) → IsCore c → MayReset s c → c.out ≡ true → AreAlike (with_state s c) c
reset-alike c s sound may out = alike (with_state s c) c (same-first c s may out) (sound.job out)

pub reset-words : (c : Core) (s : HandlerState) → IsCore c → MayReset s c → c.out ≡ true → c.state.words ≡ s.words
reset-words c s sound may out = sym (reset-alike c s sound may out).0

pub IsCore-reset : (c : Core) (s : HandlerState) → IsCore c → IsState s → MayReset s c → IsCore (with_state s c)
IsCore-reset c s sound given may = record {
  state = given;
  words = may.words;
  job = λ out. (reset-alike c s sound may out).1;
}

-- marks that were written in place, as many as there were
pub written-marks : (n : ℕ) (k : Mark) (was now then : List Mark) → length now ≡ n → now ≡ was → then ≡ set_mark k now
    → take n (then ++ drop (length then) was) ≡ set_mark k was
written-marks n k was now then counted same put =
    let length_then : length then ≡ n = ap length put ∙ (length-set_mark k now ∙ counted) in
    subst (λ i. take i (then ++ drop (length then) was) ≡ set_mark k was) length_then
    (take-append_seam then (drop (length then) was) ∙ (put ∙ ap (set_mark k) same))
