-- A handler's move keeps the answers right. When an entry runs, its answer is the object's after the entries before it. The mark keeps
-- the answer if the entry is a query of the mark's block, and an Answer that is sent as a reply is the kept one. Hearing runs
-- nothing. A restarted node has the words that were stored with the entries that ran.
use Rattle.scoop_model.proofs.Names.{◌≡◌, ℕ, List, [], map, Some, None, refl, sym, ap, ◌∙◌, subst, arith, Option, find, option_map, AllByRecursion}
use Rattle.scoop_model.proofs.Names.{option_map_or, pair, Message, Block, HandlerId, ObjectAnswer, ClassTable, play, entry_effect, job-first, job-front}
use Rattle.scoop_model.proofs.Names.{all_found, number-row, words-row, row, Core, Hearing, hear, Task, ran_of, job_out, Ran, by_site, site_put, HasRun}
use Rattle.scoop_model.proofs.Names.{entries_of, heard_world, heard_site, with_site, begun_site, finished_site, reopened, reopened_world, World, ran_at, Site}
use Rattle.scoop_model.proofs.Names.{number_of, is_site, site_of, set_site, own_site}
use Rattle.scoop_model.proofs.Order.{SiteFits, Ordered, all_pushed, all_set_site, by_restart, all_anew, found_anew}
use Rattle.scoop_model.proofs.Answering.Objects.{play_pushed, answers_pushed}
use Rattle.scoop_model.proofs.Answering.Kept.{TellsRan, has_run_more, keeps-row, tells_ran-row, keeps_ran}
use Rattle.scoop_model.proofs.Answering.Facts.{TellsAnswer, SiteAnswers, Answering, messages_more, parties_answer_more, RanStays}

-- ---- the sites of a world, once one of them goes on

abbrev ran_of_site : Option Site → List Ran
ran_of_site o = option_map_or (λ s. s.ran) o []

module _ (w : World) (s old : Site) (here : site_of (number_of s) w ≡ Some old)
    (more : (b : Block) (n : ℕ) (a : ObjectAnswer) → HasRun old.ran b n a → HasRun s.ran b n a) where
  ran_stays :
      (h : HandlerId) (b : Block) (n : ℕ) (a : ObjectAnswer) → HasRun (ran_at h w) b n a → HasRun (ran_of_site (find (is_site h) (set_site s w.sites))) b n a
  ran_stays h b n a r =
      by_site (λ o. HasRun (ran_of_site o) b n a) w s old h here
      (λ same.
      let found : site_of h w ≡ Some old = ap (λ j. site_of j w) (sym same) ∙ here in
      more b n a (subst (λ o. HasRun (ran_of_site o) b n a) found r))
      (λ apart. r)

  site_goes_on : (ms : List Message) (js : List Block) → Answering w → SiteAnswers s
      → ((v : World) → site_of (number_of s) v ≡ Some s → AllByRecursion (TellsAnswer v) w.sent → AllByRecursion (TellsAnswer v) ms)
      → Answering (record w { sites = set_site s w.sites; sent = ms; joint = js })
  site_goes_on ms js i fits tells =
      let v : World = record w { sites = set_site s w.sites; sent = ms; joint = js } in
      record {
        messages = tells v (site_put w s old here) (messages_more w v ran_stays w.sent i.messages);
        sites = all_set_site SiteAnswers SiteAnswers s w.sites fits (λ x f. f) i.sites;
        parties = parties_answer_more w v ran_stays w.parties i.parties;
      }

-- ---- a handler hears

-- the claim of a reply
reply_tells :
    (v : World) (h : HandlerId) (rs : List Ran) (o : Option Message) → ran_at h v ≡ rs → TellsRan rs h o → (m : Message) → o ≡ Some m → TellsAnswer v m
reply_tells v h rs None at t m e = absurd (cc)
reply_tells v h rs (Some r) at t m e = grind (arith, ran_at)

-- the task of a job that is out has the class of its handler, and the words that these are
job_object : (c : Core) (t : Task) {words : List ℕ} → job_out c ≡ Some t → c.state.words ≡ words → pair t.class t.words ≡ pair c.class words
job_object c t {words} is same = grind (arith, job-first, job-front, option_map)

module _ (w : World) (i : Answering w) (h : HandlerId) (s : Site) (found : site_of h w ≡ Some s) where
  place : site_of (number_of s) w ≡ Some s
  place = own_site w h s found

  site_answers : SiteAnswers s
  site_answers = all_found SiteAnswers (is_site h) w.sites s i.sites found

  pub hears_answering : (m : Message) → Answering (heard_world w s (hear s.core.state m))
  hears_answering m =
      let st = s.core.state in
      let now : Hearing = hear st m in
      let r = row st m in
      let f = site_answers in
      let new : Site = heard_site s now in
      let number : now.0.number ≡ number_of s = number-row st m now r in
      let still : site_of now.0.number w ≡ Some s = subst (λ j. site_of j w ≡ Some s) (sym number) place in
      site_goes_on w new s still (λ b n a ran. ran) _ _ i
      (record { words = words-row st m now r ∙ f.words; answers = f.answers; kept = keeps-row s.ran st f.kept m now r })
      (λ v there all. all_pushed (TellsAnswer v) w.sent now.1.reply all
      (reply_tells v (number_of s) s.ran now.1.reply (ap ran_of_site (subst (λ j. site_of j v ≡ Some new) number there))
      (tells_ran-row s.ran st f.kept m now r)))

  -- ---- an entry runs

  pub begins_answering : Answering (with_site w (begun_site s))
  begins_answering = let f = site_answers in site_goes_on w (begun_site s) s place (λ b n a ran. ran) w.sent w.joint i
      (record { words = f.words; answers = f.answers; kept = f.kept }) (λ v there all. all)

  pub finishes_answering : (t : Task) → job_out s.core ≡ Some t → Answering (with_site w (finished_site s t))
  finishes_answering t is =
      let f = site_answers in
      let r = ran_of t in
      let class : ClassTable = s.core.class in
      -- the task runs on what the entries before it made
      let effect : entry_effect t.class t.words t.entry ≡ entry_effect class (play class s.placed (entries_of s.ran)) t.entry =
      ap (λ (x : ClassTable × List ℕ). entry_effect x.0 x.1 t.entry) (job_object s.core t is f.words) in
      site_goes_on w (finished_site s t) s place (has_run_more s.ran r) w.sent w.joint i
      (record {
        words = ap (λ x. x.0) effect ∙ sym (play_pushed class s.placed s.ran r);
        answers = answers_pushed class s.placed s.ran r f.answers (ap (λ x. x.1) effect);
        kept = keeps_ran s.ran r s.core.state.marks f.kept;
      })
      (λ v there all. all)

-- ---- a node restarts

module _ (js : List Block) (n : ℕ) where
  pub ran_anew : (h : HandlerId) (xs : List Site) → AllByRecursion (SiteFits js) xs
      → ran_of_site (find (is_site h) (map (reopened n) xs)) ≡ ran_of_site (find (is_site h) xs)
  ran_anew h xs all =
      found_anew js n (λ o. ran_of_site o ≡ ran_of_site (find (is_site h) xs)) h
      (λ x f same. by_restart js n (λ y. y.ran ≡ ran_of_site (find (is_site h) xs)) x f same same) xs all refl

  answers_anew : (x : Site) → SiteFits js x → SiteAnswers x → SiteAnswers (reopened n x)
  answers_anew x f g = by_restart js n SiteAnswers x f (record { words = g.words; answers = g.answers; kept = g.kept }) g

pub reopens_answering : (w : World) → Ordered w → Answering w → (n : ℕ) → Answering (reopened_world w n)
reopens_answering w o i n =
    let v : World = reopened_world w n in
    let stays : RanStays w v = λ h b q a r. subst (λ rs. HasRun rs b q a) (sym (ran_anew w.joint n h w.sites o.sites)) r in
    record {
      messages = messages_more w v stays w.sent i.messages;
      sites = all_anew w.joint n SiteAnswers SiteAnswers (answers_anew w.joint n) w.sites o.sites i.sites;
      parties = parties_answer_more w v stays w.parties i.parties;
    }
