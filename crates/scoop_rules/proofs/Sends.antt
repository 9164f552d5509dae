-- A world with other sites and messages stands for the same configuration, if the same entries have run and the messages are quiet.
use Rattle.scoop_rules.proofs.Names.{◌≡◌, ℕ, ◌<◌, List, [], ◌++◌, Some, refl, sym, subst, arith, append-nil, Option, find, option_to_list, none-some}
use Rattle.scoop_rules.proofs.Names.{option_map_or, Message, Answer, Locked, Welcome, Opened, Logged, Busy, Unlocked, Block, HandlerId, Hearing, Row}
use Rattle.scoop_rules.proofs.Names.{first_greeting, newer_greeting, lock_granted, is_opened, unlock_of_a_block_never_held, is_freed, is_answered, is_taken}
use Rattle.scoop_rules.proofs.Names.{repeated_greeting, repeated_open, repeated_lock, already_received, Greeted, Ran, World, ran_at, Site, number_of, is_site}
use Rattle.scoop_rules.proofs.Names.{site_of, log_of, lock_refused, repeated_unlock, Ready, count_of, configuration_of, queue_at, queue_of, has_ended}
use Rattle.scoop_model.proofs.Names.{Mark, mark_of}
use Rattle.scoop_rules.proofs.Lists.{same_configuration, queues_same}
use Rattle.scoop_rules.proofs.Messages.{IsQuiet, IsPlain, told_seen, quiet_queue, plain_quiet, welcome_quiet, count_quiet}

-- the entries that have run at a handler of these sites
abbrev pub ran_in : HandlerId → List Site → List Ran
ran_in j sites = option_map_or (λ s. s.ran) (find (is_site j) sites) []

-- each message, if there is one, is quiet
abbrev pub IsQuietIfSome : List Message → Option Message → Type 0
IsQuietIfSome ms o = (m : Message) → o ≡ Some m → IsQuiet ms m

module _ (w : World) (sites : List Site) (o : Option Message) (same_ran : (j : HandlerId) → ran_in j sites ≡ ran_at j w) (quiet : IsQuietIfSome w.sent o) where
  -- the world with these sites and this common list, once the message is sent
  abbrev pub with_news : List Block → World
  with_news js = record w { sites = sites; sent = w.sent ++ option_to_list o; joint = js }

  same_told : (h : HandlerId) (b : Block) (rs : List Ran)
      → queue_of b (told_seen h b (log_of b h w) (count_of b rs) (has_ended b rs) (w.sent ++ option_to_list o))
      ≡ queue_of b (told_seen h b (log_of b h w) (count_of b rs) (has_ended b rs) w.sent)
  same_told h b rs = grind (arith, has_ended, append-nil, quiet_queue)

  pub same_queue : (js : List Block) (h : HandlerId) (b : Block) → queue_at (with_news js) h b ≡ queue_at w h b
  same_queue js h b = grind (arith, has_ended, same_told, ran_at)

  pub quiet_same : configuration_of w ≡ configuration_of (with_news w.joint)
  quiet_same =
      same_configuration (configuration_of w) (configuration_of (with_news w.joint))
      (λ h. sym (queues_same (queue_at (with_news w.joint) h) (queue_at w h) w.joint (λ b m. same_queue w.joint h b)))
      (λ h. sym (same_ran h)) refl (λ c. refl)

-- ---- what a handler replies

module _ (w : World) (s : Site) (here : site_of (number_of s) w ≡ Some s) (ready : Ready w) where
  plain_reply : (n : Message) → IsPlain n → IsQuietIfSome w.sent (Some n)
  plain_reply n plain m e = let same : n ≡ m = cc in subst (IsQuiet w.sent) same (plain_quiet w.sent n plain)

  -- a count of a block whose incarnation is the mark's
  count_reply :
      (b : Block) (k : Mark) (n : ℕ) → mark_of b.client s.core.state.marks ≡ Some k → k.inc ≡ b.inc → IsQuietIfSome w.sent (Some (Logged (number_of s) b n))
  count_reply b k n found inc m e =
      let same : Logged (number_of s) b n ≡ m = cc in
      subst (IsQuiet w.sent) same
      (count_quiet w.sent (number_of s) b n (λ newer. let l = (ready.marks (number_of s) s here).ahead b k newer found in absurd_place l inc))
    where
      absurd_place : b.inc < k.inc → k.inc ≡ b.inc → ⊥
      absurd_place l i = omega (arith, l, i)

  -- every reply is quiet but that to a first greeting of an incarnation
  pub quiet-row : (m : Message) (h : Hearing) → Row s.core.state m h → (h.1.note ≡ Greeted → ⊥) → IsQuietIfSome w.sent h.1.reply
  quiet-row m h (first_greeting x c inc at none room) old = absurd (old refl)
  quiet-row m h (newer_greeting x c inc k at found newer) old = absurd (old refl)
  quiet-row m h (repeated_greeting x c inc k at found same) old = λ n e.
      let is : Welcome (number_of s) c inc ≡ n = cc in
      subst (IsQuiet w.sent) is
      (welcome_quiet w.sent (number_of s) c inc (λ b own below. (ready.marks (number_of s) s here).greeted c k b found own
      (let i = same in omega (arith, below, i))))
  quiet-row m h (lock_granted x b k at heard new free clear) old = plain_reply (Locked (number_of s) b) (λ j y. (refl, refl))
  quiet-row m h (lock_refused x b k at heard new held) old = plain_reply (Busy (number_of s) b) (λ j y. (refl, refl))
  quiet-row m h (repeated_lock x b k at heard same held) old = plain_reply (Locked (number_of s) b) (λ j y. (refl, refl))
  quiet-row m h (is_opened x b k at heard same held room) old = plain_reply (Opened (number_of s) b) (λ j y. (refl, refl))
  quiet-row m h (repeated_open x b k at heard same opened) old = plain_reply (Opened (number_of s) b) (λ j y. (refl, refl))
  quiet-row m h (unlock_of_a_block_never_held x b k at heard new clear) old = plain_reply (Unlocked (number_of s) b) (λ j y. (refl, refl))
  quiet-row m h (is_freed x b k at heard same holds) old = plain_reply (Unlocked (number_of s) b) (λ j y. (refl, refl))
  quiet-row m h (repeated_unlock x b k at heard same other) old = plain_reply (Unlocked (number_of s) b) (λ j y. (refl, refl))
  quiet-row m h (is_answered x b n es k a at heard upto kept) old = plain_reply (Answer (number_of s) b _ a) (λ j y. (refl, refl))
  quiet-row m h (already_received x b n es k at heard upto none) old = count_reply b k _ heard.heard.found heard.heard.inc
  quiet-row m h (is_taken x b n es k at heard next goes_on room) old = count_reply b k _ heard.heard.found heard.heard.inc
  quiet-row m h r old = λ n e. absurd (none-some _ e)
