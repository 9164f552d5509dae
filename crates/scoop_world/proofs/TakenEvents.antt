-- A world after an event at one of its parts. The code changes one item of a list in its place, and stores it. The
-- definitions put the item in place of the one with its key. As keys don't repeat, both make the same world, and the
-- keeper has all of it again. There is one lemma for each kind of event.
use Rattle.std.proofs.Common.{◌≡◌, ℕ, ◌+◌, ◌<◌, ◌==◌, ◌-◌, ◌^◌, true, false, List, [], ◌∷◌, ◌++◌, map, length, set, get_or, slice_get, Option, Some, None, refl}
use Rattle.std.proofs.Common.{sym, ap, ◌∙◌, subst}
use Rattle.std.specs.Prelude.{Ok, Err, IsOk, option_to_list, if◌then◌else◌}
use Rattle.std.specs.Result.{is_ok}
use Rattle.scoop_message.specs.declared.name.Block.{Block}
use Rattle.scoop_message.specs.declared.name.HandlerId.{HandlerId}
use Rattle.scoop_message.specs.declared.name.ClientId.{ClientId}
use Rattle.scoop_message.specs.declared.message.Message.{Message}
use Rattle.scoop_message.specs.Message.{handler_of, client_of}
use Rattle.std.specs.Option.{option_map, IsSome}
use Rattle.std.proofs.lemmas.Option.{same_Some}
use Rattle.scoop_handler.specs.declared.ran.Ran.{Ran}
use Rattle.scoop_handler.specs.declared.note.Heard.{Heard}
use Rattle.scoop_handler.specs.Hearing.{hear}
use Rattle.scoop_handler.specs.Running.{Task, ready, job_out, ran_of}
use Rattle.scoop_client.specs.Due.{due}
use Rattle.scoop_client.specs.Hearing.{heard}
use Rattle.scoop_client.specs.declared.command.Command.{Command}
use Rattle.scoop_model.specs.declared.note.WorldNote.TheVariants as note
use Rattle.scoop_model.specs.declared.error.WorldError.{WorldError}
use Rattle.scoop_model.specs.declared.error.WorldError.TheVariants.{NoSuchMessage, NoSuchParty, NothingToRun, ClientRefused, IncarnationsSpent, OutOfMemory}
use Rattle.scoop_model.specs.World.{World, Site, Party, BlockLog, number_of, id_of, is_site, is_party, site_of, party_of, set_site, set_party}
use Rattle.scoop_model.specs.Step.{Stepped, sent_or_silent, tick_at, newest_block, logs_after, do_at, newly_opened, joined, heard_site, taken_by_handler}
use Rattle.scoop_model.specs.Step.{heard_party, taken_by_client, with_party, begun_site, begins, begin_at, finished_site, finishes, finish_at, restarted_party}
use Rattle.scoop_model.specs.Step.{restart_client, reopened, restart_node}
use Rattle.scoop_model.specs.Reach.{IsReached}
use Rattle.scoop_message.specs.Lists.{NoRepeats}
use Rattle.scoop_keeper.specs.Keyed.{IsFirst}
use Rattle.scoop_keeper.proofs.Keyed.{item_at, put_again, some_at}
use Rattle.scoop_world.specs.Kept.{HasState, HasAll, began, on_node, world_kept}
use Rattle.scoop_world.specs.Answers.{IsRefusal, IsRefused, IsRestartRefusal, outcome_of}
use Rattle.scoop_keeper.specs.Memory.{MemoryRecord, state_at}
use Rattle.scoop_handler.specs.State.{HandlerState}
use Rattle.scoop_handler.specs.Core.{core_of}
use Rattle.std.specs.List.{AllByRecursion, list_any}
use Rattle.scoop_model.proofs.Basics.{by_test}
use Rattle.scoop_model.proofs.Order.Facts.{SiteFits}
use Rattle.scoop_model.proofs.Reaching.{sites_apart, parties_apart, reached_ordered}
use Rattle.scoop_world.proofs.KeptPlaces.{site_set, party_set}
use Rattle.scoop_world.proofs.TakenCommands.{taken_command, refused_command}

states_reopened :
    (k : MemoryRecord) (n : ℕ) (js : List Block) (sites : List Site) → AllByRecursion (SiteFits js) sites → AllByRecursion (HasState k) sites
    → AllByRecursion (HasState k) (map (reopened n) sites)
states_reopened k n js [] fits all = tt
states_reopened k n js (x ∷ xs) fits all = (
  by_test (λ t. HasState k (if t then record x { core = core_of x.core.class x.stored false } else x)) (x.node == n)
      (λ here. record { state = ap (λ (s : HandlerState). state_at k s.number.0) fits.0.stored ∙ all.0.state })
      (λ there. all.0),
  states_reopened k n js xs fits.1 all.1,
)

module _
    (sites : List Site) (parties : List Party) (sent : List Message) (joint : List Block) (logs : List BlockLog) (v : World)
    (is : world_kept sites parties sent joint logs ≡ v) where
  pub party_there : (at : ℕ) (p : Party) → at < length v.parties → p ≡ get_or parties at p → slice_get parties at ≡ Some p
  party_there at p within read = item_at parties at p (subst (λ (u : World). at < length u.parties) (sym is) within) read

  pub apart_sites : IsReached v → NoRepeats (map number_of sites)
  apart_sites reached = sites_apart (world_kept sites parties sent joint logs) (subst IsReached (sym is) reached)

  pub apart_parties : IsReached v → NoRepeats (map id_of parties)
  apart_parties reached = parties_apart (world_kept sites parties sent joint logs) (subst IsReached (sym is) reached)

  pub same_site : (at : ℕ) (s t : Site) → s ≡ get_or sites at s → t ≡ s → world_kept (set sites at t) parties sent joint logs ≡ v
  same_site at s t read same = ap (λ (ss : List Site). world_kept ss parties sent joint logs) (put_again sites at s t read same) ∙ is

  pub same_party : (at : ℕ) (p q : Party) → p ≡ get_or parties at p → q ≡ p → world_kept sites (set parties at q) sent joint logs ≡ v
  same_party at p q read same = ap (λ (ps : List Party). world_kept sites ps sent joint logs) (put_again parties at p q read same) ∙ is

  -- ---- commands

  pub command_taken :
      (at : ℕ) (p q : Party) (x : Command) (after : List BlockLog) → IsReached v → at < length v.parties → p ≡ get_or parties at p
      → outcome_of p.client x ≡ Ok q.client → q ≡ record p { client = q.client } → id_of q ≡ id_of p → after ≡ logs_after x (newest_block q.client) logs
      → do_at v x (slice_get v.parties at) ≡ Ok (world_kept sites (set parties at q) sent joint after, note.Done)
  command_taken at p q x after reached within read told changed same logged =
      let within_was : at < length parties = subst (λ (u : World). at < length u.parties) (sym is) within in
      let reached_was : IsReached (world_kept sites parties sent joint logs) = subst IsReached (sym is) reached in
      let there : slice_get parties at ≡ Some p = item_at parties at p within_was read in
      let made : List BlockLog → Stepped = λ ls. Ok (world_kept sites (set parties at q) sent joint ls, note.Done) in
      subst (λ (u : World). do_at u x (slice_get u.parties at) ≡ made after) is
      (taken_command (world_kept sites parties sent joint logs) at p q x reached_was there told changed same ∙ ap made (sym logged))

  pub command_refused :
      (at : ℕ) (p q : Party) (x : Command) (e : WorldError) (after : List BlockLog) → at < length v.parties → p ≡ get_or parties at p
      → IsRefusal (outcome_of p.client x) e → q ≡ p → after ≡ logs
      → IsRefused (do_at v x (slice_get v.parties at)) e × (world_kept sites (set parties at q) sent joint after ≡ v)
  command_refused at p q x e after within read told same logged =
      let within_was : at < length parties = subst (λ (u : World). at < length u.parties) (sym is) within in
      let there : slice_get parties at ≡ Some p = item_at parties at p within_was read in (
        subst (λ (u : World). IsRefused (do_at u x (slice_get u.parties at)) e) is
            (refused_command (world_kept sites parties sent joint logs) at p x e there told),
        ap (λ (ls : List BlockLog). world_kept sites (set parties at q) sent joint ls) logged
            ∙ ap (λ (ps : List Party). world_kept sites ps sent joint logs) (put_again parties at p q read same) ∙ is,
      )

  -- ---- messages

  pub heard_there :
      (m : Message) (at : ℕ) (s t : Site) → IsReached v → IsFirst (is_site (handler_of m)) sites at → s ≡ get_or sites at s
      → t ≡ heard_site s (hear s.core.state m) → number_of t ≡ number_of s
      → taken_by_handler v m (site_of (handler_of m) v)
      ≡ Ok (
        world_kept (set sites at t) parties (sent ++ option_to_list (hear s.core.state m).1.reply)
            (joined joint (newly_opened (hear s.core.state m).1.note)) logs,
        note.Handler (hear s.core.state m).1.note
            (option_map (λ _. length sent + 1) (hear s.core.state m).1.reply),
      )
  heard_there m at s t reached first read changed same =
      let u : World = world_kept sites parties sent joint logs in
      let reached_was : IsReached u = subst IsReached (sym is) reached in
      let there : slice_get sites at ≡ Some s = item_at sites at s first.within read in
      let found : site_of (handler_of m) u ≡ Some s = first.found ∙ there in
      let r = hear s.core.state m in
      let sets : set sites at t ≡ set_site (heard_site s r) sites =
      site_set sites at s t (sites_apart u reached_was) there same ∙ ap (λ (y : Site). set_site y sites) changed in
      let made : List Site → Stepped =
      λ ss. Ok (
        world_kept ss parties (sent ++ option_to_list r.1.reply) (joined joint (newly_opened r.1.note)) logs,
        note.Handler r.1.note
            (option_map (λ _. length sent + 1) r.1.reply),
      ) in
      subst (λ (y : World). taken_by_handler y m (site_of (handler_of m) y) ≡ made (set sites at t)) is
      (ap (taken_by_handler u m) found ∙ ap made (sym sets))

  -- the same with the results of the calls
  pub heard_all :
      (m : Message) (at : ℕ) (s t : Site) (h : Heard) (base sent_now : List Message) (first_joint joint_now : List Block) (place : Option ℕ)
      → IsReached v → IsFirst (is_site (handler_of m)) sites at → s ≡ get_or sites at s → t ≡ heard_site s (hear s.core.state m) → number_of t ≡ number_of s
      → h ≡ (hear s.core.state m).1 → base ≡ sent → sent_now ≡ base ++ option_to_list h.reply → first_joint ≡ joint
      → joint_now ≡ joined first_joint (newly_opened h.note) → place ≡ option_map (λ _. length base + 1) h.reply
      → taken_by_handler v m (site_of (handler_of m) v) ≡ Ok (world_kept (set sites at t) parties sent_now joint_now logs, note.Handler h.note place)
  heard_all m at s t h base sent_now first_joint joint_now place reached first read changed same told based sends joins joint_is placed =
      let made : Heard → List Message → List Block → Stepped =
      λ x ms bs. Ok (
        world_kept (set sites at t) parties (ms ++ option_to_list x.reply) (joined bs (newly_opened x.note)) logs,
        note.Handler x.note
            (option_map (λ _. length ms + 1) x.reply),
      ) in
      let last : List Message → List Block → Option ℕ → Stepped = λ ms bs o. Ok (world_kept (set sites at t) parties ms bs logs, note.Handler h.note o) in
      heard_there m at s t reached first read changed same
      ∙ ap (λ (x : Heard). made x sent joint) (sym told)
      ∙ ap (λ (ms : List Message). made h ms joint) (sym based)
      ∙ ap (made h base) (sym joins)
      ∙ ap (λ (ms : List Message). last ms (joined first_joint (newly_opened h.note)) (option_map (λ _. length base + 1) h.reply)) (sym sends)
      ∙ ap (λ (bs : List Block). last sent_now bs (option_map (λ _. length base + 1) h.reply)) (sym joint_is)
      ∙ ap (last sent_now joint_now) (sym placed)

  pub noticed_there :
      (m : Message) (at : ℕ) (p q : Party) → IsReached v → IsFirst (is_party (client_of m)) parties at → p ≡ get_or parties at p
      → q ≡ heard_party p (heard p.client m) → id_of q ≡ id_of p
      → taken_by_client v m (party_of (client_of m) v) ≡ Ok (world_kept sites (set parties at q) sent joint logs, note.Client (heard p.client m).1)
  noticed_there m at p q reached first read changed same =
      let u : World = world_kept sites parties sent joint logs in
      let reached_was : IsReached u = subst IsReached (sym is) reached in
      let there : slice_get parties at ≡ Some p = item_at parties at p first.within read in
      let found : party_of (client_of m) u ≡ Some p = first.found ∙ there in
      let sets : set parties at q ≡ set_party (heard_party p (heard p.client m)) parties =
      party_set parties at p q (parties_apart u reached_was) there same ∙ ap (λ (y : Party). set_party y parties) changed in
      let made : List Party → Stepped = λ ps. Ok (world_kept sites ps sent joint logs, note.Client (heard p.client m).1) in
      subst (λ (y : World). taken_by_client y m (party_of (client_of m) y) ≡ made (set parties at q)) is
      (ap (taken_by_client u m) found ∙ ap made (sym sets))

  -- ---- runs

  pub begun_there :
      (h : HandlerId) (at : ℕ) (s t : Site) (x : Task) → IsReached v → IsFirst (is_site h) sites at → s ≡ get_or sites at s → ready s.core ≡ Some x
      → t ≡ begun_site s
      → begin_at v (site_of h v) ≡ Ok (world_kept (set sites at t) parties sent joint logs, note.Began x.block x.number)
  begun_there h at s t x reached first read task changed =
      let u : World = world_kept sites parties sent joint logs in
      let reached_was : IsReached u = subst IsReached (sym is) reached in
      let there : slice_get sites at ≡ Some s = item_at sites at s first.within read in
      let found : site_of h u ≡ Some s = first.found ∙ there in
      let sets : set sites at t ≡ set_site (begun_site s) sites =
      site_set sites at s t (sites_apart u reached_was) there (ap number_of changed) ∙ ap (λ (y : Site). set_site y sites) changed in
      let made : List Site → Stepped = λ ss. Ok (world_kept ss parties sent joint logs, note.Began x.block x.number) in
      subst (λ (y : World). begin_at y (site_of h y) ≡ made (set sites at t)) is
      (ap (begin_at u) found ∙ ap (begins u s) task ∙ ap made (sym sets))

  pub nothing_begins :
      (h : HandlerId) (at : ℕ) (s : Site) → IsFirst (is_site h) sites at → s ≡ get_or sites at s → ready s.core ≡ None
      → begin_at v (site_of h v) ≡ Err NothingToRun
  nothing_begins h at s first read task =
      let u : World = world_kept sites parties sent joint logs in
      let found : site_of h u ≡ Some s = first.found ∙ item_at sites at s first.within read in
      subst (λ (y : World). begin_at y (site_of h y) ≡ Err NothingToRun) is (ap (begin_at u) found ∙ ap (begins u s) task)

  pub finished_there :
      (h : HandlerId) (at : ℕ) (s t : Site) (x : Task) → IsReached v → IsFirst (is_site h) sites at → s ≡ get_or sites at s → job_out s.core ≡ Some x
      → t ≡ finished_site s x
      → finish_at v (site_of h v) ≡ Ok (world_kept (set sites at t) parties sent joint logs, note.Ran (ran_of x))
  finished_there h at s t x reached first read task changed =
      let u : World = world_kept sites parties sent joint logs in
      let reached_was : IsReached u = subst IsReached (sym is) reached in
      let there : slice_get sites at ≡ Some s = item_at sites at s first.within read in
      let found : site_of h u ≡ Some s = first.found ∙ there in
      let sets : set sites at t ≡ set_site (finished_site s x) sites =
      site_set sites at s t (sites_apart u reached_was) there (ap number_of changed) ∙ ap (λ (y : Site). set_site y sites) changed in
      let made : List Site → Stepped = λ ss. Ok (world_kept ss parties sent joint logs, note.Ran (ran_of x)) in
      subst (λ (y : World). finish_at y (site_of h y) ≡ made (set sites at t)) is
      (ap (finish_at u) found ∙ ap (finishes u s) task ∙ ap made (sym sets))

  pub nothing_finishes :
      (h : HandlerId) (at : ℕ) (s : Site) → IsFirst (is_site h) sites at → s ≡ get_or sites at s → job_out s.core ≡ None
      → finish_at v (site_of h v) ≡ Err NothingToRun
  nothing_finishes h at s first read task =
      let u : World = world_kept sites parties sent joint logs in
      let found : site_of h u ≡ Some s = first.found ∙ item_at sites at s first.within read in
      subst (λ (y : World). finish_at y (site_of h y) ≡ Err NothingToRun) is (ap (finish_at u) found ∙ ap (finishes u s) task)

  -- ---- restarts

  pub restarted_there :
      (c : ClientId) (at : ℕ) (p q : Party) → IsReached v → IsFirst (is_party c) parties at → p ≡ get_or parties at p → (p.stored == 2 ^ 32 - 1) ≡ false
      → q ≡ restarted_party p → id_of q ≡ id_of p
      → restart_client v (party_of c v) ≡ Ok (world_kept sites (set parties at q) sent joint logs, note.Restarted (p.stored + 1))
  restarted_there c at p q reached first read unspent changed same =
      let u : World = world_kept sites parties sent joint logs in
      let reached_was : IsReached u = subst IsReached (sym is) reached in
      let there : slice_get parties at ≡ Some p = item_at parties at p first.within read in
      let found : party_of c u ≡ Some p = first.found ∙ there in
      let sets : set parties at q ≡ set_party (restarted_party p) parties =
      party_set parties at p q (parties_apart u reached_was) there same ∙ ap (λ (y : Party). set_party y parties) changed in
      let made : List Party → Stepped = λ ps. Ok (world_kept sites ps sent joint logs, note.Restarted (p.stored + 1)) in
      let open_still : restart_client u (Some p) ≡ made (set_party (restarted_party p) parties) =
      ap (λ t. if t then Err IncarnationsSpent else made (set_party (restarted_party p) parties)) unspent in
      subst (λ (y : World). restart_client y (party_of c y) ≡ made (set parties at q)) is
      (ap (restart_client u) found ∙ open_still ∙ ap made (sym sets))

  -- ---- events that aren't refused

  pub hears_ok :
      (m : Message) (at : ℕ) (s : Site) → IsFirst (is_site (handler_of m)) sites at → s ≡ get_or sites at s
      → IsOk (taken_by_handler v m (site_of (handler_of m) v))
  hears_ok m at s first read =
      let u : World = world_kept sites parties sent joint logs in
      let found : site_of (handler_of m) u ≡ Some s = first.found ∙ item_at sites at s first.within read in
      subst (λ (y : World). IsOk (taken_by_handler y m (site_of (handler_of m) y))) is (ap (λ (o : Option Site). is_ok (taken_by_handler u m o)) found)

  pub notices_ok :
      (m : Message) (at : ℕ) (p : Party) → IsFirst (is_party (client_of m)) parties at → p ≡ get_or parties at p
      → IsOk (taken_by_client v m (party_of (client_of m) v))
  notices_ok m at p first read =
      let u : World = world_kept sites parties sent joint logs in
      let found : party_of (client_of m) u ≡ Some p = first.found ∙ item_at parties at p first.within read in
      subst (λ (y : World). IsOk (taken_by_client y m (party_of (client_of m) y))) is (ap (λ (o : Option Party). is_ok (taken_by_client u m o)) found)

  pub finishes_ok :
      (h : HandlerId) (at : ℕ) (s : Site) (x : Task) → IsFirst (is_site h) sites at → s ≡ get_or sites at s → job_out s.core ≡ Some x
      → IsOk (finish_at v (site_of h v))
  finishes_ok h at s x first read task =
      let u : World = world_kept sites parties sent joint logs in
      let found : site_of h u ≡ Some s = first.found ∙ item_at sites at s first.within read in
      subst (λ (y : World). IsOk (finish_at y (site_of h y))) is
      (ap (λ (o : Option Site). is_ok (finish_at u o)) found ∙ ap (λ (o : Option Task). is_ok (finishes u s o)) task)

  restart_is_refused :
      (p : Party) (e : WorldError) → IsRestartRefusal p.stored e → IsRefused (restart_client (world_kept sites parties sent joint logs) (Some p)) e
  restart_is_refused p NoSuchMessage told = absurd told
  restart_is_refused p NoSuchParty told = absurd told
  restart_is_refused p NothingToRun told = absurd told
  restart_is_refused p (ClientRefused y) told = absurd told
  restart_is_refused p IncarnationsSpent told =
      let made : Stepped = Ok (with_party (world_kept sites parties sent joint logs) (restarted_party p), note.Restarted (p.stored + 1)) in
      ap (λ t. if t then Err IncarnationsSpent else made) told
  restart_is_refused p OutOfMemory told =
      let made : Stepped = Ok (with_party (world_kept sites parties sent joint logs) (restarted_party p), note.Restarted (p.stored + 1)) in
      ap (λ t. is_ok (if t then Err IncarnationsSpent else made)) told

  pub restart_refused :
      (c : ClientId) (at : ℕ) (p : Party) (e : WorldError) → IsFirst (is_party c) parties at → p ≡ get_or parties at p → IsRestartRefusal p.stored e
      → IsRefused (restart_client v (party_of c v)) e
  restart_refused c at p e first read told =
      let u : World = world_kept sites parties sent joint logs in
      let found : party_of c u ≡ Some p = first.found ∙ item_at parties at p first.within read in
      subst (λ (y : World). IsRefused (restart_client y (party_of c y)) e) is
      (subst (λ (o : Option Party). IsRefused (restart_client u o) e) (sym found) (restart_is_refused p e told))

  pub ticked :
      (c : ClientId) (h : HandlerId) (at place : ℕ) (p : Party) → IsFirst (is_party c) parties at → p ≡ get_or parties at p → IsFirst (is_site h) sites place
      → tick_at v h (party_of c v) (site_of h v) ≡ Ok (
        world_kept sites parties (sent ++ option_to_list (due p.client h)) joint logs,
        sent_or_silent
            (option_map (λ _. length sent + 1) (due p.client h)),
      )
  ticked c h at place p first read there =
      let u : World = world_kept sites parties sent joint logs in
      let found : party_of c u ≡ Some p = first.found ∙ item_at parties at p first.within read in
      let s = some_at sites place there.within in
      let here : site_of h u ≡ Some s.0 = there.found ∙ s.1 in
      let made : Stepped =
      Ok (world_kept sites parties (sent ++ option_to_list (due p.client h)) joint logs, sent_or_silent (option_map (λ _. length sent + 1) (due p.client h))) in
      subst (λ (y : World). tick_at y h (party_of c y) (site_of h y) ≡ made) is
      (ap (λ (o : Option Party). tick_at u h o (site_of h u)) found ∙ ap (tick_at u h (Some p)) here)

  -- the same with the results of the calls
  pub ticked_all :
      (c : ClientId) (h : HandlerId) (at place : ℕ) (p : Party) (d : Option Message) (base sent_now : List Message) (o : Option ℕ)
      → IsFirst (is_party c) parties at → p ≡ get_or parties at p → IsFirst (is_site h) sites place
      → d ≡ due p.client h → base ≡ sent → sent_now ≡ base ++ option_to_list d → o ≡ option_map (λ _. length base + 1) d
      → tick_at v h (party_of c v) (site_of h v) ≡ Ok (world_kept sites parties sent_now joint logs, sent_or_silent o)
  ticked_all c h at place p d base sent_now o first read there owes based sends placed =
      let made : Option Message → List Message → Stepped =
      λ x ms. Ok (world_kept sites parties (ms ++ option_to_list x) joint logs, sent_or_silent (option_map (λ _. length ms + 1) x)) in
      let last : List Message → Option ℕ → Stepped = λ ms q. Ok (world_kept sites parties ms joint logs, sent_or_silent q) in
      ticked c h at place p first read there
      ∙ ap (λ (x : Option Message). made x sent) (sym owes)
      ∙ ap (made d) (sym based)
      ∙ ap (λ (ms : List Message). last ms (option_map (λ _. length base + 1) d)) (sym sends)
      ∙ ap (last sent_now) (sym placed)

  pub tick_ok :
      (c : ClientId) (h : HandlerId) (at place : ℕ) (p : Party) → IsFirst (is_party c) parties at → p ≡ get_or parties at p → IsFirst (is_site h) sites place
      → IsOk (tick_at v h (party_of c v) (site_of h v))
  tick_ok c h at place p first read there = ap is_ok (ticked c h at place p first read there)

  pub node_restarted :
      (n : ℕ) → list_any (on_node n) sites ≡ true → restart_node v n ≡ Ok (world_kept (map (reopened n) sites) parties sent joint logs, note.Reopened)
  node_restarted n there =
      let made : Stepped = Ok (world_kept (map (reopened n) sites) parties sent joint logs, note.Reopened) in
      subst (λ (y : World). restart_node y n ≡ made) is (ap (λ t. if t then made else Err NoSuchParty) there)

  pub node_unknown : (n : ℕ) → list_any (on_node n) sites ≡ false → restart_node v n ≡ Err NoSuchParty
  node_unknown n nowhere =
      let made : Stepped = Ok (world_kept (map (reopened n) sites) parties sent joint logs, note.Reopened) in
      subst (λ (y : World). restart_node y n ≡ Err NoSuchParty) is (ap (λ t. if t then made else Err NoSuchParty) nowhere)

  pub has_reopened : (k : MemoryRecord) (n : ℕ) → IsReached v → HasAll k sites parties → HasAll k (map (reopened n) sites) parties
  has_reopened k n reached all = record {
    states = states_reopened k n joint sites (reached_ordered (world_kept sites parties sent joint logs) (subst IsReached (sym is) reached)).sites all.states;
    incarnations = all.incarnations;
  }

-- ---- a task, by its record

pub from_began : (o : Option Task) (q : Block × ℕ) → Some q ≡ option_map began o → (x : Task) × (o ≡ Some x) × (began x ≡ q)
from_began None q e = absurd (cc)
from_began (Some x) q e = (x, refl, same_Some (began x) q (sym e))

pub none_began : (o : Option Task) → None ≡ option_map began o → o ≡ None
none_began None e = refl
none_began (Some x) e = absurd (cc)

pub from_ran : (o : Option Task) (r : Ran) → Some r ≡ option_map ran_of o → (x : Task) × (o ≡ Some x) × (ran_of x ≡ r)
from_ran None r e = absurd (cc)
from_ran (Some x) r e = (x, refl, same_Some (ran_of x) r (sym e))

pub none_ran : (o : Option Task) → None ≡ option_map ran_of o → o ≡ None
none_ran None e = refl
none_ran (Some x) e = absurd (cc)

pub some_is : (o : Option Task) → IsSome o → (x : Task) × (o ≡ Some x)
some_is None e = absurd (cc)
some_is (Some x) e = (x, refl)
