-- A world after a client has taken a command, or has refused it.
use Rattle.std.proofs.Common.{◌≡◌, ℕ, false, List, map, set, slice_get, Option, Some, None, refl, sym, ap, ◌∙◌, subst}
use Rattle.std.specs.Prelude.{Ok, Err, IsOk}
use Rattle.std.proofs.lemmas.Option.{same_Some}
use Rattle.scoop_message.specs.declared.name.Block.{Block}
use Rattle.scoop_message.specs.declared.name.HandlerId.{HandlerId}
use Rattle.scoop_message.specs.declared.request.Entry.{Entry}
use Rattle.scoop_message.specs.declared.request.Entry.TheVariants.{End as EndEntry, Call as CallEntry, Query as QueryEntry}
use Rattle.scoop_client.specs.State.{ClientState}
use Rattle.scoop_client.specs.Commands as client
use Rattle.scoop_client.specs.Rows.{LogRow, is_logged, EndRow, ends_block}
use Rattle.scoop_client.proofs.CommandRows.{command_row}
use Rattle.scoop_client.specs.declared.command.Command.{Command}
use Rattle.scoop_client.specs.declared.command.Command.TheVariants.{Reserve, Call, Query, End, GiveUp}
use Rattle.scoop_model.specs.declared.note.WorldNote.TheVariants as note
use Rattle.scoop_model.specs.declared.error.WorldError.{WorldError}
use Rattle.scoop_model.specs.declared.error.WorldError.TheVariants.{NoSuchMessage, NoSuchParty, NothingToRun, ClientRefused, IncarnationsSpent, OutOfMemory}
use Rattle.scoop_model.specs.World.{World, Party, BlockLog, id_of, set_party}
use Rattle.scoop_model.specs.Step.{Stepped, newest_block, changed_log, logs_after, commanded_world, commanded, do_at}
use Rattle.scoop_model.specs.Reach.{IsReached}
use Rattle.scoop_world.specs.Kept.{has_log, logged_by, with_entry_for}
use Rattle.scoop_world.specs.Answers.{IsRefusal, IsRefused, RefusesLog, outcome_of}
use Rattle.scoop_model.proofs.Basics.{ok_is}
use Rattle.scoop_model.proofs.Reaching.{parties_apart}
use Rattle.scoop_world.proofs.KeptPlaces.{party_set}
use Rattle.scoop_world.proofs.LogLists.{none_changed}

-- ---- a command that logs

log_newest : (c d : ClientState) (h : HandlerId) (e : Entry) (o : client.Outcome) → LogRow c h e o → o ≡ Ok d → newest_block d ≡ newest_block c
log_newest c d h e o (is_logged l running free window room more) is = ap newest_block (sym (ok_is _ d is))
log_newest c d h e o r is = absurd (cc)

end_newest : (c d : ClientState) (o : client.Outcome) → EndRow c o → o ≡ Ok d → newest_block d ≡ newest_block c
end_newest c d o (ends_block running free room) is = ap newest_block (sym (ok_is _ d is))
end_newest c d o r is = absurd (cc)

-- the block stays
pub logged_newest :
    (c d : ClientState) (x : Command) (t : Option HandlerId × Entry) → logged_by x ≡ Some t → outcome_of c x ≡ Ok d → newest_block d ≡ newest_block c
logged_newest c d (Reserve hs) t logs is = absurd (cc)
logged_newest c d (Call h r) t logs is = log_newest c d h _ _ (command_row c (Call h r)) is
logged_newest c d (Query h r) t logs is = log_newest c d h _ _ (command_row c (Query h r)) is
logged_newest c d End t logs is = end_newest c d _ (command_row c End) is
logged_newest c d GiveUp t logs is = absurd (cc)

-- the entries that it logs
pub logged_logs :
    (x : Command) (t : Option HandlerId × Entry) (b : Block) (logs : List BlockLog) → logged_by x ≡ Some t
    → logs_after x b logs ≡ map (changed_log b (with_entry_for t.0 t.1)) logs
logged_logs (Reserve hs) t b logs is = absurd (cc)
logged_logs (Call h r) t b logs is =
    let s : Option HandlerId × Entry = (Some h, CallEntry r) in
    ap (λ (u : Option HandlerId × Entry). map (changed_log b (with_entry_for u.0 u.1)) logs) (same_Some s t is)
logged_logs (Query h r) t b logs is =
    let s : Option HandlerId × Entry = (Some h, QueryEntry r) in
    ap (λ (u : Option HandlerId × Entry). map (changed_log b (with_entry_for u.0 u.1)) logs) (same_Some s t is)
logged_logs End t b logs is =
    let s : Option HandlerId × Entry = (None, EndEntry) in
    ap (λ (u : Option HandlerId × Entry). map (changed_log b (with_entry_for u.0 u.1)) logs) (same_Some s t is)
logged_logs GiveUp t b logs is = absurd (cc)

-- if the block has no log, nothing is logged
pub unlogged :
    (c d : ClientState) (x : Command) (t : Option HandlerId × Entry) (logs : List BlockLog) → logged_by x ≡ Some t → outcome_of c x ≡ Ok d
    → has_log (newest_block c) logs ≡ false → logs ≡ logs_after x (newest_block d) logs
unlogged c d x t logs l is none =
    sym (ap (λ b. logs_after x b logs) (logged_newest c d x t l is) ∙ logged_logs x t (newest_block c) logs l
    ∙ none_changed (newest_block c) (with_entry_for t.0 t.1) logs none)

-- otherwise the entry is logged there
pub logged :
    (c d : ClientState) (x : Command) (t : Option HandlerId × Entry) (logs after : List BlockLog) → logged_by x ≡ Some t → outcome_of c x ≡ Ok d
    → after ≡ map (changed_log (newest_block c) (with_entry_for t.0 t.1)) logs → after ≡ logs_after x (newest_block d) logs
logged c d x t logs after l is made =
    made ∙ sym (ap (λ b. logs_after x b logs) (logged_newest c d x t l is) ∙ logged_logs x t (newest_block c) logs l)

-- why it isn't taken if there is no room
pub refuses_log :
    (c : ClientState) (x : Command) (t : Option HandlerId × Entry) (e : WorldError) → logged_by x ≡ Some t → RefusesLog c t.0 e → IsRefusal (outcome_of c x) e
refuses_log c (Reserve hs) t e is told = absurd (cc)
refuses_log c (Call h r) t e is told =
    let s : Option HandlerId × Entry = (Some h, CallEntry r) in
    let own : RefusesLog c (Some h) e = subst (λ (u : Option HandlerId × Entry). RefusesLog c u.0 e) (sym (same_Some s t is)) told in
    own (CallEntry r)
refuses_log c (Query h r) t e is told =
    let s : Option HandlerId × Entry = (Some h, QueryEntry r) in
    let own : RefusesLog c (Some h) e = subst (λ (u : Option HandlerId × Entry). RefusesLog c u.0 e) (sym (same_Some s t is)) told in
    own (QueryEntry r)
refuses_log c End t e is told =
    let s : Option HandlerId × Entry = (None, EndEntry) in
    subst (λ (u : Option HandlerId × Entry). RefusesLog c u.0 e) (sym (same_Some s t is)) told
refuses_log c GiveUp t e is told = absurd (cc)

-- ---- any command

commanded_ok :
    (w : World) (p : Party) (x : Command) (d : ClientState) (o : client.Outcome) → o ≡ Ok d → commanded w p x o ≡ Ok (commanded_world w p x d, note.Done)
commanded_ok w p x d o is = ap (commanded w p x) is

-- the client at this place has taken the command
pub taken_command :
    (w : World) (at : ℕ) (p q : Party) (x : Command) → IsReached w → slice_get w.parties at ≡ Some p → outcome_of p.client x ≡ Ok q.client
    → q ≡ record p { client = q.client } → id_of q ≡ id_of p
    → do_at w x (slice_get w.parties at) ≡ Ok (record w { parties = set w.parties at q; logs = logs_after x (newest_block q.client) w.logs }, note.Done)
taken_command w at p q x reached there is changed same =
    let sets : set w.parties at q ≡ set_party (record p { client = q.client }) w.parties =
    party_set w.parties at p q (parties_apart w reached) there same ∙ ap (λ (r : Party). set_party r w.parties) changed in
    let made : List Party → Stepped = λ ps. Ok (record w { parties = ps; logs = logs_after x (newest_block q.client) w.logs }, note.Done) in
    ap (do_at w x) there ∙ commanded_ok w p x q.client (outcome_of p.client x) is ∙ ap made (sym sets)

is_refused : (w : World) (p : Party) (x : Command) (o : client.Outcome) (e : WorldError) → IsRefusal o e → IsRefused (commanded w p x o) e
is_refused w p x o NoSuchMessage told = absurd told
is_refused w p x o NoSuchParty told = absurd told
is_refused w p x o NothingToRun told = absurd told
is_refused w p x o (ClientRefused y) told = ap (commanded w p x) told
is_refused w p x o IncarnationsSpent told = absurd told
is_refused w p x o OutOfMemory told = still o told
  where
    still : (r : client.Outcome) → IsOk r → IsOk (commanded w p x r)
    still (Ok d) ok = refl
    still (Err y) ok = absurd (cc)

-- the client at this place has refused the command
pub refused_command :
    (w : World) (at : ℕ) (p : Party) (x : Command) (e : WorldError) → slice_get w.parties at ≡ Some p → IsRefusal (outcome_of p.client x) e
    → IsRefused (do_at w x (slice_get w.parties at)) e
refused_command w at p x e there told = subst (λ (o : Option Party). IsRefused (do_at w x o) e) (sym there) (is_refused w p x (outcome_of p.client x) e told)
