-- The names that proofs of this crate share: a proof file takes them from here by one list.
pub use Rattle.std.proofs.Common.{◌≡◌, ℕ, ◌+◌, ◌<◌, List, [], ◌∷◌, ◌++◌, map, Some, None, refl, sym, ap, ◌∙◌, subst, arith, append-nil, Ok, ◌≤◌, Option, find}
pub use Rattle.std.proofs.Common.{option_map, true, if◌then◌else◌, ◌&&◌, zero, suc, take, slice_get, false, true≢false, ◌||◌, length, Bool, ◌==◌, ◌-◌, ◌^◌, Err}
pub use Rattle.std.proofs.Common.{option_to_list, Contains, ◌⊎◌, inl, inr, nat_lt, get_or, ⊎_elim, nat_le, append_assoc, unwrap_or, not, filter, IsFalse, drop}
pub use Rattle.std.proofs.Common.{length-append, length-drop, take-append-drop, length-take-le, IsTrue, flat_map, max, ◌≢◌}
pub use Rattle.std.proofs.Math.Seq.{take-append_seam}
pub use Rattle.std.proofs.lemmas.Bool.{and_parts, eqb-true, eqb-false, cases_eq, or_cases, false_from_ne_true}
pub use Rattle.std.proofs.lemmas.Bool.Decides.{nat_tests, Decides-like, Decides-eqb}
pub use Rattle.std.proofs.lemmas.List.{take-append-le, length-map, map-append}
pub use Rattle.std.proofs.lemmas.List.Elements.{Contains-append_left, Contains-push, filter-append}
pub use Rattle.std.proofs.lemmas.List.Folds.{list_any-append}
pub use Rattle.std.proofs.lemmas.Option.{same_Some, get_or_from_slice_get, slice_get_within, slice_get-get_or, none-some}
pub use Rattle.std.specs.List.{AllByRecursion, list_any}
pub use Rattle.std.specs.Option.{option_map_or}
pub use Rattle.std.specs.Prelude.{⊤}
pub use Rattle.scoop_message.proofs.Same.{pair, handler_decides, client_decides, block_decides, pair_decides, request_decides}
pub use Rattle.scoop_message.specs.Entries.{last_number, EndOnlyLast, ends}
pub use Rattle.scoop_message.specs.Entry.{is_query, is_end}
pub use Rattle.scoop_message.specs.Lists.{NoRepeats}
pub use Rattle.scoop_message.specs.Message.{same_block, client_of, handler_of, is_for_handler, same_client, same_handler}
pub use Rattle.scoop_message.specs.declared.limits.TheConstants.{MAX_BLOCK_HANDLERS}
pub use Rattle.scoop_message.specs.declared.message.Message.{Message}
pub use Rattle.scoop_message.specs.declared.message.Message.TheVariants.{Answer, Open, Locked, Lock, Log, Hello, Welcome, Unlock, Opened, Logged, Busy}
pub use Rattle.scoop_message.specs.declared.message.Message.TheVariants.{Unlocked}
pub use Rattle.scoop_message.specs.declared.name.Block.{Block}
pub use Rattle.scoop_message.specs.declared.name.ClientId.{ClientId}
pub use Rattle.scoop_message.specs.declared.name.HandlerId.{HandlerId}
pub use Rattle.scoop_message.specs.declared.request.Answer.{Answer as ObjectAnswer}
pub use Rattle.scoop_message.specs.declared.request.Entry.{Entry}
pub use Rattle.scoop_message.specs.declared.request.Entry.TheVariants.{Call as CallEntry, Query as QueryEntry, End as EndEntry}
pub use Rattle.scoop_message.specs.declared.request.Request.{Request}
pub use Rattle.scoop_object.specs.Class.{ClassTable}
pub use Rattle.scoop_object.specs.Play.{play, entry_effect}
pub use Rattle.scoop_queue.proofs.Ends.{EndOnlyLast-append, ends-append, both}
pub use Rattle.scoop_queue.proofs.Lookup.{same_block-sym, same_block-true, at_block-absent, same_block-refl}
pub use Rattle.scoop_queue.specs.Queue.{PrivateQueue, queue_of, opened, put_all, cut, front, advance, at_block, has_queue, with_entries, left_by_cut, first_of}
pub use Rattle.scoop_queue.specs.Queue.{goes_with, is_cut}
pub use Rattle.scoop_queue.specs.Sound.{AreApart, IsQueue}
pub use Rattle.scoop_queue.specs.declared.state.QueueState.{QueueState}
pub use Rattle.scoop_queue.specs.declared.state.QueueState.TheVariants.{Open as TakesMore, Ended, Cut}
pub use Rattle.scoop_handler.proofs.After.{job-first, job-front, MarksGrow-after, mark_of-after, IsCore-begun, IsCore-finished, found-after}
pub use Rattle.scoop_handler.proofs.Basics.{all_found, by_test, all_both, key_found, all_at}
pub use Rattle.scoop_handler.proofs.Fronts.{MarksGrow-refl}
pub use Rattle.scoop_handler.proofs.MarkLists.{All-mark_of, All-set_mark, All-add_mark, mark_of-set_mark_own, mark_of-client, mark_of-add_mark_own}
pub use Rattle.scoop_handler.proofs.MarkLists.{client_from_same, same_client-refl, mark_of-set_mark_other, mark_of-add_mark_other}
pub use Rattle.scoop_handler.proofs.Once.{once_more}
pub use Rattle.scoop_handler.proofs.TableLaws.{number-row, words-row, block_of-same, grows-row, replies-row, IsCore-hear}
pub use Rattle.scoop_handler.proofs.TableRows.{row}
pub use Rattle.scoop_handler.specs.Core.{Core, core_of, with_state, IsCore}
pub use Rattle.scoop_handler.specs.Growing.{MarksGrow, IsNewer, IsFurther, Grows}
pub use Rattle.scoop_handler.specs.Hearing.{Hearing, hear, IsHeardAt, greeting_mark, holder_without, new_entries, is_closed}
pub use Rattle.scoop_handler.specs.Marks.{block_of, fresh_mark, opened_mark, with_received, without_hold, set_mark, mark_of, is_held, add_mark}
pub use Rattle.scoop_handler.specs.Replies.{named_block, HasEntries}
pub use Rattle.scoop_handler.specs.Rows.{Row, first_greeting, newer_greeting, lock_granted, is_opened, unlock_of_a_block_never_held, is_freed, is_answered}
pub use Rattle.scoop_handler.specs.Rows.{is_taken, repeated_greeting, repeated_open, repeated_lock, IsLogAt, already_received, IsNext}
pub use Rattle.scoop_handler.specs.Running.{Task, ran_of, job_out, mark_after, ready, task_of}
pub use Rattle.scoop_handler.specs.State.{HandlerState, AreWords, IsState, new_state, is_holder, FitsMark, FitsNewest, HasMark, IsUnusedUnlessOpen}
pub use Rattle.scoop_handler.specs.declared.mark.Mark.{Mark}
pub use Rattle.scoop_handler.specs.declared.mark.Stage.TheVariants.{Held as AtHeld, Shut as AtShut, Open as AtOpen}
pub use Rattle.scoop_handler.specs.declared.note.Note.{Note}
pub use Rattle.scoop_handler.specs.declared.note.Note.TheVariants.{Granted, Opened as OpenedNote, Took, Greeted}
pub use Rattle.scoop_handler.specs.declared.ran.Ran.{Ran}
pub use Rattle.scoop_reserve.proofs.Rows.{HeardRow as StepRow, passed_over as steps_over, one_is_locked, all_are_locked, is_busy, one_is_opened, all_are_opened}
pub use Rattle.scoop_reserve.proofs.Rows.{is_unlocked, is_given_back, heard_row as step_row}
pub use Rattle.scoop_reserve.specs.Handlers.{asked, has, is_empty, without, is_lowest, first_repeated, first_unknown}
pub use Rattle.scoop_reserve.specs.Hearing.{given_up_in, is_open, is_open_in, is_gone}
pub use Rattle.scoop_reserve.specs.Starting.{fresh, started, unless_repeated, unless_unknown}
pub use Rattle.scoop_reserve.specs.State.{ReservationState, at_stage}
pub use Rattle.scoop_reserve.specs.declared.stage.Stage.{Stage}
pub use Rattle.scoop_reserve.specs.declared.stage.Stage.TheVariants.{GivingUp as GivingBack, Locking, Opening, Unlocking}
pub use Rattle.scoop_reserve.specs.declared.stage.Step.{Step}
pub use Rattle.scoop_client.proofs.Rows.{heard_row}
pub use Rattle.scoop_client.specs.Commands.{Outcome, command, next_block}
pub use Rattle.scoop_client.specs.Due.{due}
pub use Rattle.scoop_client.specs.Hearing.{after_step, heard, up_to, stepped}
pub use Rattle.scoop_client.specs.Rows.{HeardRow, passed_over, is_welcomed, takes_step, is_acknowledged, is_accepted, logs, DueRow, owes_nothing, greets}
pub use Rattle.scoop_client.specs.Rows.{reserves, ReserveRow, begins_block, LogRow, is_logged, EndRow, ends_block, GiveUpRow, gives_up}
pub use Rattle.scoop_client.specs.State.{ClientState, with_windows, with_reservation, phase_of, block_named, phase_of_block, phase_at, idle, with_unwelcomed}
pub use Rattle.scoop_client.specs.Window.{WindowState, logged, acknowledged, window_of, at_window, with_entry, with_end, first_entries, fresh_window, is_ended}
pub use Rattle.scoop_client.specs.Window.{IsNumberable, newly, up_to_end, all_over}
pub use Rattle.scoop_client.specs.declared.command.Command.{Command}
pub use Rattle.scoop_client.specs.declared.command.Command.TheVariants.{Reserve, End, GiveUp, Call, Query}
pub use Rattle.scoop_client.specs.declared.phase.ClientNote.{ClientNote}
pub use Rattle.scoop_client.specs.declared.phase.Phase.TheVariants.{Idle, Greeting, Running, Ending}
pub use Rattle.scoop_model.proofs.Basics.{all_made, of_party, all_mapped, locking_giving, opening_giving, some_same, ok_is, first_false}
pub use Rattle.scoop_model.proofs.Keys.{number_found, by_site, site_put, own_site, heard_place, by_party, id_found}
pub use Rattle.scoop_model.specs.Opening.{MayOpen, IsPlaced, IsJoining, KnowsPlaced}
pub use Rattle.scoop_model.specs.Reach.{steps, IsReached, Run, next, run_after, Leads, run}
pub use Rattle.scoop_model.specs.Safe.{HasRun, query_of, entries_of, IsAnswered, RightAnswers, AcceptsRight, IsSubsequence, Safe, nothing, Tape}
pub use Rattle.scoop_model.specs.Safe.{WholeBeforeNext, left_out, InOrder, untold, numbered, part, IsWhole}
pub use Rattle.scoop_model.specs.Step.{newest_block, commanded_world, with_sent, with_party, newly_accepted, heard_party, restarted_party, heard_world}
pub use Rattle.scoop_model.specs.Step.{heard_site, with_site, begun_site, finished_site, reopened, reopened_world, Placement, Newcomer, new_site, new_party}
pub use Rattle.scoop_model.specs.Step.{opening, Stepped, step, commanded, do_at, place_of, sent_or_silent, tick_at, taken_by_handler, taken_by_client, taken}
pub use Rattle.scoop_model.specs.Step.{begins, begin_at, finishes, finish_at, restart_client, restart_node, logs_after, fresh_log, with_entry_at, changed_log}
pub use Rattle.scoop_model.specs.Step.{newly_opened, joined}
pub use Rattle.scoop_model.specs.Told.{WasGranted, WasGrantedAtAll, TellsGranted, stored_of, TellsStored, TellsGreeted, HoldsOpenedOrOver, TellsHeld}
pub use Rattle.scoop_model.specs.Told.{TellsOpened, HasOpenedAtAll, IsAbandoned, TellsUnlocked, AreOfLog, TellsLogged, TellsRan}
pub use Rattle.scoop_model.specs.World.{World, Party, Accepted, BlockLog, set_party, ran_at, Site, number_of, is_site, site_of, set_site, is_party, sent_at}
pub use Rattle.scoop_model.specs.World.{has_block, opened_at, log_of, received, count_in, greatest_count, party_of, id_of, handlers_of, HandlerLog, shares_of}
pub use Rattle.scoop_model.specs.World.{is_succeeded, is_newer_welcome, inc_of, is_log_of, is_share_of, handlers_in, set_of, has_end}
pub use Rattle.scoop_model.specs.declared.event.Event.{Event}
pub use Rattle.scoop_model.specs.declared.event.Event.TheVariants.{Do, Tick, Take, Begin, Finish, ClientRestart, NodeRestart}
pub use Rattle.scoop_model.specs.declared.note.WorldNote.{WorldNote}
