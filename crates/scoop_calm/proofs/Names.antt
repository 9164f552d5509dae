-- The names of other crates, and of the definitions, that the proofs cite.
pub use Rattle.std.specs.Bool.{Decides}
pub use Rattle.std.specs.List.{AllByRecursion, list_all, list_any}
pub use Rattle.std.specs.Option.{option_map, option_map_or, option_or}
pub use Rattle.std.specs.Prelude.{Contains, Err, IfSome, Ok, if◌then◌else◌, is_none, is_some, option_to_list, unwrap_or, ⊤, ◌↔◌}
pub use Rattle.std.specs.Result.{is_ok}
pub use Rattle.std.proofs.Common.{Bool, IsFalse, IsTrue, List, None, Option, Some, [], ap, append-nil, append_assoc, arith, drop, false, filter, find, inl, inr}
pub use Rattle.std.proofs.Common.{length, length-append, length-drop, map, nat_le, nat_lt, not, refl, slice_get, subst, suc, sym, true, true≢false, zero, ℕ}
pub use Rattle.std.proofs.Common.{⊎_elim, ◌&&◌, ◌*◌, ◌++◌, ◌+◌, ◌-◌, ◌<◌, ◌==◌, ◌^◌, ◌||◌, ◌∙◌, ◌∷◌, ◌≡◌, ◌≤◌, ◌⊎◌}
pub use Rattle.std.proofs.Math.Bool.{and-false}
pub use Rattle.std.proofs.lemmas.Bool.{and_parts, eq-eqb, eqb-true, or_parts, or_right}
pub use Rattle.std.proofs.lemmas.Bool.Decides.{nat_tests}
pub use Rattle.std.proofs.lemmas.List.{length-map}
pub use Rattle.std.proofs.lemmas.List.Elements.{All-contains, All-from_recursion}
pub use Rattle.std.proofs.lemmas.Option.{same_Some}
pub use Rattle.scoop_message.specs.Entries.{EndOnlyLast, end_only_last, ends, last_number}
pub use Rattle.scoop_message.specs.Entry.{is_end, is_query}
pub use Rattle.scoop_message.specs.Lists.{NoRepeats}
pub use Rattle.scoop_message.specs.Message.{client_of, handler_of, is_for_handler, same_block, same_client, same_handler}
pub use Rattle.scoop_message.specs.declared.limits.TheConstants.{MAX_BLOCK_HANDLERS, MAX_CLIENTS, MAX_ENTRIES, MAX_PENDING, MAX_QUEUES, MAX_UNACKNOWLEDGED}
pub use Rattle.scoop_message.specs.declared.message.Message.{Message}
pub use Rattle.scoop_message.specs.declared.message.Message.TheVariants.{Answer, Busy, Hello, Lock, Locked, Log, Logged, Open, Opened, Unlock, Unlocked}
pub use Rattle.scoop_message.specs.declared.message.Message.TheVariants.{Welcome}
pub use Rattle.scoop_message.specs.declared.name.Block.{Block}
pub use Rattle.scoop_message.specs.declared.name.ClientId.{ClientId}
pub use Rattle.scoop_message.specs.declared.name.HandlerId.{HandlerId}
pub use Rattle.scoop_message.specs.declared.request.Answer.{Answer as ObjectAnswer}
pub use Rattle.scoop_message.specs.declared.request.Entry.{Entry}
pub use Rattle.scoop_message.specs.declared.request.Entry.TheVariants.{Call, End as EndEntry, Query}
pub use Rattle.scoop_message.proofs.Same.{block_decides, client_decides, handler_decides}
pub use Rattle.scoop_object.specs.Class.{ClassTable}
pub use Rattle.scoop_object.specs.Effect.{eff}
pub use Rattle.scoop_object.specs.Play.{entry_effect}
pub use Rattle.scoop_queue.specs.Queue.{PrivateQueue, advance, cut, cut_open, first_of, front, has_queue, is_cut, is_open as takes_more, is_queue_of}
pub use Rattle.scoop_queue.specs.Queue.{left_by_cut, left_by_first, opened, pending, put_all, queue_of}
pub use Rattle.scoop_queue.specs.Sound.{IsQueue}
pub use Rattle.scoop_queue.specs.declared.state.QueueState.{QueueState}
pub use Rattle.scoop_queue.specs.declared.state.QueueState.TheVariants.{Cut, Ended}
pub use Rattle.scoop_queue.proofs.Ends.{ends-append}
pub use Rattle.scoop_queue.proofs.Found.{block-found}
pub use Rattle.scoop_queue.proofs.Lookup.{same_block-sym}
pub use Rattle.scoop_handler.specs.Core.{Core, IsCore, core_of, with_state}
pub use Rattle.scoop_handler.specs.Growing.{Grows, IsFurther, IsNewer, MarksGrow}
pub use Rattle.scoop_handler.specs.Hearing.{Hearing, IsHeardAt, dropped, greeted_first, greeting_mark, has_no_room, hear, hear_at, hear_hello, hear_lock}
pub use Rattle.scoop_handler.specs.Hearing.{hear_log, hear_of, hear_open, hear_unlock, holder_without, if_here, is_closed, is_new, kept_answer, known, mark_for}
pub use Rattle.scoop_handler.specs.Hearing.{moved, new_entries, received_before, took, with_entries, with_incarnation, with_mark, with_queue}
pub use Rattle.scoop_handler.specs.Marks.{add_mark, block_of, fresh_mark, is_held, is_open, is_shut, mark_of, opened_mark, set_mark, with_received}
pub use Rattle.scoop_handler.specs.Marks.{without_hold}
pub use Rattle.scoop_handler.specs.Replies.{HasEntries}
pub use Rattle.scoop_handler.specs.Rows.{Row, already_received, first_greeting, is_answered, is_freed, is_opened, is_taken, lock_granted, newer_greeting}
pub use Rattle.scoop_handler.specs.Rows.{repeated_unlock, unlock_of_a_block_never_held}
pub use Rattle.scoop_handler.specs.Running.{Task, after, begun, finished, first_task, job_out, mark_after, ran_of, ready, task_of}
pub use Rattle.scoop_handler.specs.State.{HandlerState, HasMark, HolderIsUnderWay, HoldsIfHeld, IsAscending, IsState, IsUnused, IsUnusedUnlessOpen, is_holder}
pub use Rattle.scoop_handler.specs.State.{is_unfinished}
pub use Rattle.scoop_handler.specs.declared.mark.Mark.{Mark}
pub use Rattle.scoop_handler.specs.declared.mark.Stage.{Stage as MarkStage}
pub use Rattle.scoop_handler.specs.declared.mark.Stage.TheVariants.{Held as AtHeld, Open as AtOpen, Shut as AtShut}
pub use Rattle.scoop_handler.specs.declared.note.Note.{Note}
pub use Rattle.scoop_handler.specs.declared.note.Note.TheVariants.{Freed, Granted, Greeted, Known, Opened as OpenedHere, Took}
pub use Rattle.scoop_handler.specs.declared.note.Reason.TheVariants.{TooManyClients, WrongHandler}
pub use Rattle.scoop_handler.specs.declared.ran.Ran.{Ran}
pub use Rattle.scoop_handler.proofs.After.{MarksGrow-after, job-front, mark_of-after}
pub use Rattle.scoop_handler.proofs.Basics.{all_append, key_found}
pub use Rattle.scoop_handler.proofs.Beside.{HasMark-fits, apart_blocks, no_queue_yet}
pub use Rattle.scoop_handler.proofs.Fronts.{Grows-refl}
pub use Rattle.scoop_handler.proofs.MarkLists.{All-add_mark, All-mark_of, All-set_mark, client_from_same, mark_of-add_mark_other, mark_of-add_mark_own}
pub use Rattle.scoop_handler.proofs.MarkLists.{mark_of-client, mark_of-set_mark_other, mark_of-set_mark_own}
pub use Rattle.scoop_handler.proofs.MarkPlaces.{tail-ascending}
pub use Rattle.scoop_handler.proofs.States.{holder_is_newest, roomy}
pub use Rattle.scoop_handler.proofs.TableLaws.{block_of-same, grows-row, held_holds, number-row, replies-row}
pub use Rattle.scoop_handler.proofs.TableRows.{holder_from_test, row}
pub use Rattle.scoop_reserve.specs.Handlers.{asked, first_repeated, first_repeated_after, first_unknown, has, is_empty, is_lowest, without}
pub use Rattle.scoop_reserve.specs.Hearing.{given_up, given_up_in, is_given_up_in, is_gone, is_open_in}
pub use Rattle.scoop_reserve.specs.Starting.{fresh, started, unless_repeated, unless_unknown}
pub use Rattle.scoop_reserve.specs.State.{ReservationState, at_stage}
pub use Rattle.scoop_reserve.specs.declared.stage.Stage.{Stage}
pub use Rattle.scoop_reserve.specs.declared.stage.Stage.TheVariants.{GivingUp, Locking, Opening, Unlocking}
pub use Rattle.scoop_reserve.specs.declared.stage.Step.{Step}
pub use Rattle.scoop_reserve.specs.declared.stage.Step.TheVariants.{Unlocked as UnlockedStep}
pub use Rattle.scoop_reserve.proofs.Rows.{HeardRow as StepRow, all_are_locked, all_are_opened, heard_row as step_row, is_busy, is_given_back, is_unlocked}
pub use Rattle.scoop_reserve.proofs.Rows.{one_is_locked, one_is_opened, passed_over as steps_over}
pub use Rattle.scoop_client.specs.Commands.{Outcome, command, end_block, end_unless_full, end_unless_waiting, next_block, waits_for, with_block, with_ends}
pub use Rattle.scoop_client.specs.Due.{due, due_after, due_in_block, due_window}
pub use Rattle.scoop_client.specs.Hearing.{Notice, after_step, hear_answer, hear_answer_to, hear_count, hear_logged, hear_step, hear_welcome, heard, ignored}
pub use Rattle.scoop_client.specs.Hearing.{is_open_block, settled, stepped, up_to}
pub use Rattle.scoop_client.specs.Rows.{DueRow, EndRow, GiveUpRow, HeardRow, LogRow, ReserveRow, begins_block, ends_block, gives_up, greets, is_accepted}
pub use Rattle.scoop_client.specs.Rows.{is_acknowledged, is_logged, is_welcomed, logs, owes_nothing, passed_over, reserves, takes_step}
pub use Rattle.scoop_client.specs.State.{ClientState, idle, phase_at, phase_of, phase_of_block, with_reservation, with_unwelcomed, with_windows}
pub use Rattle.scoop_client.specs.Window.{WindowState, acknowledged, all_over, at_window, first_entries, fresh_window, is_ended, is_full, is_lowest_full}
pub use Rattle.scoop_client.specs.Window.{is_over, logged, lowest_full, newly, window_of, with_end, with_entry}
pub use Rattle.scoop_client.specs.declared.command.Command.{Command}
pub use Rattle.scoop_client.specs.declared.command.Command.TheVariants.{Call as DoCall, End as DoEnd, GiveUp, Query as DoQuery, Reserve}
pub use Rattle.scoop_client.specs.declared.phase.ClientNote.{ClientNote}
pub use Rattle.scoop_client.specs.declared.phase.ClientNote.TheVariants.{Accepted, Acknowledged, Ignored, Locked as LockedNote, Opened as OpenedNote}
pub use Rattle.scoop_client.specs.declared.phase.ClientNote.TheVariants.{Unlocked as UnlockedNote, Welcomed}
pub use Rattle.scoop_client.specs.declared.phase.Phase.TheVariants.{Greeting, Idle, Running}
pub use Rattle.scoop_client.proofs.Batches.{is_batch}
pub use Rattle.scoop_client.proofs.CommandRows.{command_row}
pub use Rattle.scoop_client.proofs.DueRows.{due_row}
pub use Rattle.scoop_client.proofs.Rows.{heard_row}
pub use Rattle.scoop_model.specs.Reach.{IsReached, Leads, Run, next, run, run_after, steps}
pub use Rattle.scoop_model.specs.Safe.{HasRun, IsSubsequence, left_out, nothing, numbered, untold}
pub use Rattle.scoop_model.specs.Step.{Newcomer, Placement, Stepped, at_client, at_handler, begin_at, begun_site, changed_log, commanded, commanded_world}
pub use Rattle.scoop_model.specs.Step.{do_at, finish_at, finished_site, heard_party, heard_site, heard_world, new_party, new_site, newest_block, opening}
pub use Rattle.scoop_model.specs.Step.{place_of, reopened, reopened_world, restarted_party, sends, sent_or_silent, step, taken, taken_by_client}
pub use Rattle.scoop_model.specs.Step.{taken_by_handler, tick_at, with_party, with_sent, with_site}
pub use Rattle.scoop_model.specs.World.{BlockLog, HandlerLog, Party, Site, World, count_in, greatest_count, handlers_in, handlers_of, has_block, id_of, inc_of}
pub use Rattle.scoop_model.specs.World.{is_log_of, is_party, is_share_of, is_site, log_of, newer_party, number_of, party_of, ran_at, sent_at, set_party}
pub use Rattle.scoop_model.specs.World.{set_site, site_of}
pub use Rattle.scoop_model.specs.declared.event.Event.{Event}
pub use Rattle.scoop_model.specs.declared.event.Event.TheVariants.{Begin, ClientRestart, Do, Finish, NodeRestart, Take, Tick}
pub use Rattle.scoop_model.specs.declared.note.WorldNote.{WorldNote}
pub use Rattle.scoop_model.proofs.Answering.Facts.{Answering, SiteAnswers, TellsAnswer}
pub use Rattle.scoop_model.proofs.Answering.Kept.{KeepsRan}
pub use Rattle.scoop_model.proofs.Answering.Objects.{AnswersFrom}
pub use Rattle.scoop_model.proofs.Answering.Runs.{answering_kept, opens_answering}
pub use Rattle.scoop_model.proofs.Basics.{by_test, ok_is}
pub use Rattle.scoop_model.proofs.Events.{both_kept, Changes, Gives, Happens, Kept, event_happens, event_kept, steps_kept}
pub use Rattle.scoop_model.proofs.Keys.{by_party, by_site, id_found, number_found, own_site, site_put}
pub use Rattle.scoop_model.proofs.Knowing.Clients.{none_left as idle_left}
pub use Rattle.scoop_model.proofs.Knowing.Facts.{Known as KnownHandlers, Knowing, PartyKnown}
pub use Rattle.scoop_model.proofs.Knowing.Joining.{known_by}
pub use Rattle.scoop_model.proofs.Knowing.Meeting.{mark_known}
pub use Rattle.scoop_model.proofs.Knowing.Runs.{known_there, knowing_kept, opens_knowing}
pub use Rattle.scoop_model.proofs.Logging.Commands.{commanded_grown, running_is}
pub use Rattle.scoop_model.proofs.Logging.Facts.{Carries, Grown, Logging, PartyLogs, WindowFits, WindowsFit, grown_same}
pub use Rattle.scoop_model.proofs.Logging.Greetings.{IsMarkUpto, MarksUpto, inc_there}
pub use Rattle.scoop_model.proofs.Logging.OpeningClients.{has_filtered, unlocking_is}
pub use Rattle.scoop_model.proofs.Logging.OpeningRuns.{ToldMore, opens_told_more, told_more_kept}
pub use Rattle.scoop_model.proofs.Logging.Steps.{none_reserved}
pub use Rattle.scoop_model.proofs.Logging.Openings.{IsGivenUp, IsMarkOpened, IsOpenedAtAll, NoOpen, Openings, Shows, SiteOpened, StageOpened}
pub use Rattle.scoop_model.proofs.Logging.Windows.{StaysAt, by_all, by_window, first_of_all, fits_acknowledged, found_has, fresh_found, handlers_at}
pub use Rattle.scoop_model.proofs.Logging.Windows.{handlers_at_window, window_handler}
pub use Rattle.scoop_model.proofs.Order.Clients.{has_without, is_gone_one, keeps_row, none_in_empty}
pub use Rattle.scoop_model.proofs.Order.Commands.{goes_on as went_on, started_fresh}
pub use Rattle.scoop_model.proofs.Order.Facts.{IsNamed, Ordered, PartyFits, SiteFits, Tells, all_found, all_more_of, all_pushed, all_set_party, all_set_site, state_anew}
pub use Rattle.scoop_model.proofs.Order.Handlers.{sent_tells}
pub use Rattle.scoop_model.proofs.Order.Holding.{IsHeldIn, IsReachedIn, Upto, own_place, upto_itself}
pub use Rattle.scoop_model.proofs.Order.Runs.{joint_kept}
pub use Rattle.scoop_model.proofs.Order.Lists.{AreApart, same_block_is, same_block_itself}
pub use Rattle.scoop_model.proofs.Order.Sets.{handlers_after}
pub use Rattle.scoop_model.proofs.Reaching.{parties_apart, reached_more, sites_apart, sites_placed}
pub use Rattle.scoop_model.proofs.Sound.Facts.{HasBatch, Sound}
pub use Rattle.scoop_model.proofs.Sound.Steps.{sent_all}
pub use Rattle.scoop_model.proofs.Standing.Facts.{IsPastIn, StageStands, StandsAt, StandsIn}
pub use Rattle.scoop_model.proofs.Standing.Runs.{opens_standing, standing_kept}
pub use Rattle.scoop_model.proofs.Stands.{Stands}
pub use Rattle.scoop_model.proofs.Tape.Fits.{IsBegun}
pub use Rattle.scoop_model.proofs.Tape.Shown.{left_apart, slot_parts}
pub use Rattle.scoop_model.proofs.Tape.Slots.{Slot, blocks_of, queue_at, queues_of, ran_in, slot_queue}
pub use Rattle.scoop_model.proofs.Whole.Facts.{SiteTaped, Taped}
pub use Rattle.scoop_model.proofs.Whole.Marks.{MarkTold, newer_inc, newer_num, none_reached, not_reached}
pub use Rattle.scoop_model.proofs.Whole.Sent.{count_itself, same_handler_itself}
pub use Rattle.scoop_model.proofs.Whole.Slots.{IsDone, IsPassed, SlotWhole, none_behind}
pub use Rattle.scoop_model.proofs.Whole.Steps.{opens_taped, taped_kept}
pub use Rattle.scoop_rules.proofs.Front.{left_has}
pub use Rattle.scoop_calm.specs.Bound.{block_left, entries_of, handler_left, hold_left, holder_left, is_later, jobs_left, left, lock_left, mark_at, out_left}
pub use Rattle.scoop_calm.specs.Bound.{places_from, places_left, share_left, site_left}
pub use Rattle.scoop_calm.specs.Left.{block_work, client_work, clients_left, has_less, mark_room, queue_work, room_left, runs_left, site_room, site_work}
pub use Rattle.scoop_calm.specs.Left.{stage_work, total, wait_work, window_work, windows_work, work_left}
pub use Rattle.scoop_calm.specs.Next.{ask_of, asks_well, can_begin, can_do, can_end, events_of, is_open_at, is_out, next_ask, next_begin, next_end, next_events}
pub use Rattle.scoop_calm.specs.Next.{next_finish, next_of, settling}
pub use Rattle.scoop_calm.specs.Rounds.{IsAsked, IsTaken, Member, Round, Rounds, goes_on, none, one_more, place_in, sent_by}
pub use Rattle.scoop_calm.specs.Settling.{Calm, IsFree, IsIdle, Settles, begins, finishes, stays}
pub use Rattle.scoop_calm.specs.declared.next.Next.{Next}
