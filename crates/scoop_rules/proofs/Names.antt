-- The names that proofs of this crate share: a proof file takes them from here by one list.
pub use Rattle.scoop_model.proofs.Names.{◌≡◌, ℕ, ◌+◌, ◌<◌, List, [], ◌∷◌, ◌++◌, map, Some, None, refl, sym, ap, ◌∙◌, subst, arith, append-nil, Ok, ◌≤◌, Option}
pub use Rattle.scoop_model.proofs.Names.{find, option_map, true, if◌then◌else◌, ◌&&◌, zero, suc, take, false, true≢false, ◌||◌, length, Bool, ◌==◌, ◌-◌, Err}
pub use Rattle.scoop_model.proofs.Names.{option_to_list, ◌⊎◌, inl, inr, nat_lt, ⊎_elim, nat_le, append_assoc, unwrap_or, not, filter, drop, length-append}
pub use Rattle.scoop_model.proofs.Names.{length-drop, IsTrue, flat_map, max, take-append_seam, and_parts, nat_tests, filter-append, list_any-append, same_Some}
pub use Rattle.scoop_model.proofs.Names.{none-some, AllByRecursion, list_any, option_map_or, handler_decides, client_decides, block_decides, EndOnlyLast}
pub use Rattle.scoop_model.proofs.Names.{is_query, is_end, same_block, client_of, handler_of, is_for_handler, same_client, same_handler, Message, Answer}
pub use Rattle.scoop_model.proofs.Names.{Locked, Lock, Log, Hello, Welcome, Unlock, Opened, Logged, Busy, Unlocked, Block, ClientId, HandlerId, Entry}
pub use Rattle.scoop_model.proofs.Names.{CallEntry, QueryEntry, EndEntry, front, first_of, is_cut, TakesMore as Open, Ended, Cut, all_found, by_test}
pub use Rattle.scoop_model.proofs.Names.{number-row, row, Core, core_of, Hearing, hear, Row, first_greeting, newer_greeting, lock_granted, is_opened}
pub use Rattle.scoop_model.proofs.Names.{unlock_of_a_block_never_held, is_freed, is_answered, is_taken, repeated_greeting, repeated_open, repeated_lock}
pub use Rattle.scoop_model.proofs.Names.{already_received, Task, ran_of as told_of, job_out, task_of, Greeted, Ran, asked, has, first_repeated, first_unknown}
pub use Rattle.scoop_model.proofs.Names.{fresh, started, unless_repeated, ReservationState, at_stage, due, heard, ClientState, phase_of, WindowState, logged}
pub use Rattle.scoop_model.proofs.Names.{window_of, Command, Reserve, GiveUp, Call, Query, all_made, first_false, number_found, own_site, heard_place, by_site, by_party, id_found}
pub use Rattle.scoop_model.proofs.Names.{MayOpen, steps, IsReached, Run, next, run_after, HasRun, entries_of, IsSubsequence, nothing, left_out, untold}
pub use Rattle.scoop_model.proofs.Names.{numbered, newest_block, commanded_world, with_sent, with_party, heard_party, restarted_party, heard_world, heard_site}
pub use Rattle.scoop_model.proofs.Names.{with_site, begun_site, finished_site, reopened, reopened_world, Placement, Newcomer, new_site, new_party, opening}
pub use Rattle.scoop_model.proofs.Names.{Stepped, step, place_of, logs_after, with_entry_at, joined, World, Party, set_party, ran_at, Site, number_of, is_site}
pub use Rattle.scoop_model.proofs.Names.{site_of, set_site, is_party, sent_at, has_block, opened_at, log_of, received, count_in, greatest_count, party_of}
pub use Rattle.scoop_model.proofs.Names.{id_of, handlers_of, HandlerLog, shares_of, is_succeeded, is_newer_welcome, inc_of, is_share_of, set_of, has_end}
pub use Rattle.std.proofs.Math.Bool.{or-false, or-true, and-false}
pub use Rattle.std.proofs.Math.Seq.{take-nil}
pub use Rattle.std.proofs.lemmas.Bool.{ltb-true, le-leb, false_from_ne_true}
pub use Rattle.std.proofs.lemmas.Grind.{flat_map-append}
pub use Rattle.std.proofs.lemmas.List.Elements.{All-contains, All-from_recursion}
pub use Rattle.scoop_message.specs.Entries.{end_only_last}
pub use Rattle.scoop_queue.specs.Queue.{is_open}
pub use Rattle.scoop_handler.proofs.Basics.{all_append}
pub use Rattle.scoop_handler.specs.Hearing.{greeted_first, greeted_newer, opened_here}
pub use Rattle.scoop_handler.specs.Rows.{lock_refused, repeated_unlock}
pub use Rattle.scoop_reserve.specs.Handlers.{first_repeated_after}
pub use Rattle.scoop_model.proofs.Answering.Facts.{TellsAnswer, Answering}
pub use Rattle.scoop_model.proofs.Events.{Changes, both_kept, steps_kept, Happens, event_happens}
pub use Rattle.scoop_model.proofs.Logging.Facts.{WindowsFit, PartyLogs, Logging}
pub use Rattle.scoop_model.proofs.Logging.Logs.{IsAdded, added, log_after, log_other, reserved_same, unreserved_empty, HasLine, log_in, log_here, named_shares}
pub use Rattle.scoop_model.proofs.Moves.{Notices, steps_on, is_over, gets_answer, hears, Takes, takes_reserve, takes_call, takes_query, takes_end}
pub use Rattle.scoop_model.proofs.Moves.{takes_give_up, takes}
pub use Rattle.scoop_model.proofs.Order.Commands.{next_is_new, goes_on}
pub use Rattle.scoop_model.proofs.Order.Facts.{PartyFits, all_set_party, all_more_of, Ordered}
pub use Rattle.scoop_model.proofs.Order.Lists.{same_block_itself, same_block_is, AreApart, in_last}
pub use Rattle.scoop_model.proofs.Order.Sets.{handlers_after, leaves_at, found_changed, handlers_before, handlers_fresh}
pub use Rattle.scoop_model.proofs.Ready.Facts.{HandlerReady, Ready, IsOverIfGone, IsNamedAt, IsToldAs}
pub use Rattle.scoop_model.proofs.Ready.Runs.{facts, reached_keeps, facts_ready, Facts}
pub use Rattle.scoop_model.proofs.Sites.{set_same, anew_same, states_anew}
pub use Rattle.scoop_model.proofs.Tape.Fits.{IsBegun}
pub use Rattle.scoop_model.proofs.Tape.Shown.{left_apart, part_of, IsPart, slot_parts, length-part, none_ran}
pub use Rattle.scoop_model.proofs.Tape.Slots.{Slot, ran_in, ran_of, slot_queue, queues_of, blocks_of}
pub use Rattle.scoop_model.proofs.Whole.Facts.{Taped, SiteTaped}
pub use Rattle.scoop_model.proofs.Whole.Sent.{same_handler_itself, greatest_pushed}
pub use Rattle.scoop_model.proofs.Whole.Steps.{taped_kept, opens_taped, due_goes}
pub use Rattle.scoop_model.specs.Safe.{taken}
pub use Rattle.scoop_model.specs.Step.{with_entry}
pub use Rattle.scoop_model.specs.declared.event.Event.{Event}
pub use Rattle.scoop_rules.specs.Paper.{count_of, Waiting, configuration_of, is_cut_off, is_gone, is_of, kept, queue_at, queue_of, seen, Seen, state_of, waits}
pub use Rattle.scoop_rules.specs.Paper.{Objects, Restart, MovesLead, put_at_client, restart, LogOne, logged_to, has_open, objects_of, command_moves, Follows}
pub use Rattle.scoop_rules.specs.Paper.{FollowsRules, client_moves, message_moves, Configuration, log_one, Move, moved, no_class, empty_configuration, moves_of}
pub use Rattle.scoop_rules.specs.Paper.{moves_in, replayed, RunsByRules, LeadsByRules, has_ended, CutTo, put_at_handler, cut_to, cut_queue, cut_waiting}
pub use Rattle.scoop_rules.specs.Paper.{is_cut_by, greeting_cuts, Separate, late_cuts, note_moves, separate, new_queue, RunOne, next_ran, rest_of, run_entries}
pub use Rattle.scoop_rules.specs.Paper.{run_first, has_entry}
