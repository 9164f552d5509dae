-- The names that the proofs share.
pub use Rattle.std.proofs.Common.{◌≡◌, List, [], ap, ◌∙◌, ◌∷◌, refl, sym, ◌++◌, subst, Some, ℕ, false, true, map, ◌==◌, Bool, Option, None, append-nil, suc}
pub use Rattle.std.proofs.Common.{◌+◌, arith, slice_get, length, zero, true≢false, ◌||◌, find, append_assoc, ◌<◌, flat_map, filter, is_some, ◌≤◌, ◌&&◌, take}
pub use Rattle.std.proofs.Common.{drop, inl, inr}
pub use Rattle.std.specs.Prelude.{if◌then◌else◌, Ok, Contains, ⊤, Err}
pub use Rattle.std.specs.List.{AllByRecursion, list_any}
pub use Rattle.std.specs.Option.{option_map, option_map_or}
pub use Rattle.std.proofs.lemmas.Simd.{map-map}
pub use Rattle.std.proofs.lemmas.Bool.{and_parts}
pub use Rattle.std.proofs.lemmas.Bool.Decides.{Decides-eqb}
pub use Rattle.std.specs.Bool.{Decides}
pub use Rattle.scoop_message.specs.declared.name.HandlerId.{HandlerId}
pub use Rattle.scoop_model.proofs.Basics.{by_test}
pub use Rattle.scoop_message.specs.Message.{same_handler, same_client, handler_of, client_of, is_for_handler}
pub use Rattle.scoop_model.specs.World.{World, site_of, Site, party_of, sent_at, is_party, Party, number_of, Accepted, BlockLog, is_site}
pub use Rattle.scoop_message.proofs.Same.{handler_decides, client_decides, message_decides}
pub use Rattle.scoop_model.proofs.Keys.{key_found}
pub use Rattle.scoop_message.specs.declared.message.Message.{Message}
pub use Rattle.scoop_model.specs.Reach.{IsReached, Run, Leads}
pub use Rattle.scoop_message.specs.declared.name.ClientId.{ClientId}
pub use Rattle.scoop_message.specs.declared.name.Block.{Block}
pub use Rattle.scoop_message.specs.Lists.{NoRepeats}
pub use Rattle.scoop_reserve.specs.Handlers.{has}
pub use Rattle.scoop_handler.specs.Local.{LocalHandler, opening_handler, local_handler, opening_state, after_finish, after_begin, leaves, after_hearing}
pub use Rattle.scoop_handler.specs.State.{HandlerState}
pub use Rattle.scoop_model.specs.Step.{Placement, Newcomer, newest_block, with_party, step, with_site, begun_site, finished_site, reopened, reopened_world}
pub use Rattle.scoop_model.specs.Step.{heard_world, place_of, taken, taken_by_handler, taken_by_client, joined, opening, commanded_world, with_sent}
pub use Rattle.scoop_model.specs.Step.{heard_party, restarted_party}
pub use Rattle.scoop_model.specs.Opening.{MayOpen}
pub use Rattle.scoop_handler.specs.declared.ran.Ran.{Ran}
pub use Rattle.scoop_handler.specs.Core.{core_of}
pub use Rattle.scoop_handler.specs.Hearing.{hear}
pub use Rattle.scoop_model.proofs.Order.Facts.{all_found, SiteFits, all_more_of}
pub use Rattle.scoop_client.specs.State.{ClientState}
pub use Rattle.scoop_handler.specs.Running.{Task, job_out, ran_of, ready}
pub use Rattle.scoop_model.proofs.Reaching.{reached_ordered}
pub use Rattle.scoop_message.specs.declared.message.Message.TheVariants.{Welcome, Locked, Opened, Logged, Hello, Lock, Busy, Open, Unlock, Unlocked, Log}
pub use Rattle.scoop_message.specs.declared.message.Message.TheVariants.{Answer}
pub use Rattle.scoop_handler.proofs.TableRows.{row}
pub use Rattle.scoop_handler.proofs.TableLaws.{number-row}
pub use Rattle.scoop_handler.proofs.Basics.{all_append}
pub use Rattle.scoop_model.specs.declared.event.Event.{Event}
pub use Rattle.scoop_client.specs.Hearing.{heard}
pub use Rattle.scoop_model.specs.declared.event.Event.TheVariants.{Take}
pub use Rattle.scoop_model.proofs.Knowing.Owing.{none_due}
pub use Rattle.scoop_model.proofs.Knowing.Runs.{KnowsSites, clients_know}
pub use Rattle.scoop_book.specs.declared.event.Event.TheVariants.{Hear, Begin, Finish}
pub use Rattle.scoop_book.specs.Moves.{Replays, handler_at}
pub use Rattle.scoop_driver.specs.Steps.{AllCan}
pub use Rattle.scoop_client.specs.Due.{due}
pub use Rattle.scoop_client.specs.declared.command.Command.{Command}
pub use Rattle.scoop_client.proofs.Rows.{heard_row}
pub use Rattle.scoop_model.proofs.Answering.Onward.{onward_heard, onward_commanded}
pub use Rattle.scoop_model.proofs.Headline.{reached_safe}
pub use Rattle.scoop_weave.specs.Moves.{LocalMove, Began, Finished, NodeReopened, sent_by, Heard, Commanded, Sent, ClientHeard, ClientRestarted, AtHandler}
pub use Rattle.scoop_weave.specs.Moves.{HandlerMoves, Goes, HeardIn, Moves, IsWeave, AtClient, AtNode, sent_in, ClientMoves}
pub use Rattle.scoop_weave.specs.System.{PlacedHandler, System, its_number, id_in, with_local, LocalClient, placed_in, after_reopening, IsStored, client_in}
pub use Rattle.scoop_weave.specs.System.{with_placed, with_client, after_step, new_system, new_placed, after_restart, new_client, newer_placed, stored_in}
pub use Rattle.scoop_weave.specs.System.{is_placed, on_node}
pub use Rattle.scoop_weave.specs.Histories.{world_by, site_by, party_by, event_in, ran_by, accepted_by, ran_here, opened_by, site_with, opened_here, place_in}
pub use Rattle.scoop_weave.specs.Histories.{accepted_here, party_with, opened_in, logs_more, logs_by, joint_by}
pub use Rattle.scoop_weave.specs.Nodes.{is_of, NodeRuns, AtOne, NodeMoves, Node, IsNode, IsWovenOfNodes}
pub use Rattle.scoop_weave.specs.Order.{own, party_at}
pub use Rattle.scoop_weave.specs.Weave.{Weave, IsWorld}
pub use Rattle.scoop_weave.specs.Parties.{ClientRuns, is_by, HeardAfterSent, EachClient, IsMember, moves_by, has_handler, has_node, has_client, is_at}
pub use Rattle.scoop_weave.specs.Parties.{moves_at, HandlerRuns, EachHandler, IsWoven}
pub use Rattle.scoop_weave.specs.NodeHistories.{local_of}
pub use Rattle.scoop_weave.specs.Lives.{NodeLife, Runs, IsNodeLife, IsClientLife, words_in}
