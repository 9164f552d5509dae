-- A block that begins has no log yet.
use Rattle.std.proofs.Common.{◌≡◌, ℕ, true, false, ◌||◌, true≢false, List, [], ◌∷◌, find, slice_get, Some, refl, sym, ap, subst, arith}
use Rattle.std.specs.Prelude.{Ok, if◌then◌else◌}
use Rattle.std.specs.Option.{option_map}
use Rattle.scoop_message.specs.declared.name.Block.{Block}
use Rattle.scoop_message.specs.declared.name.HandlerId.{HandlerId}
use Rattle.scoop_client.specs.State.{ClientState}
use Rattle.scoop_client.specs.declared.command.Command.TheVariants.{Reserve}
use Rattle.scoop_client.specs.Commands as client
use Rattle.scoop_client.specs.Rows.{ReserveRow, begins_block}
use Rattle.scoop_client.proofs.CommandRows.{command_row}
use Rattle.scoop_model.specs.World.{World, Party, BlockLog, is_log_of, handlers_in}
use Rattle.scoop_model.specs.Step.{newest_block}
use Rattle.scoop_model.specs.Reach.{IsReached}
use Rattle.scoop_world.specs.Kept.{has_log}
use Rattle.scoop_model.proofs.Basics.{ok_is, by_test}
use Rattle.scoop_model.proofs.Reaching.{reached_ordered}
use Rattle.scoop_model.proofs.Order.Facts.{PartyFits, all_at}

-- a block that has a log has handlers
handlers_found :
    (b : Block) (logs : List BlockLog) → has_log b logs ≡ true → (hs : List HandlerId) × (option_map handlers_in (find (is_log_of b) logs) ≡ Some hs)
handlers_found b [] e = absurd (true≢false (sym e))
handlers_found b (l ∷ ls) e =
    by_test (λ t. (t || has_log b ls) ≡ true → (hs : List HandlerId) × (option_map handlers_in (if t then Some l else find (is_log_of b) ls) ≡ Some hs))
    (is_log_of b l)
    (λ _ f. (handlers_in l, refl))
    (λ _ f. handlers_found b ls f) e

begun_block : (c d : ClientState) (hs : List HandlerId) (o : client.Outcome) → ReserveRow c hs o → o ≡ Ok d → newest_block d ≡ client.next_block c
begun_block c d hs o (begins_block r idle room begins) is = ap newest_block (sym (ok_is (client.with_block c hs r) d is))
begun_block c d hs o r is = absurd (cc)

pub begun_is : (c d : ClientState) (hs : List HandlerId) → client.command c (Reserve hs) ≡ Ok d → newest_block d ≡ client.next_block c
begun_is c d hs is = begun_block c d hs _ (command_row c (Reserve hs)) is

pub begun_is_new :
    (v : World) (at : ℕ) (p : Party) (hs : List HandlerId) (d : ClientState) → IsReached v → slice_get v.parties at ≡ Some p
    → client.command p.client (Reserve hs) ≡ Ok d → has_log (newest_block d) v.logs ≡ false
begun_is_new v at p hs d reached there is =
    let fits : PartyFits v p = all_at (PartyFits v) v.parties at p there (reached_ordered v reached).parties in
    let b : Block = client.next_block p.client in
    subst (λ (x : Block). has_log x v.logs ≡ false) (sym (begun_is p.client d hs is))
    (by_test (λ t. has_log b v.logs ≡ t → t ≡ false) (has_log b v.logs)
    (λ _ e.
    let found = handlers_found b v.logs e in
    let u = fits.newest b found.0 refl found.1 in
    let le = u.num refl in
    absurd (omega (arith, le)))
    (λ _ e. refl) refl)
