-- A command keeps the order. Only a reserve matters. Its block is newer than all that its client has named, so it has no handlers
-- yet. The reserve sets them once, and all of them are left to lock.
use Rattle.scoop_model.proofs.Names.{◌≡◌, List, Some, None, refl, sym, ap, ◌∙◌, arith, Ok, ◌≤◌, Option, false, true≢false, ⊎_elim, same_Some, client_decides}
use Rattle.scoop_model.proofs.Names.{Block, HandlerId, asked, fresh, ReservationState, ClientState, Command, newest_block, commanded_world, World, Party}
use Rattle.scoop_model.proofs.Names.{is_party, id_of, handlers_of}
use Rattle.scoop_model.proofs.Order.Sets.{handlers_after, handlers_before, handlers_fresh}
use Rattle.scoop_model.proofs.Order.Holding.{upto_itself, upto_more}
use Rattle.scoop_model.proofs.Order.Facts.{Tells, ReservationFits, PartyFits, Ordered, Extends, all_more, tells_more, reservation_more, all_more_of}
use Rattle.scoop_model.proofs.Order.Facts.{all_set_party}
use Rattle.scoop_model.proofs.Moves.{Takes, takes_reserve, takes_give_up, takes}
use Rattle.scoop_client.specs.Commands as client
pub use Rattle.scoop_model.proofs.Moves.{started_fresh}

-- ---- a command

-- the client goes on to this one by the command
pub record GoesOn (w : World) (p : Party) (x : Command) (d : ClientState) : Type 0 where
  pub id : d.id ≡ p.client.id
  pub inc : d.inc ≡ p.client.inc
  pub last : p.client.last ≤ d.last
  pub reservation : (r : ReservationState) → d.reservation ≡ Some r → ReservationFits (commanded_world w p x d) r

module _ (w : World) (p : Party) (x : Command) (d : ClientState) where
  extends : Extends w (commanded_world w p x d)
  extends = record { granted = λ j b g. g; sets = λ b hs e. handlers_after x (newest_block d) b w.logs hs e }

  same_reservation :
      PartyFits w p → d.reservation ≡ p.client.reservation → (r : ReservationState) → d.reservation ≡ Some r → ReservationFits (commanded_world w p x d) r
  same_reservation f same r e = reservation_more w (commanded_world w p x d) extends r (f.reservation r (sym same ∙ e))

  party_goes_on : PartyFits w p → GoesOn w p x d → PartyFits (commanded_world w p x d) (record p { client = d })
  party_goes_on f g = grind (arith, upto_more, upto_itself, handlers_before)

  other_stays : (y : Party) → is_party (id_of (record p { client = d })) y ≡ false → PartyFits w y → PartyFits (commanded_world w p x d) y
  other_stays y other f = record {
    stored = f.stored;
    newest = λ b hs own e.
        ⊎_elim
        (λ (old : handlers_of b w ≡ Some hs). f.newest b hs own old)
        (λ (new : newest_block d ≡ b).
        let mine : d.id ≡ id_of y = ap (λ (z : Block). z.client) new ∙ own in
        absurd (true≢false (sym ((client_decides (id_of y) d.id).1 (sym mine)) ∙ other)))
        (handlers_before x (newest_block d) b w.logs hs e);
    reservation = λ r e. reservation_more w (commanded_world w p x d) extends r (f.reservation r e);
  }

  goes_on_ordered : Ordered w → PartyFits w p → GoesOn w p x d → Ordered (commanded_world w p x d)
  goes_on_ordered o f g =
      let v = commanded_world w p x d in
      record {
        messages = all_more_of (Tells w) (Tells v) (tells_more w v extends) w.sent o.messages;
        sites = o.sites;
        parties = all_set_party (PartyFits w) (PartyFits v) (record p { client = d }) w.parties (party_goes_on f g) other_stays o.parties;
        joint = λ b e. all_more w v extends b (o.joint b e);
      }

-- the next block has no handlers yet
pub next_is_new : (w : World) (p : Party) → PartyFits w p → (o : Option (List HandlerId)) → handlers_of (client.next_block p.client) w ≡ o
    → handlers_of (client.next_block p.client) w ≡ None
next_is_new w p f None e = e
next_is_new w p f (Some hs) e = grind arith

goes_on_by : (w : World) (p : Party) (x : Command) (d : ClientState) → Takes p.client x d → PartyFits w p → GoesOn w p x d
goes_on_by w p x d (takes_reserve hs at_idle begins) f = grind (arith, same_Some, fresh, handlers_fresh, next_is_new, true≢false)
goes_on_by w p x d (takes_give_up r held at) f = grind (arith, asked, same_Some, reservation_more, extends)
goes_on_by w p x d t f = record { id = refl; inc = refl; last = omega arith; reservation = same_reservation w p x d f refl }

pub goes_on : (w : World) (p : Party) (x : Command) (d : ClientState) → client.command p.client x ≡ Ok d → PartyFits w p → GoesOn w p x d
goes_on w p x d e f = goes_on_by w p x d (takes p.client d x e) f

pub commands_ordered : (w : World) → Ordered w → (p : Party) (x : Command) (d : ClientState) → PartyFits w p → client.command p.client x ≡ Ok d
    → Ordered (commanded_world w p x d)
commands_ordered w o p x d f e = goes_on_ordered w p x d o f (goes_on w p x d e f)
