-- Every world that a list of events leads to is in order.
use Rattle.scoop_model.proofs.Names.{◌≡◌, List, [], refl, sym, true, true≢false, AllByRecursion, client_of, Block, all_found, all_made, steps}
use Rattle.scoop_model.proofs.Names.{IsSubsequence, nothing, InOrder, Placement, Newcomer, new_site, new_party, opening, World, Site, is_party, has_block}
use Rattle.scoop_model.proofs.Names.{Event, NoRepeats, hear, Note, OpenedNote as Opened, newly_opened, joined}
use Rattle.scoop_model.proofs.Events.{Changes, steps_kept}
use Rattle.scoop_model.proofs.Order.Facts.{SiteFits, PartyFits, Ordered, all_more_of}
use Rattle.scoop_model.proofs.Order.Handlers.{sent_tells, hears_ordered, begins_ordered, finishes_ordered, reopens_ordered}
use Rattle.scoop_model.proofs.Order.Clients.{sends_ordered, notices_ordered, restarts_ordered}
use Rattle.scoop_model.proofs.Order.Commands.{commands_ordered}
use Rattle.scoop_model.proofs.Order.Lists.{left_has, AreApart, apart_once, joined_apart}

-- ---- the common list: no block stands there twice

note_apart : (bs : List Block) (told : Note) → AreApart bs → AreApart (joined bs (newly_opened told))
note_apart bs (Opened b) d = joined_apart bs b d
note_apart bs told d = d

pub joint_kept : (w : World) → AreApart w.joint → Changes (λ v. AreApart v.joint) w
joint_kept w d = record {
  commands = λ c p x e at is. d;
  sends = λ c p h s at here. d;
  hears = λ i m s was goes here. note_apart w.joint (hear s.core.state m).1.note d;
  notices = λ i m p was goes at. d;
  begins = λ h s t here is. d;
  finishes = λ h s t here is. d;
  restarts = λ c p at room. d;
  reopens = λ n. d;
}

pub joint_once : (ps : List Placement) (ns : List Newcomer) (es : List Event) → NoRepeats (steps (opening ps ns) es).joint
joint_once ps ns es = apart_once (steps (opening ps ns) es).joint (steps_kept (λ v. AreApart v.joint) joint_kept (opening ps ns) es tt)

-- ---- the order

pub ordered_kept : (w : World) → Ordered w → Changes Ordered w
ordered_kept w o = record {
  commands = λ c p x d at is. commands_ordered w o p x d (all_found (PartyFits w) (is_party c) w.parties p o.parties at) is;
  sends = λ c p h s at here. sends_ordered w o p h (all_found (PartyFits w) (is_party c) w.parties p o.parties at);
  hears = λ i m s was goes here. hears_ordered w o i m s was here;
  notices = λ i m p was goes at. notices_ordered w o m p (sent_tells w i m was o.messages)
      (all_found (PartyFits w) (is_party (client_of m)) w.parties p o.parties at);
  begins = λ h s t here is. begins_ordered w o h s here;
  finishes = λ h s t here is. finishes_ordered w o h s here t;
  restarts = λ c p at room. restarts_ordered w o p (all_found (PartyFits w) (is_party c) w.parties p o.parties at);
  reopens = λ n. reopens_ordered w o n;
}

pub opens_ordered : (ps : List Placement) (ns : List Newcomer) → Ordered (opening ps ns)
opens_ordered ps ns = record {
  messages = tt;
  sites = all_made new_site (SiteFits []) (λ p. record {
    stored = refl;
    holds = λ b held. absurd (let f = held.found in cc);
    next = λ b held e. absurd (true≢false (sym e));
    left = nothing;
  }) ps;
  parties = all_made new_party (PartyFits (opening ps ns)) (λ n. record {
    stored = refl;
    newest = λ b ks own e. absurd (cc);
    reservation = λ r e. absurd (cc);
  }) ns;
  joint = λ b e. absurd (true≢false (sym e));
}

pub in_order : (ps : List Placement) (ns : List Newcomer) (es : List Event) → InOrder (steps (opening ps ns) es)
in_order ps ns es =
    let o = steps_kept Ordered ordered_kept (opening ps ns) es (opens_ordered ps ns) in
    let w : World = steps (opening ps ns) es in
    record { once = joint_once ps ns es; common = all_more_of (SiteFits w.joint) (λ s. IsSubsequence s.opened w.joint) (λ s f. f.left) w.sites o.sites }

-- a block that opened at the handler is in the list
abbrev pub OpenedIn : List Block → Site → Type 0
OpenedIn js s = (b : Block) → has_block s.opened b ≡ true → has_block js b ≡ true

pub opened_in_joint :
    (ps : List Placement) (ns : List Newcomer) (es : List Event) → AllByRecursion (OpenedIn (steps (opening ps ns) es).joint) (steps (opening ps ns) es).sites
opened_in_joint ps ns es =
    let w : World = steps (opening ps ns) es in
    all_more_of (λ s. IsSubsequence s.opened w.joint) (OpenedIn w.joint) (λ s left b e. left_has left b e) w.sites (in_order ps ns es).common
