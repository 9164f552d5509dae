-- A world: all parties, every message ever sent, and the record of past events.
use Rattle.std.specs.Prelude.{ℕ, ◌-◌, ◌==◌, ◌&&◌, max, nat_lt, Bool, false, if◌then◌else◌, List, [], ◌∷◌, map, find, slice_get, Option, None, unwrap_or}
use Rattle.std.specs.List.{list_any}
use Rattle.std.specs.Option.{option_map, option_map_or}
use Rattle.scoop_message.specs.declared.name.Block.{Block}
use Rattle.scoop_message.specs.declared.name.ClientId.{ClientId}
use Rattle.scoop_message.specs.declared.name.HandlerId.{HandlerId}
use Rattle.scoop_message.specs.declared.request.Answer.{Answer as ObjectAnswer}
use Rattle.scoop_message.specs.declared.request.Entry.{Entry}
use Rattle.scoop_message.specs.declared.message.Message.{Message}
use Rattle.scoop_message.specs.declared.message.Message.TheVariants.{Welcome, Logged}
use Rattle.scoop_message.specs.Entry.{is_end}
use Rattle.scoop_message.specs.Message.{same_client, same_handler, same_block}
use Rattle.scoop_handler.specs.declared.ran.Ran.{Ran}
use Rattle.scoop_handler.specs.State.{HandlerState}
use Rattle.scoop_handler.specs.Core.{Core}
use Rattle.scoop_client.specs.State.{ClientState}

-- a handler in the world: its node, the words with which its object was placed, the handler and its stored
-- state, the blocks that opened here in their order, and what has run here in its order
pub record Site : Type 0 where
  pub node : ℕ
  pub placed : List ℕ
  pub core : Core
  pub stored : HandlerState
  pub opened : List Block
  pub ran : List Ran

-- an answer that a client accepted: the handler, the block, the query's number, and the answer
abbrev pub Accepted : Type 0
Accepted = HandlerId × Block × ℕ × ObjectAnswer

-- a client in the world: the client, its stored incarnation, and what it accepted over all incarnations
pub record Party : Type 0 where
  pub client : ClientState
  pub stored : ℕ
  pub accepted : List Accepted

-- the entries that a block's client logged for one handler
pub record HandlerLog : Type 0 where
  pub handler : HandlerId
  pub entries : List Entry

-- a block that was reserved: its handlers as they were named, with what its client logged for each
pub record BlockLog : Type 0 where
  pub block : Block
  pub shares : List HandlerLog

pub record World : Type 0 where
  pub sites : List Site
  pub parties : List Party
  pub sent : List Message  -- every message that was ever sent, oldest first
  pub joint : List Block  -- each block at its first opening anywhere
  pub logs : List BlockLog  -- every block that was ever reserved

-- ---- handlers and clients

abbrev pub number_of : Site → HandlerId
number_of s = s.core.state.number

abbrev pub is_site : HandlerId → Site → Bool
is_site h s = same_handler (number_of s) h

abbrev pub site_of : HandlerId → World → Option Site
site_of h w = find (is_site h) w.sites

-- the entries that have run at a handler
abbrev pub ran_at : HandlerId → World → List Ran
ran_at h w = option_map_or (λ s. s.ran) (site_of h w) []

abbrev pub opened_at : HandlerId → World → List Block
opened_at h w = option_map_or (λ s. s.opened) (site_of h w) []

abbrev pub id_of : Party → ClientId
id_of p = p.client.id

abbrev pub is_party : ClientId → Party → Bool
is_party c p = same_client (id_of p) c

abbrev pub party_of : ClientId → World → Option Party
party_of c w = find (is_party c) w.parties

-- the incarnation of a client, 0 where it isn't in the world
abbrev pub inc_of : World → ClientId → ℕ
inc_of w c = option_map_or (λ p. p.client.inc) (party_of c w) 0

-- the site in place of its handler's, and the party in place of its client's
abbrev pub newer_site : Site → Site → Site
newer_site s x = if is_site (number_of s) x then s else x

abbrev pub set_site : Site → List Site → List Site
set_site s sites = map (newer_site s) sites

abbrev pub newer_party : Party → Party → Party
newer_party p x = if is_party (id_of p) x then p else x

abbrev pub set_party : Party → List Party → List Party
set_party p parties = map (newer_party p) parties

-- ---- blocks and what was logged for them

abbrev pub has_block : List Block → Block → Bool
has_block bs b = list_any (λ x. same_block x b) bs

abbrev pub is_log_of : Block → BlockLog → Bool
is_log_of b l = same_block l.block b

abbrev pub is_share_of : HandlerId → HandlerLog → Bool
is_share_of h l = same_handler l.handler h

-- the shares of a block, none where it was never reserved
abbrev pub shares_of : Block → List BlockLog → List HandlerLog
shares_of b logs = option_map_or (λ l. l.shares) (find (is_log_of b) logs) []

abbrev pub handlers_in : BlockLog → List HandlerId
handlers_in l = map (λ x. x.handler) l.shares

-- the handlers that the block's reserve named, if it was ever reserved
abbrev pub handlers_of : Block → World → Option (List HandlerId)
handlers_of b w = option_map handlers_in (find (is_log_of b) w.logs)

abbrev pub set_of : Block → World → List HandlerId
set_of b w = unwrap_or (handlers_of b w) []

-- the entries that the block's client logged for the handler, if the block has reserved it
abbrev pub logged_at : Block → HandlerId → World → Option (List Entry)
logged_at b h w = option_map (λ l. l.entries) (find (is_share_of h) (shares_of b w.logs))

abbrev pub log_of : Block → HandlerId → World → List Entry
log_of b h w = unwrap_or (logged_at b h w) []

-- the entries have an End
abbrev pub has_end : List Entry → Bool
has_end es = list_any is_end es

-- ---- what the messages sent so far tell

-- the i-th message that was sent, i from 1
abbrev pub sent_at : ℕ → World → Option Message
sent_at i w = if i == 0 then None else slice_get w.sent (i - 1)

-- the handler welcomes a newer incarnation of the block's client
abbrev pub is_newer_welcome : HandlerId → Block → Message → Bool
is_newer_welcome h b (Welcome x c inc) = same_handler x h && (same_client c b.client && nat_lt b.inc inc)
is_newer_welcome h b m = false

-- the handler has been greeted by a newer incarnation of the block's client
abbrev pub is_succeeded : Block → HandlerId → World → Bool
is_succeeded b h w = list_any (is_newer_welcome h b) w.sent

-- how many entries of the block the handler has received, as the message tells
abbrev pub count_in : HandlerId → Block → Message → ℕ
count_in h b (Logged x y n) = if same_handler x h && same_block y b then n else 0
count_in h b m = 0

abbrev pub greatest_count : HandlerId → Block → List Message → ℕ
greatest_count h b [] = 0
greatest_count h b (m ∷ ms) = max (count_in h b m) (greatest_count h b ms)

-- the greatest count of the block's entries that the handler acknowledged
abbrev pub received : Block → HandlerId → World → ℕ
received b h w = greatest_count h b w.sent
