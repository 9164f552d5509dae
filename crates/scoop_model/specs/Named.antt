-- The condition on a message that names a block.
use Rattle.std.specs.Prelude.{◌≡◌, ◌≤◌, List, Some, true}
use Rattle.scoop_message.specs.declared.name.Block.{Block}
use Rattle.scoop_message.specs.declared.name.HandlerId.{HandlerId}
use Rattle.scoop_message.specs.declared.message.Message.{Message}
use Rattle.scoop_handler.specs.declared.mark.Mark.{Mark}
use Rattle.scoop_handler.specs.Marks.{mark_of}
use Rattle.scoop_handler.specs.Replies.{named_block}
use Rattle.scoop_reserve.specs.Handlers.{has}
use Rattle.scoop_model.specs.World.{World, Site, Party, site_of, party_of}

-- the block's client has a mark, whose incarnation isn't below the block's
pub record IsMarked (b : Block) (marks : List Mark) : Type 0 where
  pub mark : Mark
  pub found : mark_of b.client marks ≡ Some mark
  pub inc : b.inc ≤ mark.inc

-- every handler that the block's client knows was greeted by the block's incarnation of it, or by a newer one
pub record KnowsIncarnation (w : World) (b : Block) : Type 0 where
  pub marked : (p : Party) (h : HandlerId) (s : Site) → party_of b.client w ≡ Some p → has p.client.handlers h ≡ true → site_of h w ≡ Some s
      → IsMarked b s.core.state.marks

-- if the message names a block, its incarnation is known
pub record NamesKnown (w : World) (m : Message) : Type 0 where
  pub known : (b : Block) → named_block m ≡ Some b → KnowsIncarnation w b
