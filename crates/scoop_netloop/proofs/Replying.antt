-- The replies to messages that came as frames.
use Rattle.std.proofs.Common.{◌≡◌, ℕ, List, Some, sym, subst}
use Rattle.scoop_message.specs.declared.message.Message.{Message}
use Rattle.scoop_message.specs.declared.message.Message.TheVariants.{Log}
use Rattle.scoop_message.specs.Message.{Fits}
use Rattle.scoop_message.specs.Range.{IsMessage}
use Rattle.scoop_frame.specs.declared.version.Version.{Version}
use Rattle.scoop_frame.specs.Version.{Carries}
use Rattle.scoop_frame.specs.Frame.{IsFrame}
use Rattle.scoop_handler.specs.declared.note.Heard.{Heard as HeardMessage}
use Rattle.scoop_handler.specs.Hearing.{hear}
use Rattle.scoop_handler.specs.Replies.{HasEntries, IsReplyTo, RepliesTo}
use Rattle.scoop_handler.proofs.TableRows.{row}
use Rattle.scoop_handler.proofs.TableLaws.{replies-row}
use Rattle.scoop_book.specs.declared.event.Event.TheVariants.{Hear}
use Rattle.scoop_book.specs.declared.event.Reply.TheVariants.{Heard}
use Rattle.scoop_book.specs.Moves.{LocalHandler, Moves}

has_entries : (m : Message) → IsMessage m → HasEntries m
has_entries (Log h b n es) is = (is.1.some, is.1.end)
has_entries m is = tt

-- the reply to a message that a handler heard is that of the table
replies_moved : (v : Version) (m : Message) (bytes : List ℕ) (told : HeardMessage) (hs ks : List LocalHandler)
    → IsFrame v m bytes → Moves (Hear m) (Heard told) hs ks → RepliesTo m told
replies_moved v m bytes told hs ks is moved =
    let state = moved.handler.core.state in
    subst (RepliesTo m) (sym moved.moves.tells) (replies-row state m (hear state m) (row state m) (has_entries m is.range))

-- a reply to a message that came as a frame fits
pub reply_fits : (v : Version) (m : Message) (bytes : List ℕ) (told : HeardMessage) (hs ks : List LocalHandler) (reply : Message)
    → IsFrame v m bytes → Moves (Hear m) (Heard told) hs ks → told.reply ≡ Some reply → Fits reply
reply_fits v m bytes told hs ks reply is moved e = (replies_moved v m bytes told hs ks is moved reply e).fits is.fits

carried : (v : Version) (m reply : Message) → IsReplyTo m reply → Carries v reply
carried v m (Log h b n es) is = absurd (let f = is.to_client in cc)
carried v m reply is = tt

-- it is no Log, so that each version carries it
pub reply_carried : (v : Version) (m : Message) (bytes : List ℕ) (told : HeardMessage) (hs ks : List LocalHandler) (reply : Message)
    → IsFrame v m bytes → Moves (Hear m) (Heard told) hs ks → told.reply ≡ Some reply → Carries v reply
reply_carried v m bytes told hs ks reply is moved e = carried v m reply (replies_moved v m bytes told hs ks is moved reply e)
