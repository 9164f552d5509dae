-- How a response is read.
use Rattle.std.specs.Prelude.{◌≡◌, ℕ, List, drop, ◌++◌, Ok}
use Rattle.httparse.specs.declared.spans.HeaderSpan.{HeaderSpan}
use Rattle.httparse.specs.declared.spans.ResponseSpans.{ResponseSpans}
use Rattle.http1.specs.declared.conn.Progress.{Progress}
use Rattle.http1.specs.Client.{ClientReads}
use Rattle.scoop_etcd_gateway.specs.declared.exchange.Exchange.{Exchange}
use Rattle.scoop_etcd_gateway.specs.Post.{piece_of, status_after, step_after}
use Rattle.scoop_etcd_gateway.specs.declared.exchange.Step.{Step}
use Rattle.scoop_etcd_gateway.specs.declared.exchange.Step.TheVariants.{Again}

-- more bytes came, and nothing was read yet
pub record Comes (old : Exchange) (piece : List ℕ) (new : Exchange) : Type 0 where
  pub unread : new.unread.items ≡ old.unread.items ++ piece
  pub client : new.client ≡ old.client
  pub status : new.status ≡ old.status
  pub body : new.body.items ≡ old.body.items

-- one event was read, its part of the body added, and this follows
pub record Steps (old new : Exchange) (step : Step) : Type 0 where
  pub spans : List HeaderSpan
  pub read : Progress ResponseSpans
  pub reads : ClientReads old.client old.unread.items spans new.client read
  pub unread : new.unread.items ≡ drop read.consumed old.unread.items
  pub status : new.status ≡ status_after old.status read.event
  pub body : new.body.items ≡ old.body.items ++ piece_of read.event old.unread.items
  pub next : step_after read.event ≡ Ok step

-- events were read, one after another, and each time another one may follow
pub data Runs (start : Exchange) : Exchange → Type 0 where
  stays : Runs start start
  goes : (now next : Exchange) → Runs start now → Steps now next Again → Runs start next
