-- The bytes of a request, and the body of its response.
use Rattle.std.specs.Prelude.{ℕ, Bool, true, false, Result, Ok, Err, ◌≤◌, List, [], ◌∷◌, ◌++◌, length, codes, slice_range, ⊤}
use Rattle.httparse.specs.declared.spans.ResponseSpans.{ResponseSpans}
use Rattle.http1.specs.declared.conn.Event.{Event}
use Rattle.http1.specs.declared.conn.Event.TheVariants.{NeedMore, Head, Informational, Data, End, Paused, Upgraded, Closed}
use Rattle.http1.specs.declared.conn.Limits.{Limits}
use Rattle.http1.specs.declared.conn.BodySize.TheVariants.{Known}
use Rattle.http1.specs.Fields.{Header}
use Rattle.http1.specs.Conn.{after_data, data_text, finish_text}
use Rattle.http1.specs.Client.{new_client, planned_request, after_request, with_writing, writing}
use Rattle.scoop_etcd_gateway.specs.declared.exchange.Step.{Step}
use Rattle.scoop_etcd_gateway.specs.declared.exchange.Step.TheVariants as after
use Rattle.scoop_etcd_gateway.specs.declared.exchange.HttpFault.{HttpFault}
use Rattle.scoop_etcd_gateway.specs.declared.exchange.HttpFault.TheVariants.{OtherProtocol}

abbrev pub post_headers : List ℕ → List Header
post_headers host = (codes "host", host) ∷ (codes "content-type", codes "application/json") ∷ []

-- A POST of this body. It states the body's length, and keeps the connection.
abbrev pub post_text : Limits → List ℕ → List ℕ → List ℕ → List ℕ
post_text limits host path body =
    let start = new_client limits in
    let size = Known (length body) in
    let headers = post_headers host in
    let asked = after_request start (codes "POST") size headers in
    let sent = with_writing asked (after_data (writing asked) (length body)) in
    planned_request start (codes "POST") path size headers ++ (data_text (writing asked) body ++ finish_text (writing sent) [])

-- a part of the body lies in the input
abbrev pub IsDataWithin : ℕ → Event ResponseSpans → Type 0
IsDataWithin len NeedMore = ⊤
IsDataWithin len (Head head) = ⊤
IsDataWithin len (Informational head) = ⊤
IsDataWithin len (Data span) = (span.start ≤ span.end) × (span.end ≤ len)
IsDataWithin len (End count) = ⊤
IsDataWithin len Paused = ⊤
IsDataWithin len Upgraded = ⊤
IsDataWithin len Closed = ⊤

-- the part of the body that came with an event
abbrev pub piece_of : Event ResponseSpans → List ℕ → List ℕ
piece_of NeedMore input = []
piece_of (Head head) input = []
piece_of (Informational head) input = []
piece_of (Data span) input = slice_range input span.start span.end
piece_of (End count) input = []
piece_of Paused input = []
piece_of Upgraded input = []
piece_of Closed input = []

-- the status of a head that was read, or else the one before
abbrev pub status_after : ℕ → Event ResponseSpans → ℕ
status_after status NeedMore = status
status_after status (Head head) = head.code
status_after status (Informational head) = status
status_after status (Data span) = status
status_after status (End count) = status
status_after status Paused = status
status_after status Upgraded = status
status_after status Closed = status

-- the step after an event: another event, more bytes, or the end of the response
abbrev pub step_after : Event ResponseSpans → Result Step HttpFault
step_after NeedMore = Ok after.NeedMore
step_after (Head head) = Ok after.Again
step_after (Informational head) = Ok after.Again
step_after (Data span) = Ok after.Again
step_after (End count) = Ok after.Whole
step_after Paused = Err OtherProtocol
step_after Upgraded = Err OtherProtocol
step_after Closed = Err OtherProtocol

-- the last step, by whether the response is whole
abbrev pub last_step : Bool → Step
last_step true = after.Whole
last_step false = after.NeedMore
