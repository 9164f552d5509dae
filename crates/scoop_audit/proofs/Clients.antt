-- A client's journal, line by line.
use Rattle.std.proofs.Common.{◌≡◌, ◌<◌, ℕ, List, [], ◌∷◌, ◌++◌, Some, refl, sym, ap, ◌∙◌}
use Rattle.scoop_message.specs.declared.name.ClientId.{ClientId}
use Rattle.scoop_message.specs.declared.message.Message.{Message}
use Rattle.scoop_driver.specs.declared.step.Step.{Step}
use Rattle.scoop_journal.specs.declared.line.Line.{Line}
use Rattle.scoop_journal.specs.declared.line.Line.TheVariants.{NodeLife, ClientLife, Open, Hear, Begin, Finish, Do, Turn, Broke}
use Rattle.scoop_journal.specs.Journal.{ended}
use Rattle.scoop_weave.specs.System.{LocalClient}
use Rattle.scoop_replay.specs.Client.{ClientValue, RestartsOn, StepsOn, after_one_restart, after_one_step}
use Rattle.scoop_audit.specs.Lines.{HasNoNewline}
use Rattle.scoop_audit.specs.Client.{ClientRead, ClientUpTo, ReadsClient, StepsBy, ends_life, last_turn, step_of, tells_life}
use Rattle.scoop_audit.specs.Client.{tells_nothing, tells_step}
use Rattle.scoop_audit.proofs.Texts.{text_more}

-- the step of a line
record LineStep (l : Line) (old new : ClientValue) (post more : List Message) : Type 0 where
  step : Step
  is : step_of l ≡ Some step
  steps : StepsOn step old new post more

line_step : (l : Line) (old new : ClientValue) (post more : List Message) → StepsBy l old new post more → LineStep l old new post more
line_step (NodeLife n) old new post more by = absurd by
line_step (ClientLife c inc batch) old new post more by = absurd by
line_step (Open h image pending) old new post more by = absurd by
line_step (Hear m reply) old new post more by = absurd by
line_step (Begin h) old new post more by = absurd by
line_step (Finish h) old new post more by = absurd by
line_step (Do x) old new post more by = record { step = _; is = refl; steps = by }
line_step (Turn a) old new post more by = record { step = _; is = refl; steps = by }
line_step (Broke place) old new post more by = record { step = _; is = refl; steps = by }

module _ (id : ClientId) (batch : ℕ) where
  pub reads_nothing : (old : ClientValue) (post : List Message) → ReadsClient id batch 0 [] old old post post
  reads_nothing old post joined t at tale = record { tale = t; now_is = at; is_tale = tale; tells = tells_nothing }

  pub client_nothing : (bytes : List ℕ) (old : ClientValue) (post : List Message) → ClientUpTo id batch 0 bytes bytes old old post post
  client_nothing bytes old post = record { lines = []; bytes_are = refl; reads = reads_nothing old post }

  module _ (last : ℕ) (lines : List Line) (old between new : ClientValue) (post sent more : List Message) where
    reads_step :
        (l : Line) → ReadsClient id batch last lines old between post sent → between.client.inc ≡ last → LineStep l between new sent more
        → ReadsClient id batch last (lines ++ l ∷ []) old new post more
    reads_step l reads at x joined t begins tale =
        let r = reads joined t begins tale in
        let next = x.steps joined r.tale r.now_is r.is_tale in
        record {
          tale = after_one_step x.step r.tale;
          now_is = sym next.1;
          is_tale = next.0;
          tells = tells_step last lines r.tale l x.step r.tells (ap (λ (c : LocalClient). c.stored) r.now_is ∙ at) x.is;
        }

    pub reads_end :
        (next : ClientValue) (onward : List Message) → ReadsClient id batch last lines old between post sent → StepsOn last_turn between next sent onward
        → RestartsOn next new onward more → ReadsClient id batch last lines old new post more
    reads_end next onward reads turned restarts joined t begins tale =
        let r = reads joined t begins tale in
        let s = turned joined r.tale r.now_is r.is_tale in
        let a = restarts joined (after_one_step last_turn r.tale) (sym s.1) s.0 in
        record {
          tale = after_one_restart (after_one_step last_turn r.tale);
          now_is = sym a.1;
          is_tale = a.0;
          tells = ends_life last lines r.tale r.tells;
        }

  reads_life :
      (last inc : ℕ) (lines : List Line) (old now : ClientValue) (post more : List Message) → ReadsClient id batch last lines old now post more
      → now.client.inc ≡ inc → last < inc → ReadsClient id batch inc (lines ++ ClientLife id inc batch ∷ []) old now post more
  reads_life last inc lines old now post more reads at later joined t begins tale =
      let r = reads joined t begins tale in
      record {
        tale = r.tale;
        now_is = r.now_is;
        is_tale = r.is_tale;
        tells = tells_life last inc lines r.tale r.tells later (ap (λ (c : LocalClient). c.stored) r.now_is ∙ at);
      }

  pub life_told :
      (last inc : ℕ) (bytes rest : List ℕ) (old now : ClientValue) (post more : List Message)
      → ClientUpTo id batch last bytes (ended (ClientLife id inc batch) ++ rest) old now post more → now.client.inc ≡ inc → last < inc
      → ClientUpTo id batch inc bytes rest old now post more
  life_told last inc bytes rest old now post more up at later =
      record {
        lines = up.lines ++ ClientLife id inc batch ∷ [];
        bytes_are = text_more bytes rest up.lines (ClientLife id inc batch) up.bytes_are;
        reads = reads_life last inc up.lines old now post more up.reads at later;
      }

  pub step_told :
      (last : ℕ) (l : Line) (bytes rest : List ℕ) (old between new : ClientValue) (post sent more : List Message)
      → ClientUpTo id batch last bytes (ended l ++ rest) old between post sent → between.client.inc ≡ last → StepsBy l between new sent more
      → ClientUpTo id batch last bytes rest old new post more
  step_told last l bytes rest old between new post sent more up at by =
      record {
        lines = up.lines ++ l ∷ [];
        bytes_are = text_more bytes rest up.lines l up.bytes_are;
        reads = reads_step last up.lines old between new post sent more l up.reads at (line_step l between new sent more by);
      }

  pub end_told :
      (last : ℕ) (bytes rest : List ℕ) (old between next new : ClientValue) (post sent onward more : List Message)
      → ClientUpTo id batch last bytes rest old between post sent → StepsOn last_turn between next sent onward → RestartsOn next new onward more
      → ClientUpTo id batch last bytes rest old new post more
  end_told last bytes rest old between next new post sent onward more up turned restarts =
      record {
        lines = up.lines;
        bytes_are = up.bytes_are;
        reads = reads_end last up.lines old between new post sent more next onward up.reads turned restarts;
      }

  pub all_told :
      (last : ℕ) (bytes rest : List ℕ) (old between new : ClientValue) (post sent more : List Message)
      → ClientUpTo id batch last bytes rest old between post sent → HasNoNewline rest → StepsOn last_turn between new sent more
      → ClientRead id batch bytes old new post more
  all_told last bytes rest old between new post sent more up none turned =
      record {
        last = last;
        lines = up.lines;
        journal = record { half = rest; bytes_are = up.bytes_are; no_line = none };
        between = between;
        sent = sent;
        reads = up.reads;
        turned = turned;
      }
