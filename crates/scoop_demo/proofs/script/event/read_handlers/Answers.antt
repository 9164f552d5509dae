use Rattle.std.proofs.Common.{◌<◌, ◌∙◌, length, arith, ap, sym}
use Rattle.std.proofs.lemmas.List.{take_more_set}
use Rattle.std.proofs.Math.ListN.{length-set}
use Rattle.scoop_lines.specs.Reading.{each_of}
use Rattle.scoop_demo.specs.ScriptLine.{handler_of}
use Rattle.scoop_lines.specs.Words.{words_of}
use Rattle.scoop_lines.proofs.ReadingLemmas.{joined, joined_more}
use Rattle.scoop_demo.proofs.PartyLemmas.{handler_read}
use Rattle.scoop_demo.proofs.script.event.read_handlers.Goals as goal

pub loop-word-preserved : goal.loop-word-preserved
loop-word-preserved c =
    let read = handler_read c.in-Some.word.now c.in-Ok.number c.in-Ok.ensures in
    let next = joined_more handler_of c.in-Some.word.now (words_of c.in-Some.behind.now) _ _ read in
    let words = ap (λ ws. length ws) c.in-Some.ensures.words in
    let within : c.loop-word.count < length c.loop-word.handlers = omega (arith, words, c.loop-word.invariant.room, c.loop-word.invariant.size) in
    let front = take_more_set c.loop-word.handlers c.loop-word.count (record { 0 = c.in-Ok.number }) within in
    record {
      read = c.loop-word.invariant.read ∙ rw c.in-Some.ensures.words
          (next ∙ ap (λ f. joined f (each_of handler_of (words_of c.in-Some.behind.now))) (sym front));
      room = omega (arith, words, c.loop-word.invariant.room);
      size = length-set c.loop-word.handlers c.loop-word.count _ ∙ c.loop-word.invariant.size;
    }
