use Rattle.std.proofs.Common.{◌≡◌, length, arith}
use Rattle.scoop_demo.specs.ScriptLine.{number_of}
use Rattle.scoop_lines.specs.Words.{words_of}
use Rattle.scoop_lines.proofs.ReadingLemmas.{length-each_of}
use Rattle.scoop_demo.proofs.script.party.read_words.Goals as goal

pub unreachable-requires : goal.unreachable-requires
unreachable-requires c =
    let count = length-each_of number_of (words_of c.args.line.now) c.in_ok-numbers.numbers.items c.in_ok-numbers.ensures in
    let many : length c.as_slice.result.now ≡ c.args.class.now.words =
    rw c.as_slice.ensures.value (omega (arith, count, c.count_words.ensures, c.if-count_words-words.false, c.words.ensures.value)) in
    c.in-Err.ensures (omega (arith, many, c.words.ensures.some), omega (arith, many, c.words.ensures.limit))
