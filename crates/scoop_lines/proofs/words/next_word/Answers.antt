use Rattle.std.proofs.Common.{◌∙◌, sym}
use Rattle.scoop_lines.proofs.WordLemmas.{words_of-first, word_len-le, some_bytes}
use Rattle.scoop_lines.proofs.words.next_word.Goals as goal

pub returns-clause-words : goal.returns-clause-words
returns-clause-words c =
    let found = words_of-first c.skip_spaces-line.result.now c.skip_spaces-line.ensures.begins (some_bytes _ c.is_empty.ensures c.if-is_empty.false) in
    sym c.skip_spaces-line.ensures.same ∙ rw (c.split_at.ensures.front, c.split_at.ensures.back, c.word_len.ensures) found

pub split_at-requires : goal.split_at-requires
split_at-requires c = rw c.word_len.ensures (word_len-le c.skip_spaces-line.result.now)
