use Rattle.std.proofs.Common.{◌≡◌, ◌<◌, ◌≤◌, refl}
use Rattle.scoop_book.specs.Lines.{entry_of}
use Rattle.scoop_book.specs.Moves.{Entry}
use Rattle.scoop_book.proofs.Alls.{all_before, any_first, any_later}
use Rattle.scoop_book.proofs.closing.stranger.Goals as goal

pub returns-then-number-count-clause-some : goal.returns-then-number-count-clause-some
returns-then-number-count-clause-some g c =
    c.loop-number.invariant.some c.in-Some.number
    (any_first (λ (e : Entry). (e.0 ≡ c.in-Some.number) × (c.args.count ≤ c.in-Some.number)) (entry_of c.in-Some.number c.in-Some.field-0-1.now) c.loop-number.entries
    c.next_words.new.self c.in-Some.ensures.some (refl, c.if-number-count.true))

pub loop-number-preserved : goal.loop-number-preserved
loop-number-preserved g c =
    let next : Entry = entry_of c.in-Some.number c.in-Some.field-0-1.now in
    record {
      all = λ each.
          c.loop-number.invariant.all (all_before (λ (e : Entry). e.0 < c.args.count) next c.loop-number.entries c.next_words.new.self
          c.in-Some.ensures.some c.if-number-count.false each);
      some = λ n later.
          c.loop-number.invariant.some n (any_later (λ (e : Entry). (e.0 ≡ n) × (c.args.count ≤ n)) next c.loop-number.entries
          c.next_words.new.self c.in-Some.ensures.some later);
    }
