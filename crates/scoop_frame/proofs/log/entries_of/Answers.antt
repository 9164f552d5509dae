use Rattle.std.proofs.Common.{◌≡◌, List, ℕ, ◌+◌, ◌<◌, ◌≤◌, ◌==◌, [], ◌∷◌, ◌++◌, length, take, drop, set, refl, sym, ap, subst, ◌∙◌, append_assoc, arith}
use Rattle.std.specs.List.{flat_map, AllByRecursion}
use Rattle.std.proofs.lemmas.List.{append-nil, length-set, length-take-le, nil_from_length, take_more_set, take_rest}
use Rattle.std.proofs.lemmas.Bool.{false≢true}
use Rattle.std.proofs.lemmas.Bool.Decides.{Decides-eqb}
use Rattle.scoop_message.specs.declared.request.Entry.{Entry}
use Rattle.scoop_message.specs.Entries.{EndOnlyLast}
use Rattle.scoop_message.specs.Range.{IsEntry, IsEntries}
use Rattle.scoop_frame.specs.Body.{entry_bytes, ReadsFirst}
use Rattle.scoop_frame.proofs.Entries.{all_more, entries_more, entries_end, next_entry}
use Rattle.scoop_frame.proofs.log.entries_of.Goals as goal

pub loop-i-init : goal.loop-i-init
loop-i-init c = record { room = refl; range = tt; read = refl }

pub returns-in_default : goal.returns-in_default
returns-in_default c = λ es p count e.
    let items = c.loop-i.items in
    let i = c.loop-i.i in
    let fewer : length (take i items) < length es = omega (arith, length-take-le i items, c.loop-i.invariant.room, count) in
    let next = next_entry (take i items) es c.loop-i.rest.now fewer c.loop-i.invariant.range p.entries (sym c.loop-i.invariant.read ∙ e) in
    let none = subst (ReadsFirst entry_bytes IsEntry c.loop-i.rest.now) c.in_default.is c.entry_from.ensures in
    none next.entry next.behind next.range next.bytes

pub loop-i-preserved : goal.loop-i-preserved
loop-i-preserved c =
    let items = c.loop-i.items in
    let i = c.loop-i.i in
    let entry = c.in-Some.entry in
    let rest = c.loop-i.rest.now in
    let first = c.in-Some.ensures in
    let lt : i < length items = omega (arith, c.loop-i.invariant.room) in
    let more : take (i + 1) (set items i entry) ≡ take i items ++ entry ∷ [] = take_more_set items i entry lt in
    let bytes : flat_map entry_bytes (take (i + 1) (set items i entry)) ≡ flat_map entry_bytes (take i items) ++ entry_bytes entry =
    ap (flat_map entry_bytes) more ∙ entries_more (take i items) entry in
    record {
      room = omega (arith, length-set items i entry, c.loop-i.invariant.room);
      range = subst (AllByRecursion IsEntry) (sym more) (all_more (take i items) entry c.loop-i.invariant.range first.0);
      read = c.loop-i.invariant.read ∙ ap (λ (xs : List ℕ). flat_map entry_bytes (take i items) ++ xs) first.2
          ∙ sym (append_assoc (flat_map entry_bytes (take i items)) (entry_bytes entry) (drop c.in-Some.len rest))
          ∙ ap (λ (xs : List ℕ). xs ++ drop c.in-Some.len rest) (sym bytes)
          ∙ ap (λ (xs : List ℕ). flat_map entry_bytes (take (i + 1) (set items i entry)) ++ xs) (sym (take_rest rest c.in-Some.len));
    }

pub returns-then-not-is_empty : goal.returns-then-not-is_empty
returns-then-not-is_empty c = λ es p count e.
    let items = c.loop-i.items in
    let rest = c.loop-i.rest.now in
    let same : length (take c.loop-i.i items) ≡ length es = omega (arith, length-take-le c.loop-i.i items, c.loop-i.invariant.room, count) in
    let end = entries_end (take c.loop-i.i items) es rest same c.loop-i.invariant.range p.entries (sym c.loop-i.invariant.read ∙ e) in
    let none : length rest ≡ 0 = ap length end.1 in
    false≢true (c.if-not-is_empty.ensures ∙ ap (λ (n : ℕ). n == 0) none)

pub returns-in-Ok : goal.returns-in-Ok
returns-in-Ok c =
    let items = c.loop-i.items in
    let rest = c.loop-i.rest.now in
    let count = c.args.count in
    let of = c.in-Ok.ensures in
    let i-is : c.loop-i.i ≡ count = omega arith in
    let range : AllByRecursion IsEntry (take count items) = subst (λ (n : ℕ). AllByRecursion IsEntry (take n items)) i-is c.loop-i.invariant.range in
    let none : rest ≡ [] = nil_from_length rest ((Decides-eqb (length rest) 0).0 (sym c.if-not-is_empty.ensures)) in
    let good : IsEntries (take count items) = record { some = of.0.0; limit = of.0.1; end = of.0.2; entries = range } in
    let len : length c.in-Ok.entries ≡ count = ap length of.1 ∙ length-take-le count items (omega (arith, c.loop-i.invariant.room)) in (
      subst IsEntries (sym of.1) good,
      len,
      c.loop-i.invariant.read ∙ ap (λ (xs : List ℕ). flat_map entry_bytes (take c.loop-i.i items) ++ xs) none
          ∙ append-nil (flat_map entry_bytes (take c.loop-i.i items)) ∙ ap (λ (n : ℕ). flat_map entry_bytes (take n items)) i-is
          ∙ ap (flat_map entry_bytes) (sym of.1),
    )

pub returns-in-Err : goal.returns-in-Err
returns-in-Err c = λ es p count e.
    let items = c.loop-i.items in
    let same : length (take c.loop-i.i items) ≡ length es = omega (arith, length-take-le c.loop-i.i items, c.loop-i.invariant.room, count) in
    let end = entries_end (take c.loop-i.i items) es c.loop-i.rest.now same c.loop-i.invariant.range p.entries (sym c.loop-i.invariant.read ∙ e) in
    let i-is : c.args.count ≡ c.loop-i.i = omega arith in
    let items-are : es ≡ take c.args.count items = sym (ap (λ (n : ℕ). take n items) i-is ∙ end.0) in
    c.in-Err.ensures (subst (λ (xs : List Entry). (0 < length xs) × (length xs ≤ 4) × EndOnlyLast xs) items-are (p.some, p.limit, p.end))
