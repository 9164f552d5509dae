use Rattle.std.proofs.Common.{List, take, sym, ◌∙◌, subst, arith, true≢false}
use Rattle.std.proofs.lemmas.List.{take_all}
use Rattle.std.proofs.lemmas.List.Elements.{length_all_zip}
use Rattle.scoop_book.specs.Moves.{LocalHandler}
use Rattle.scoop_book.specs.Reopening.{AllOpenAgain, OpensAgain}
use Rattle.scoop_book.proofs.ReopeningLemmas.{as_many, class_at, opened_more, other_at}
use Rattle.scoop_book.proofs.standing.first_other.Goals as goal

pub returns-then-opened-count-clause-some : goal.returns-then-opened-count-clause-some
returns-then-opened-count-clause-some g c = λ all.
    let long = length_all_zip OpensAgain c.args.stood.now c.args.opened.now all in omega arith

pub offset_bounds-classed-i : goal.offset_bounds-classed-i
offset_bounds-classed-i g c = let many = as_many c.args.classed.now c.args.stood.now c.requires in omega arith

pub bounds-classed-i : goal.bounds-classed-i
bounds-classed-i g c = let many = as_many c.args.classed.now c.args.stood.now c.requires in omega arith

pub opens_again-requires : goal.opens_again-requires
opens_again-requires g c =
    let many = as_many c.args.classed.now c.args.stood.now c.requires in
    class_at c.args.classed.now c.args.stood.now c.loop-i.i c.index-classed-i.result c.index-stood-i.result c.requires (omega arith)
    c.index-classed-i.is c.index-stood-i.is

pub returns-then-not-branch-clause-some : goal.returns-then-not-branch-clause-some
returns-then-not-branch-clause-some g c =
    other_at c.args.stood.now c.args.opened.now c.loop-i.i c.index-stood-i.result c.index-opened-i.result (omega arith) c.index-stood-i.is c.index-opened-i.is
    (λ opens. true≢false (sym (c.in_ok-opens_again.ensures.1 opens) ∙ c.if-not-branch.true))

pub loop-i-preserved : goal.loop-i-preserved
loop-i-preserved g c =
    opened_more c.args.stood.now c.args.opened.now c.loop-i.i c.index-stood-i.result c.index-opened-i.result (omega arith) (omega arith)
    c.index-stood-i.is c.index-opened-i.is (c.in_ok-opens_again.ensures.0 c.if-not-branch.false) c.loop-i.invariant

pub returns-clause-none : goal.returns-clause-none
returns-clause-none g c =
    let stood = take_all c.loop-i.i c.args.stood.now (omega arith) in
    let opened = take_all c.loop-i.i c.args.opened.now (omega arith) in
    subst (λ (xs : List LocalHandler). AllOpenAgain xs c.args.opened.now) stood
    (subst (λ (ys : List LocalHandler). AllOpenAgain (take c.loop-i.i c.args.stood.now) ys) opened c.loop-i.invariant)
