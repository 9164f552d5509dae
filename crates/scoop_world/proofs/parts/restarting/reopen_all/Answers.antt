use Rattle.std.proofs.Common.{◌≤◌, List, ◌++◌, map, drop, length, set, sym, ap, ◌∙◌, arith, append-nil, refl}
use Rattle.std.proofs.lemmas.List.{get_or-map, take_all, drop_all, length-set, length-map}
use Rattle.std.proofs.lemmas.List.Edits.{map_over_more}
use Rattle.scoop_model.specs.World.{Site}
use Rattle.scoop_model.specs.Step.{reopened}
use Rattle.scoop_world.specs.Kept.{stored_on}
use Rattle.scoop_world.proofs.SeenLists.{left_same, next_same}
use Rattle.scoop_world.proofs.parts.restarting.reopen_all.Goals as goal

pub reopen_with-requires : goal.reopen_with-requires
reopen_with-requires g c =
    let i = c.loop-i.i in
    let x = c.index-sites-i.result in
    let d = c.index_mut-cell.result.now in
    let old = c.args.sites.now in
    let f = stored_on c.args.node in
    c.take-found.ensures.value ∙ c.index_mut-cell.ensures.value
    ∙ next_same (map f old) c.loop-i.states.items i d c.loop-i.invariant.states
    ∙ get_or-map f old i x d (omega arith)
    ∙ ap f (sym (next_same old c.loop-i.sites i x c.loop-i.invariant.rest))

pub loop-i-preserved : goal.loop-i-preserved
loop-i-preserved g c =
    let i = c.loop-i.i in
    let x = c.index-sites-i.result in
    let old = c.args.sites.now in
    let f = reopened c.args.node in
    record {
      states = left_same (map (stored_on c.args.node) old) c.loop-i.states.items i c.take-found.new.self c.loop-i.invariant.states;
      size = length-set c.loop-i.states.items i c.take-found.new.self ∙ c.loop-i.invariant.size;
      done = ap (set c.loop-i.sites i) (c.reopen_with.ensures ∙ ap f (sym c.index-sites-i.is))
          ∙ map_over_more f old c.loop-i.sites i x (omega arith) c.loop-i.invariant.done c.index-sites-i.is;
      rest = left_same old c.loop-i.sites i c.reopen_with.new.site c.loop-i.invariant.rest;
    }

pub returns : goal.returns
returns g c =
    let i = c.loop-i.i in
    let old = c.args.sites.now in
    let f = reopened c.args.node in
    let past : length old ≤ i = omega arith in
    c.loop-i.invariant.done
    ∙ ap (λ (xs : List Site). map f xs ++ drop i old) (take_all i old past)
    ∙ ap (λ (ys : List Site). map f old ++ ys) (drop_all i old past)
    ∙ append-nil (map f old)

pub loop-i-init : goal.loop-i-init
loop-i-init g c = record {
  states = c.requires;
  size = ap length c.requires ∙ length-map c.args.sites.now (stored_on c.args.node);
  done = refl;
  rest = refl;
}
