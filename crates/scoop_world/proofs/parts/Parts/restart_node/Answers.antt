use Rattle.scoop_model.specs.declared.note.WorldNote.TheVariants.{Reopened}
use Rattle.std.specs.List.{list_any}
use Rattle.std.proofs.Common.{◌≡◌, ◌≤◌, List, ◌++◌, map, refl, take, drop, length, sym, ap, ◌∙◌, subst, arith, append-nil, Ok, true, IsOk}
use Rattle.std.proofs.lemmas.List.{take_all, drop_all, length-map}
use Rattle.scoop_keeper.specs.Memory.{MemoryRecord}
use Rattle.scoop_model.specs.World.{Site}
use Rattle.scoop_model.specs.Step.{reopened, Stepped}
use Rattle.scoop_world.specs.Kept.{HasAll, logs_kept, on_node, stored_on, world_kept}
use Rattle.scoop_world.proofs.TakenEvents.{has_reopened, node_restarted}
use Rattle.scoop_world.proofs.parts.Parts.restart_node.Goals as goal

pub reopen_all-requires : goal.reopen_all-requires
reopen_all-requires g c =
    c.in-Ok.ensures.found ∙ ap (map (stored_on c.args.node)) (c.deref-2.ensures.value ∙ sym c.deref_mut.ensures.value)

pub invariant_of-self : goal.invariant_of-self
invariant_of-self g c =
    subst (λ (k : MemoryRecord). HasAll k c.self.inside.sites.items c.self.inside.parties.items) (sym c.load_all.ensures.keeper) c.self.invariant

pub returns-in_default : goal.returns-in_default
returns-in_default g c =
    let there : list_any (on_node c.args.node) c.self.inside.sites.items ≡ true =
    ap (list_any (on_node c.args.node)) (sym c.deref.ensures.value) ∙ sym c.any_on.ensures ∙ c.if-not-any_on.false in (
      subst (λ (s : Stepped). IsOk s) (sym (
          node_restarted c.self.inside.sites.items c.self.inside.parties.items c.self.inside.sent.items c.self.inside.joint.keys
          (logs_kept c.self.inside.logs.entries) c.args.self.now c.self.view_is c.args.node there)) refl,
      c.self.view_is,
    )

pub invariant_of-self-2 : goal.invariant_of-self-2
invariant_of-self-2 g c =
    let ys = c.self.inside.sites.items in
    let xs = c.reopen_all.new.sites in
    let f = reopened c.args.node in
    let n = c.self.inside.sites.len in
    let are : xs ≡ map f ys = c.reopen_all.ensures ∙ ap (map f) c.deref_mut.ensures.value in
    let long : length xs ≡ length ys = ap length are ∙ length-map ys f in
    let size : length ys ≡ n = ap length (sym c.deref_mut.ensures.value) ∙ c.deref_mut.ensures.len in
    let le : length xs ≤ n = omega (arith, long, size) in
    let all : length ys ≤ length xs = omega (arith, long) in
    let whole : take n (xs ++ drop (length xs) ys) ≡ map f ys =
    ap (λ (zs : List Site). take n (xs ++ zs)) (drop_all (length xs) ys all) ∙ ap (take n) (append-nil xs) ∙ take_all n xs le ∙ are in
    subst (λ (k : MemoryRecord). HasAll k (take n (xs ++ drop (length xs) ys)) c.self.inside.parties.items) (sym c.load_all.ensures.keeper)
    (subst (λ (ss : List Site). HasAll c.self.inside.keeper ss c.self.inside.parties.items) (sym whole)
    (has_reopened c.self.inside.sites.items c.self.inside.parties.items c.self.inside.sent.items c.self.inside.joint.keys
    (logs_kept c.self.inside.logs.entries) c.args.self.now c.self.view_is c.self.inside.keeper c.args.node c.requires c.self.invariant))

pub returns : goal.returns
returns g c =
    let ys = c.self.inside.sites.items in
    let xs = c.reopen_all.new.sites in
    let f = reopened c.args.node in
    let n = c.self.inside.sites.len in
    let are : xs ≡ map f ys = c.reopen_all.ensures ∙ ap (map f) c.deref_mut.ensures.value in
    let long : length xs ≡ length ys = ap length are ∙ length-map ys f in
    let size : length ys ≡ n = ap length (sym c.deref_mut.ensures.value) ∙ c.deref_mut.ensures.len in
    let le : length xs ≤ n = omega (arith, long, size) in
    let all : length ys ≤ length xs = omega (arith, long) in
    let whole : take n (xs ++ drop (length xs) ys) ≡ map f ys =
    ap (λ (zs : List Site). take n (xs ++ zs)) (drop_all (length xs) ys all) ∙ ap (take n) (append-nil xs) ∙ take_all n xs le ∙ are in
    let there : list_any (on_node c.args.node) ys ≡ true =
    ap (list_any (on_node c.args.node)) (sym c.deref.ensures.value) ∙ sym c.any_on.ensures ∙ c.if-not-any_on.false in
    let made : List Site → Stepped =
    λ ss. Ok (world_kept ss c.self.inside.parties.items c.self.inside.sent.items c.self.inside.joint.keys (logs_kept c.self.inside.logs.entries), Reopened) in
    node_restarted c.self.inside.sites.items c.self.inside.parties.items c.self.inside.sent.items c.self.inside.joint.keys
    (logs_kept c.self.inside.logs.entries) c.args.self.now c.self.view_is c.args.node there
    ∙ ap made (sym whole)
