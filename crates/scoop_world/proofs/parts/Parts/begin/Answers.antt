use Rattle.std.proofs.Common.{ℕ, List, Ok, set, ap, ◌∙◌, subst}
use Rattle.scoop_message.specs.declared.name.Block.{Block}
use Rattle.scoop_handler.specs.Running.{ready}
use Rattle.scoop_model.specs.declared.note.WorldNote.TheVariants as note
use Rattle.scoop_model.specs.World.{Site, number_of, is_site}
use Rattle.scoop_keeper.specs.Keyed.{IsFirst}
use Rattle.scoop_keeper.proofs.Keyed.{item_at}
use Rattle.scoop_world.specs.Kept.{logs_kept, world_kept}
use Rattle.scoop_world.proofs.KeptPlaces.{has_same_site}
use Rattle.scoop_world.proofs.TakenEvents.{same_site, begun_there, nothing_begins, from_began, none_began}
use Rattle.scoop_world.proofs.parts.Parts.begin.Goals as goal
use Rattle.scoop_world.proofs.parts.Parts.begin.Goals.{in-Some-begin, in-None}

pub invariant_of-self : goal.invariant_of-self
invariant_of-self g c =
    let s = c.index_mut-site.result.now in
    let first : IsFirst (is_site c.args.handler) c.self.inside.sites.items c.in-Some.at =
    subst (λ (xs : List Site). IsFirst (is_site c.args.handler) xs c.in-Some.at) c.deref.ensures.value c.in-Some.ensures in
    let there = item_at c.self.inside.sites.items c.in-Some.at s first.within c.index_mut-site.ensures.value in
    elim c.match-begin.branch [
      | in-Some-begin w ↦ has_same_site c.self.inside.keeper c.self.inside.sites.items c.self.inside.parties.items c.in-Some.at s c.begin.new.self
          c.self.invariant there (ap number_of w.in-Some-begin.ensures.site) (ap (λ (x : Site). x.stored) w.in-Some-begin.ensures.site)
      | in-None w ↦ has_same_site c.self.inside.keeper c.self.inside.sites.items c.self.inside.parties.items c.in-Some.at s c.begin.new.self c.self.invariant
          there (ap number_of w.in-None.ensures.nothing) (ap (λ (x : Site). x.stored) w.in-None.ensures.nothing)
    ]

pub returns : goal.returns
returns g c =
    let s = c.index_mut-site.result.now in
    let first : IsFirst (is_site c.args.handler) c.self.inside.sites.items c.in-Some.at =
    subst (λ (xs : List Site). IsFirst (is_site c.args.handler) xs c.in-Some.at) c.deref.ensures.value c.in-Some.ensures in
    elim c.match-begin.branch [
      | in-Some-begin w ↦ (
          let x = from_began (ready s.core) w.in-Some-begin.began (w.in-Some-begin.ensures.began) in
          rw w.result-is (begun_there c.self.inside.sites.items c.self.inside.parties.items c.self.inside.sent.items c.self.inside.joint.keys
          (logs_kept c.self.inside.logs.entries) c.args.self.now c.self.view_is c.args.handler c.in-Some.at s c.begin.new.self x.0 c.requires first
          c.index_mut-site.ensures.value x.1 w.in-Some-begin.ensures.site
          ∙ ap (λ (q : Block × ℕ). Ok (
            world_kept (set c.self.inside.sites.items c.in-Some.at c.begin.new.self)
                c.self.inside.parties.items c.self.inside.sent.items c.self.inside.joint.keys (logs_kept c.self.inside.logs.entries),
            note.Began q.0 q.1,
          )) x.2))
      | in-None w ↦ rw w.result-is (
        nothing_begins c.self.inside.sites.items c.self.inside.parties.items c.self.inside.sent.items c.self.inside.joint.keys
            (logs_kept c.self.inside.logs.entries) c.args.self.now c.self.view_is c.args.handler c.in-Some.at s first c.index_mut-site.ensures.value
            (none_began (ready s.core) w.in-None.ensures.began),
        same_site c.self.inside.sites.items c.self.inside.parties.items c.self.inside.sent.items c.self.inside.joint.keys
            (logs_kept c.self.inside.logs.entries) c.args.self.now c.self.view_is c.in-Some.at s c.begin.new.self c.index_mut-site.ensures.value
            w.in-None.ensures.nothing,
      )
    ]
