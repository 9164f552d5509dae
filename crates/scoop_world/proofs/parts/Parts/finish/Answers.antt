use Rattle.std.proofs.Common.{◌≡◌, List, Option, Some, Ok, set, sym, ap, ◌∙◌, refl, subst}
use Rattle.scoop_handler.specs.declared.ran.Ran.{Ran}
use Rattle.scoop_handler.specs.Running.{Task, job_out}
use Rattle.scoop_model.specs.declared.note.WorldNote.TheVariants as note
use Rattle.scoop_model.specs.World.{Site, number_of, is_site}
use Rattle.scoop_keeper.specs.Keyed.{IsFirst}
use Rattle.scoop_keeper.proofs.Keyed.{item_at}
use Rattle.scoop_world.specs.Kept.{KeepsAll, Stores, StoresJob, after_job, logs_kept, world_kept}
use Rattle.scoop_world.proofs.KeptPlaces.{has_kept, has_site, has_same_site}
use Rattle.scoop_world.proofs.TakenEvents.{apart_sites, same_site, finished_there, nothing_finishes, finishes_ok, from_ran, none_ran, some_is}
use Rattle.scoop_world.proofs.parts.Parts.finish.Goals as goal
use Rattle.scoop_world.proofs.parts.Parts.finish.Goals.{in-Some-found, in-None}

pub returns-in_default-finish : goal.returns-in_default-finish
returns-in_default-finish g c =
    let s = c.index_mut-site.result.now in
    let first : IsFirst (is_site c.args.handler) c.self.inside.sites.items c.in-Some.at =
    subst (λ (xs : List Site). IsFirst (is_site c.args.handler) xs c.in-Some.at) c.deref.ensures.value c.in-Some.ensures in
    let x = some_is (job_out s.core) c.in_default-finish.ensures.out in (
      finishes_ok c.self.inside.sites.items c.self.inside.parties.items c.self.inside.sent.items c.self.inside.joint.keys
          (logs_kept c.self.inside.logs.entries) c.args.self.now c.self.view_is c.args.handler c.in-Some.at s x.0 first c.index_mut-site.ensures.value x.1,
      same_site c.self.inside.sites.items c.self.inside.parties.items c.self.inside.sent.items c.self.inside.joint.keys
          (logs_kept c.self.inside.logs.entries) c.args.self.now c.self.view_is c.in-Some.at s c.finish.new.self c.index_mut-site.ensures.value
          c.in_default-finish.ensures.err,
    )

pub invariant_of-self-2 : goal.invariant_of-self-2
invariant_of-self-2 g c =
    let s = c.index_mut-site.result.now in
    let t = c.finish.new.self in
    let first : IsFirst (is_site c.args.handler) c.self.inside.sites.items c.in-Some.at =
    subst (λ (xs : List Site). IsFirst (is_site c.args.handler) xs c.in-Some.at) c.deref.ensures.value c.in-Some.ensures in
    let there = item_at c.self.inside.sites.items c.in-Some.at s first.within c.index_mut-site.ensures.value in
    elim c.match-found.branch [
      | in-Some-found w ↦ (
          let x = from_ran (job_out s.core) w.in-Some-found.ran (sym w.in-Some-found.is ∙ c.in-Ok.ensures.ran) in
          let changed : t ≡ after_job s (Some x.0) = c.in-Ok.ensures.site ∙ ap (after_job s) x.1 in
          let stores : Stores c.self.inside.keeper c.finish.new.keeper t.stored =
          subst (λ (o : Option Task). StoresJob o c.self.inside.keeper c.finish.new.keeper t.stored) x.1 c.in-Ok.ensures.stored in
          has_site c.self.inside.keeper c.finish.new.keeper c.self.inside.sites.items c.self.inside.parties.items c.in-Some.at s t c.self.invariant
          (apart_sites c.self.inside.sites.items c.self.inside.parties.items c.self.inside.sent.items c.self.inside.joint.keys
          (logs_kept c.self.inside.logs.entries) c.args.self.now c.self.view_is c.requires) there (ap number_of changed)
          (subst (λ (y : Site). y.stored.number ≡ number_of y) (sym changed) refl) stores)
      | in-None w ↦ (
          let none = none_ran (job_out s.core) (sym w.in-None.is ∙ c.in-Ok.ensures.ran) in
          let same : t ≡ s = c.in-Ok.ensures.site ∙ ap (after_job s) none in
          let kept : KeepsAll c.self.inside.keeper c.finish.new.keeper =
          subst (λ (o : Option Task). StoresJob o c.self.inside.keeper c.finish.new.keeper t.stored) none c.in-Ok.ensures.stored in
          has_kept c.self.inside.keeper c.finish.new.keeper (set c.self.inside.sites.items c.in-Some.at t) c.self.inside.parties.items
          (has_same_site c.self.inside.keeper c.self.inside.sites.items c.self.inside.parties.items c.in-Some.at s t c.self.invariant there
          (ap number_of same) (ap (λ (x : Site). x.stored) same)) kept)
    ]

pub returns : goal.returns
returns g c =
    let s = c.index_mut-site.result.now in
    let first : IsFirst (is_site c.args.handler) c.self.inside.sites.items c.in-Some.at =
    subst (λ (xs : List Site). IsFirst (is_site c.args.handler) xs c.in-Some.at) c.deref.ensures.value c.in-Some.ensures in
    elim c.match-found.branch [
      | in-Some-found w ↦ (
          let x = from_ran (job_out s.core) w.in-Some-found.ran (sym w.in-Some-found.is ∙ c.in-Ok.ensures.ran) in
          rw w.result-is (finished_there c.self.inside.sites.items c.self.inside.parties.items c.self.inside.sent.items c.self.inside.joint.keys
          (logs_kept c.self.inside.logs.entries) c.args.self.now c.self.view_is c.args.handler c.in-Some.at s c.finish.new.self x.0 c.requires first
          c.index_mut-site.ensures.value x.1 (c.in-Ok.ensures.site ∙ ap (after_job s) x.1)
          ∙ ap (λ (r : Ran). Ok (
            world_kept (set c.self.inside.sites.items c.in-Some.at c.finish.new.self)
                c.self.inside.parties.items c.self.inside.sent.items c.self.inside.joint.keys (logs_kept c.self.inside.logs.entries),
            note.Ran r,
          )) x.2))
      | in-None w ↦ (
          let none = none_ran (job_out s.core) (sym w.in-None.is ∙ c.in-Ok.ensures.ran) in
          rw w.result-is (
            nothing_finishes c.self.inside.sites.items c.self.inside.parties.items c.self.inside.sent.items c.self.inside.joint.keys
                (logs_kept c.self.inside.logs.entries) c.args.self.now c.self.view_is c.args.handler c.in-Some.at s first c.index_mut-site.ensures.value none,
            same_site c.self.inside.sites.items c.self.inside.parties.items c.self.inside.sent.items c.self.inside.joint.keys
                (logs_kept c.self.inside.logs.entries) c.args.self.now c.self.view_is c.in-Some.at s c.finish.new.self c.index_mut-site.ensures.value
                (c.in-Ok.ensures.site ∙ ap (after_job s) none),
          ))
    ]

pub invariant_of-self : goal.invariant_of-self
invariant_of-self g c =
    let s = c.index_mut-site.result.now in
    let t = c.finish.new.self in
    let first : IsFirst (is_site c.args.handler) c.self.inside.sites.items c.in-Some.at =
    subst (λ (xs : List Site). IsFirst (is_site c.args.handler) xs c.in-Some.at) c.deref.ensures.value c.in-Some.ensures in
    let there = item_at c.self.inside.sites.items c.in-Some.at s first.within c.index_mut-site.ensures.value in
    let same : t ≡ s = c.in_default-finish.ensures.err in
    has_kept c.self.inside.keeper c.finish.new.keeper (set c.self.inside.sites.items c.in-Some.at t) c.self.inside.parties.items
    (has_same_site c.self.inside.keeper c.self.inside.sites.items c.self.inside.parties.items c.in-Some.at s t c.self.invariant there (ap number_of same)
    (ap (λ (x : Site). x.stored) same)) c.in_default-finish.ensures.kept
