use Rattle.scoop_message.specs.declared.name.HandlerId.{HandlerId}
use Rattle.scoop_message.specs.declared.message.Message.{Message}
use Rattle.scoop_world.proofs.KeptPlaces.{read_at}
use Rattle.scoop_model.specs.declared.error.WorldError.TheVariants.{NoSuchParty}
use Rattle.std.proofs.Common.{◌≡◌, ℕ, List, Option, Some, None, Ok, Err, refl, find, sym, ap, ◌∙◌, subst}
use Rattle.scoop_model.specs.World.{Site, Party, is_site, is_party, World, site_of, party_of}
use Rattle.scoop_model.specs.Step.{Stepped, sent_or_silent, tick_at}
use Rattle.scoop_keeper.specs.Keyed.{IsFirst}
use Rattle.scoop_world.specs.Kept.{logs_kept, world_kept}
use Rattle.scoop_world.proofs.TakenEvents.{ticked_all, tick_ok}
use Rattle.scoop_world.proofs.parts.Parts.tick.Goals as goal
use Rattle.scoop_world.proofs.parts.Parts.tick.Goals.{in-Some-send, in-None}

pub returns : goal.returns
returns g c =
    let p = c.index-party.result.now in
    let first : IsFirst (is_party c.args.client) c.self.inside.parties.items c.in-Some.at =
    subst (λ (xs : List Party). IsFirst (is_party c.args.client) xs c.in-Some.at) c.deref.ensures.value c.in-Some.ensures in
    let there : IsFirst (is_site c.args.handler) c.self.inside.sites.items c.in-Some-site_at.field-0 =
    subst (λ (xs : List Site). IsFirst (is_site c.args.handler) xs c.in-Some-site_at.field-0) c.deref-2.ensures.value c.in-Some-site_at.ensures in
    let made : Option ℕ → Stepped =
    λ o. Ok (
      world_kept c.self.inside.sites.items c.self.inside.parties.items c.send.new.sent.items c.self.inside.joint.keys
          (logs_kept c.self.inside.logs.entries),
      sent_or_silent o,
    ) in
    let all =
    ticked_all c.self.inside.sites.items c.self.inside.parties.items c.self.inside.sent.items c.self.inside.joint.keys
    (logs_kept c.self.inside.logs.entries) c.args.self.now c.self.view_is c.args.client c.args.handler c.in-Some.at c.in-Some-site_at.field-0 p
    c.due-due.result c.reserve.new.self.items c.send.new.sent.items c.send.result
    first c.index-party.ensures there c.due-due.ensures c.in-Ok.ensures.items c.send.ensures.sent c.send.ensures.place in
    elim c.match-send.branch [
      | in-Some-send w ↦ rw w.result-is (all ∙ ap made w.in-Some-send.is)
      | in-None w ↦ rw w.result-is (all ∙ ap made w.in-None.is)
    ]

pub returns-in_default-site_at : goal.returns-in_default-site_at
returns-in_default-site_at g c =
    let h = c.args.handler in
    let w : World = c.args.self.now in
    let nowhere : site_of h w ≡ None =
    sym (ap (site_of h) c.self.view_is) ∙ sym (ap (find (is_site h)) c.deref-2.ensures.value) ∙ c.in_default-site_at.ensures in
    (no_site w h (party_of c.args.client w) (site_of h w) nowhere, refl)
  where
    no_site : (w : World) (h : HandlerId) (o : Option Party) (s : Option Site) → s ≡ None → tick_at w h o s ≡ Err NoSuchParty
    no_site w h None s e = refl
    no_site w h (Some p) s e = rw e refl

pub returns-in_default-reserve : goal.returns-in_default-reserve
returns-in_default-reserve g c =
    let first : IsFirst (is_party c.args.client) c.self.inside.parties.items c.in-Some.at =
    subst (λ (xs : List Party). IsFirst (is_party c.args.client) xs c.in-Some.at) c.deref.ensures.value c.in-Some.ensures in
    let there : IsFirst (is_site c.args.handler) c.self.inside.sites.items c.in-Some-site_at.field-0 =
    subst (λ (xs : List Site). IsFirst (is_site c.args.handler) xs c.in-Some-site_at.field-0) c.deref-2.ensures.value c.in-Some-site_at.ensures in
    let p = read_at c.self.inside.parties.items c.in-Some.at first.within in (
      tick_ok c.self.inside.sites.items c.self.inside.parties.items c.self.inside.sent.items c.self.inside.joint.keys
          (logs_kept c.self.inside.logs.entries) c.args.self.now c.self.view_is c.args.client c.args.handler c.in-Some.at c.in-Some-site_at.field-0
          p.0 first p.1
          there,
      ap (λ (ms : List Message). world_kept c.self.inside.sites.items c.self.inside.parties.items ms c.self.inside.joint.keys
          (logs_kept c.self.inside.logs.entries)) c.in_default-reserve.ensures.items
          ∙ c.self.view_is,
    )
