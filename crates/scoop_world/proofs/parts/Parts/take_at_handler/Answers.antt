use Rattle.std.proofs.Common.{◌≡◌, List, set, sym, ap, ◌∙◌, refl, subst}
use Rattle.scoop_message.specs.declared.name.Block.{Block}
use Rattle.scoop_message.specs.declared.name.HandlerId.{HandlerId}
use Rattle.scoop_message.specs.Message.{handler_of}
use Rattle.scoop_handler.specs.State.{HandlerState}
use Rattle.scoop_handler.specs.Hearing.{hear}
use Rattle.scoop_handler.proofs.TableRows.{row}
use Rattle.scoop_handler.proofs.TableLaws.{number-row}
use Rattle.scoop_model.specs.World.{Site, number_of, is_site}
use Rattle.scoop_model.specs.Step.{heard_site}
use Rattle.scoop_keeper.specs.Keyed.{IsFirst}
use Rattle.scoop_keeper.proofs.Keyed.{item_at}
use Rattle.scoop_world.specs.Kept.{Stores, HasState, logs_kept, world_kept}
use Rattle.scoop_world.proofs.KeptPlaces.{has_kept, has_site, has_same_site, read_at}
use Rattle.scoop_model.proofs.Order.Facts.{all_at}
use Rattle.scoop_world.proofs.TakenEvents.{apart_sites, same_site, heard_all, hears_ok}
use Rattle.scoop_message.specs.declared.message.Message.{Message}
use Rattle.scoop_world.proofs.parts.Parts.take_at_handler.Goals as goal

pub returns-in_default-hear : goal.returns-in_default-hear
returns-in_default-hear g c =
    let s = c.index_mut-site.result.now in
    let m = c.args.message.now in
    let named : IsFirst (is_site (handler_of m)) c.deref.result.now c.in-Some.at =
    subst (λ (x : HandlerId). IsFirst (is_site x) c.deref.result.now c.in-Some.at) c.handler.ensures c.in-Some.ensures in
    let first : IsFirst (is_site (handler_of m)) c.self.inside.sites.items c.in-Some.at =
    subst (λ (xs : List Site). IsFirst (is_site (handler_of m)) xs c.in-Some.at) c.deref.ensures.value named in (
      hears_ok c.self.inside.sites.items c.self.inside.parties.items c.self.inside.sent.items c.self.inside.joint.keys
          (logs_kept c.self.inside.logs.entries) c.args.self.now c.self.view_is m c.in-Some.at s first c.index_mut-site.ensures.value,
      ap (λ (ms : List Message). world_kept (set c.self.inside.sites.items c.in-Some.at c.hear.new.self)
          c.self.inside.parties.items ms c.reserve-2.new.self.keys (logs_kept c.self.inside.logs.entries)) c.in-Ok.ensures.items
          ∙ ap (λ (bs : List Block). world_kept (set c.self.inside.sites.items c.in-Some.at c.hear.new.self)
          c.self.inside.parties.items c.self.inside.sent.items bs (logs_kept c.self.inside.logs.entries)) c.in-Ok-reserve.ensures.keys
          ∙ same_site c.self.inside.sites.items c.self.inside.parties.items c.self.inside.sent.items c.self.inside.joint.keys
          (logs_kept c.self.inside.logs.entries) c.args.self.now c.self.view_is c.in-Some.at s c.hear.new.self c.index_mut-site.ensures.value
          c.in_default-hear.ensures.err,
    )

pub hear-requires : goal.hear-requires
hear-requires g c =
    let s = c.index_mut-site.result.now in
    let m = c.args.message.now in
    let named : IsFirst (is_site (handler_of m)) c.deref.result.now c.in-Some.at =
    subst (λ (x : HandlerId). IsFirst (is_site x) c.deref.result.now c.in-Some.at) c.handler.ensures c.in-Some.ensures in
    let first : IsFirst (is_site (handler_of m)) c.self.inside.sites.items c.in-Some.at =
    subst (λ (xs : List Site). IsFirst (is_site (handler_of m)) xs c.in-Some.at) c.deref.ensures.value named in
    all_at (HasState c.self.inside.keeper) c.self.inside.sites.items c.in-Some.at s
    (item_at c.self.inside.sites.items c.in-Some.at s first.within c.index_mut-site.ensures.value) c.self.invariant.states

pub invariant_of-self-2 : goal.invariant_of-self-2
invariant_of-self-2 g c =
    let s = c.index_mut-site.result.now in
    let t = c.hear.new.self in
    let m = c.args.message.now in
    let named : IsFirst (is_site (handler_of m)) c.deref.result.now c.in-Some.at =
    subst (λ (x : HandlerId). IsFirst (is_site x) c.deref.result.now c.in-Some.at) c.handler.ensures c.in-Some.ensures in
    let first : IsFirst (is_site (handler_of m)) c.self.inside.sites.items c.in-Some.at =
    subst (λ (xs : List Site). IsFirst (is_site (handler_of m)) xs c.in-Some.at) c.deref.ensures.value named in
    let there = item_at c.self.inside.sites.items c.in-Some.at s first.within c.index_mut-site.ensures.value in
    let r = hear s.core.state m in
    let changed : t ≡ heard_site s r = c.in-Ok-hear.ensures.site in
    let number : number_of t ≡ number_of s = ap number_of changed ∙ number-row s.core.state m r (row s.core.state m) in
    let stores : Stores c.self.inside.keeper c.hear.new.keeper t.stored =
    subst (λ (x : HandlerState). Stores c.self.inside.keeper c.hear.new.keeper x) (sym (ap (λ (x : Site). x.stored) changed)) c.in-Ok-hear.ensures.stored in
    has_site c.self.inside.keeper c.hear.new.keeper c.self.inside.sites.items c.self.inside.parties.items c.in-Some.at s t c.self.invariant
    (apart_sites c.self.inside.sites.items c.self.inside.parties.items c.self.inside.sent.items c.self.inside.joint.keys
    (logs_kept c.self.inside.logs.entries) c.args.self.now c.self.view_is c.requires) there number
    (subst (λ (y : Site). y.stored.number ≡ number_of y) (sym changed) refl) stores

pub returns : goal.returns
returns g c =
    let s = c.index_mut-site.result.now in
    let m = c.args.message.now in
    let named : IsFirst (is_site (handler_of m)) c.deref.result.now c.in-Some.at =
    subst (λ (x : HandlerId). IsFirst (is_site x) c.deref.result.now c.in-Some.at) c.handler.ensures c.in-Some.ensures in
    let first : IsFirst (is_site (handler_of m)) c.self.inside.sites.items c.in-Some.at =
    subst (λ (xs : List Site). IsFirst (is_site (handler_of m)) xs c.in-Some.at) c.deref.ensures.value named in
    let r = hear s.core.state m in
    let changed = c.in-Ok-hear.ensures.site in
    heard_all c.self.inside.sites.items c.self.inside.parties.items c.self.inside.sent.items c.self.inside.joint.keys
    (logs_kept c.self.inside.logs.entries) c.args.self.now c.self.view_is m c.in-Some.at s c.hear.new.self c.in-Ok-hear.heard c.reserve.new.self.items
    c.send-place.new.sent.items c.reserve-2.new.self.keys c.join.new.joint.keys c.send-place.result
    c.requires first c.index_mut-site.ensures.value changed (ap number_of changed ∙ number-row s.core.state m r (row s.core.state m)) c.in-Ok-hear.ensures.heard
    c.in-Ok.ensures.items c.send-place.ensures.sent c.in-Ok-reserve.ensures.keys c.join.ensures c.send-place.ensures.place

pub returns-in_default-reserve : goal.returns-in_default-reserve
returns-in_default-reserve g c =
    let m = c.args.message.now in
    let named : IsFirst (is_site (handler_of m)) c.deref.result.now c.in-Some.at =
    subst (λ (x : HandlerId). IsFirst (is_site x) c.deref.result.now c.in-Some.at) c.handler.ensures c.in-Some.ensures in
    let first : IsFirst (is_site (handler_of m)) c.self.inside.sites.items c.in-Some.at =
    subst (λ (xs : List Site). IsFirst (is_site (handler_of m)) xs c.in-Some.at) c.deref.ensures.value named in
    let s = read_at c.self.inside.sites.items c.in-Some.at first.within in
    let before =
    hears_ok c.self.inside.sites.items c.self.inside.parties.items c.self.inside.sent.items c.self.inside.joint.keys
    (logs_kept c.self.inside.logs.entries) c.args.self.now c.self.view_is m c.in-Some.at s.0 first s.1 in (
      before,
      ap (λ (ms : List Message). world_kept c.self.inside.sites.items c.self.inside.parties.items ms c.self.inside.joint.keys
          (logs_kept c.self.inside.logs.entries)) c.in_default-reserve.ensures.items ∙ c.self.view_is,
    )

pub returns-in_default-reserve-2 : goal.returns-in_default-reserve-2
returns-in_default-reserve-2 g c =
    let m = c.args.message.now in
    let named : IsFirst (is_site (handler_of m)) c.deref.result.now c.in-Some.at =
    subst (λ (x : HandlerId). IsFirst (is_site x) c.deref.result.now c.in-Some.at) c.handler.ensures c.in-Some.ensures in
    let first : IsFirst (is_site (handler_of m)) c.self.inside.sites.items c.in-Some.at =
    subst (λ (xs : List Site). IsFirst (is_site (handler_of m)) xs c.in-Some.at) c.deref.ensures.value named in
    let s = read_at c.self.inside.sites.items c.in-Some.at first.within in
    let before =
    hears_ok c.self.inside.sites.items c.self.inside.parties.items c.self.inside.sent.items c.self.inside.joint.keys
    (logs_kept c.self.inside.logs.entries) c.args.self.now c.self.view_is m c.in-Some.at s.0 first s.1 in (
      before,
      ap (λ (ms : List Message). world_kept c.self.inside.sites.items c.self.inside.parties.items ms c.reserve-2.new.self.keys
          (logs_kept c.self.inside.logs.entries)) c.in-Ok.ensures.items
          ∙ ap (λ (bs : List Block). world_kept c.self.inside.sites.items c.self.inside.parties.items c.self.inside.sent.items bs
          (logs_kept c.self.inside.logs.entries)) c.in_default-reserve-2.ensures.keys
          ∙ c.self.view_is,
    )

pub invariant_of-self-in_default-hear : goal.invariant_of-self-in_default-hear
invariant_of-self-in_default-hear g c =
    let s = c.index_mut-site.result.now in
    let t = c.hear.new.self in
    let m = c.args.message.now in
    let named : IsFirst (is_site (handler_of m)) c.deref.result.now c.in-Some.at =
    subst (λ (x : HandlerId). IsFirst (is_site x) c.deref.result.now c.in-Some.at) c.handler.ensures c.in-Some.ensures in
    let first : IsFirst (is_site (handler_of m)) c.self.inside.sites.items c.in-Some.at =
    subst (λ (xs : List Site). IsFirst (is_site (handler_of m)) xs c.in-Some.at) c.deref.ensures.value named in
    let there = item_at c.self.inside.sites.items c.in-Some.at s first.within c.index_mut-site.ensures.value in
    let same : t ≡ s = c.in_default-hear.ensures.err in
    has_kept c.self.inside.keeper c.hear.new.keeper (set c.self.inside.sites.items c.in-Some.at t) c.self.inside.parties.items
    (has_same_site c.self.inside.keeper c.self.inside.sites.items c.self.inside.parties.items c.in-Some.at s t c.self.invariant there (ap number_of same)
    (ap (λ (x : Site). x.stored) same)) c.in_default-hear.ensures.kept
