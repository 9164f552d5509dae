use Rattle.std.proofs.Common.{◌≡◌, List, Option, slice_get, sym, subst}
use Rattle.scoop_client.specs.declared.command.Command.{Command}
use Rattle.scoop_model.specs.World.{World, Party, is_party, party_of}
use Rattle.scoop_model.specs.Step.{do_at}
use Rattle.scoop_keeper.specs.Keyed.{IsFirst}
use Rattle.scoop_world.specs.Answers.{Takes}
use Rattle.scoop_world.proofs.parts.Parts.command.Goals as goal

pub returns-in-Reserve : goal.returns-in-Reserve
returns-in-Reserve g c =
    let w : World = c.args.self.now in
    let first : IsFirst (is_party c.args.client) c.self.inside.parties.items c.in-Some.at =
    subst (λ (xs : List Party). IsFirst (is_party c.args.client) xs c.in-Some.at) c.deref.ensures.value c.in-Some.ensures in
    let there : party_of c.args.client w ≡ slice_get w.parties c.in-Some.at =
    subst (λ (y : World). party_of c.args.client y ≡ slice_get y.parties c.in-Some.at) c.self.view_is first.found in
    subst (λ (o : Option Party). Takes (do_at w c.args.command.now o) c.reserve.result w c.reserve.new.self) (sym there)
    (subst (λ (x : Command). Takes (do_at w x (slice_get w.parties c.in-Some.at)) c.reserve.result w c.reserve.new.self)
    (sym c.in-Reserve.is) c.reserve.ensures)

pub returns-in-Call : goal.returns-in-Call
returns-in-Call g c =
    let w : World = c.args.self.now in
    let first : IsFirst (is_party c.args.client) c.self.inside.parties.items c.in-Some.at =
    subst (λ (xs : List Party). IsFirst (is_party c.args.client) xs c.in-Some.at) c.deref.ensures.value c.in-Some.ensures in
    let there : party_of c.args.client w ≡ slice_get w.parties c.in-Some.at =
    subst (λ (y : World). party_of c.args.client y ≡ slice_get y.parties c.in-Some.at) c.self.view_is first.found in
    subst (λ (o : Option Party). Takes (do_at w c.args.command.now o) c.log.result w c.log.new.self) (sym there) c.log.ensures

pub returns-in-Query : goal.returns-in-Query
returns-in-Query g c =
    let w : World = c.args.self.now in
    let first : IsFirst (is_party c.args.client) c.self.inside.parties.items c.in-Some.at =
    subst (λ (xs : List Party). IsFirst (is_party c.args.client) xs c.in-Some.at) c.deref.ensures.value c.in-Some.ensures in
    let there : party_of c.args.client w ≡ slice_get w.parties c.in-Some.at =
    subst (λ (y : World). party_of c.args.client y ≡ slice_get y.parties c.in-Some.at) c.self.view_is first.found in
    subst (λ (o : Option Party). Takes (do_at w c.args.command.now o) c.log-in-Query.result w c.log-in-Query.new.self) (sym there) c.log-in-Query.ensures

pub returns-in-End : goal.returns-in-End
returns-in-End g c =
    let w : World = c.args.self.now in
    let first : IsFirst (is_party c.args.client) c.self.inside.parties.items c.in-Some.at =
    subst (λ (xs : List Party). IsFirst (is_party c.args.client) xs c.in-Some.at) c.deref.ensures.value c.in-Some.ensures in
    let there : party_of c.args.client w ≡ slice_get w.parties c.in-Some.at =
    subst (λ (y : World). party_of c.args.client y ≡ slice_get y.parties c.in-Some.at) c.self.view_is first.found in
    subst (λ (o : Option Party). Takes (do_at w c.args.command.now o) c.log-in-End.result w c.log-in-End.new.self) (sym there) c.log-in-End.ensures

pub returns-in-GiveUp : goal.returns-in-GiveUp
returns-in-GiveUp g c =
    let w : World = c.args.self.now in
    let first : IsFirst (is_party c.args.client) c.self.inside.parties.items c.in-Some.at =
    subst (λ (xs : List Party). IsFirst (is_party c.args.client) xs c.in-Some.at) c.deref.ensures.value c.in-Some.ensures in
    let there : party_of c.args.client w ≡ slice_get w.parties c.in-Some.at =
    subst (λ (y : World). party_of c.args.client y ≡ slice_get y.parties c.in-Some.at) c.self.view_is first.found in
    subst (λ (o : Option Party). Takes (do_at w c.args.command.now o) c.give_up.result w c.give_up.new.self) (sym there)
    (subst (λ (x : Command). Takes (do_at w x (slice_get w.parties c.in-Some.at)) c.give_up.result w c.give_up.new.self)
    (sym c.in-GiveUp.is) c.give_up.ensures)
