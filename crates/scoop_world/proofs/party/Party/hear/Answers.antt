use Rattle.std.proofs.Common.{◌≡◌, sym, ap, ◌∙◌}
use Rattle.scoop_message.specs.declared.name.Block.{Block}
use Rattle.scoop_client.specs.Hearing.{Notice}
use Rattle.scoop_model.specs.Step.{newest_block}
use Rattle.scoop_world.proofs.Newest.{heard_newest}
use Rattle.scoop_world.proofs.party.Party.hear.Goals as goal

pub invariant_of-self-2 : goal.invariant_of-self-2
invariant_of-self-2 g c =
    ap (λ (n : Notice). newest_block n.0) (sym c.hear-note.ensures.value) ∙ heard_newest c.self.inside.client c.args.message.now ∙ c.self.invariant

pub returns-clause-id : goal.returns-clause-id
returns-clause-id g c =
    let same : newest_block c.hear-note.new.self ≡ newest_block c.self.inside.client =
    ap (λ (n : Notice). newest_block n.0) (sym c.hear-note.ensures.value) ∙ heard_newest c.self.inside.client c.args.message.now in
    rw (← c.self.view_is) (ap (λ (b : Block). b.client) same)
