use Rattle.std.proofs.Common.{ap, ◌∙◌, option_and_then}
use Rattle.std.proofs.lemmas.Option.{same_Some}
use Rattle.std.specs.Option.{option_map}
use Rattle.scoop_model.specs.World.{BlockLog}
use Rattle.scoop_world.specs.Kept.{entries_in}
use Rattle.scoop_calm.specs.Capped.{capped}
use Rattle.scoop_calm.proofs.Sums.{share_at}
use Rattle.scoop_calm.proofs.mark_places.block_left.Goals as goal

pub returns-in-Some-logged_by : goal.returns-in-Some-logged_by
returns-in-Some-logged_by g c = λ l at.
    let h = c.args.handler in
    let block = same_Some c.in-Some.block l.block (c.in-Some.ensures ∙ ap (option_map (λ (x : BlockLog). x.block)) at) in
    let own = c.in-Some-logged_by.ensures ∙ ap (option_and_then (λ (x : BlockLog). entries_in h x.shares)) at in
    c.share_left.ensures h ∙ ap capped (share_at h c.args.mark.now l c.in-Some.block c.in-Some-logged_by.entries.now block own)
