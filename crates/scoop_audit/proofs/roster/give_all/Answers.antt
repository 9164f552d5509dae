use Rattle.std.proofs.Common.{◌∙◌}
use Rattle.scoop_audit.specs.declared.auditing.Journal.{Journal}
use Rattle.scoop_audit.proofs.Owned.{given_who, journals_more, journals_own}
use Rattle.scoop_audit.proofs.roster.give_all.Goals as goal

pub loop-place-preserved : goal.loop-place-preserved
loop-place-preserved c =
    let i = c.loop-place.place in
    let old = c.loop-place.members in
    let new = c.give.new.members in (
      given_who i _ old new c.in-Ok.ensures.given ∙ c.loop-place.invariant.0,
      λ own.
          journals_own (λ (j : Journal). j.bytes.now) c.args.journals.now i _ old new c.loop-place-test.true (c.loop-place.invariant.1 own) c.in-Ok.ensures.given,
      λ none.
          journals_more (λ (j : Journal). j.bytes.now) c.args.journals.now i _ old new c.loop-place-test.true (c.loop-place.invariant.2 none) c.in-Ok.ensures.given,
    )
