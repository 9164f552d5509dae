use Rattle.std.proofs.Common.{Ok, ap, ◌∙◌}
use Rattle.scoop_etcd.proofs.StateLemmas.{commits_after}
use Rattle.scoop_etcd.proofs.committing.store_states.Goals as goal

-- the second try, before which nothing was changed
pub returns-clause-commits : goal.returns-clause-commits
returns-clause-commits g c honest =
    let third = c.try_storing-2.ensures.honest honest in
    let second = c.reread.ensures.honest third in
    let first = c.check_owner.ensures.honest second in
    let done = rw c.in-Some-2.is at (c.in_ok-revision-2.ensures.commits honest) in (
      c.reread.new.revisions.entries,
      commits_after _ _ _ _ _ _ done (λ alone.
          let after = c.try_storing-2.ensures.alone alone in
          let between = c.reread.ensures.alone after in
          c.reread.ensures.stays after ∙ c.check_owner.ensures.stays between
          ∙ c.in_ok-revision.ensures.idle first (c.check_owner.ensures.alone between) (ap Ok c.in_default.is)),
    )
