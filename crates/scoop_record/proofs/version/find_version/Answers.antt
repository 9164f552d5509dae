use Rattle.scoop_record.specs.Store.{TellsVersion}
use Rattle.scoop_record.proofs.StatementLemmas.{if_later}
use Rattle.scoop_record.proofs.version.find_version.Goals as goal

pub returns-in-Ok-clause-version : goal.returns-in-Ok-clause-version
unfolding TellsVersion
returns-in-Ok-clause-version g c clean =
    if_later c.number_in.result _ _ (λ laid. c.number_in.ensures.number _
    (λ few. rw c.as_slice.ensures.value (c.in-Ok.ensures.version clean laid (rw c.as_slice.ensures.value at few))))
