use Rattle.scoop_links.proofs.patient_link.PatientLinkLink.send.Goals as goal

-- the link below was called once, and the note on its failure leaves it as it is
pub returns-in-Ok-clause-sent : goal.returns-in-Ok-clause-sent
returns-in-Ok-clause-sent g c = rw (← c.self.view_is) (record { below = c.send.result; faults = c.send.ensures.faults; sent = c.send.ensures.told })

pub returns-in-Err-clause-sent : goal.returns-in-Err-clause-sent
returns-in-Err-clause-sent g c =
    rw (← c.self.view_is) (rw c.fail.ensures.inner (record { below = c.send.result; faults = c.send.ensures.faults; sent = c.send.ensures.told }))
