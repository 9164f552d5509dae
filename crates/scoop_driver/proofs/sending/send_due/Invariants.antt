use Rattle.scoop_driver.proofs.Sends.{Sending}
use Rattle.scoop_driver.proofs.sending.send_due.Given as goal

abbrev pub invariant-loop-place : goal.invariant-loop-place
invariant-loop-place g l =
    Sending l.client l.place (g.L.Link.told l.initial.link) (g.L.Link.told l.link) (g.L.Link.fault_count l.initial.link) (g.L.Link.fault_count l.link)
