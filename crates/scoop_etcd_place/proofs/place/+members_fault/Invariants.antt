use Rattle.scoop_etcd_place.proofs.place.+members_fault.Given as goal

abbrev pub decreases-members_fault : goal.decreases-members_fault
decreases-members_fault l = l.most
