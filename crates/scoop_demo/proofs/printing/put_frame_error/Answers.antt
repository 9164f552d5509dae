use Rattle.scoop_demo.proofs.printing.put_frame_error.Goals as goal

pub returns-in-BadVersion : goal.returns-in-BadVersion
returns-in-BadVersion c = rw c.in-BadVersion.is c.put_met.ensures

pub returns-in-FieldNotZero : goal.returns-in-FieldNotZero
returns-in-FieldNotZero c = rw c.in-FieldNotZero.is c.put-in-FieldNotZero.ensures
