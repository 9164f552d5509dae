use Rattle.std.proofs.Common.{take}
use Rattle.scoop_demo.proofs.HexLemmas.{no_fault, stands}
use Rattle.scoop_demo.proofs.datagram.read_datagram.Goals as goal

pub returns-in-Some-clause-ok : goal.returns-in-Some-clause-ok
returns-in-Some-clause-ok c =
    stands c.args.line.now.items (take c.in-Some.len c.read_digits.new.buffer) (rw c.as_slice.ensures.value at c.in-Some.ensures.1)

pub returns-in-Some-clause-fault : goal.returns-in-Some-clause-fault
returns-in-Some-clause-fault c =
    let bytes = take c.in-Some.len c.read_digits.new.buffer in
    no_fault c.args.line.now.items bytes (stands c.args.line.now.items bytes (rw c.as_slice.ensures.value at c.in-Some.ensures.1))

pub returns-in-Some-read_digits-clause-fault : goal.returns-in-Some-read_digits-clause-fault
returns-in-Some-read_digits-clause-fault c =
    no_fault c.args.line.now.items (take c.in-Some-read_digits.len c.read_digits-2.new.buffer)
    (rw (c.as_slice-2.ensures.value, c.remove_spaces.ensures) at c.in-Some-read_digits.ensures.1)
