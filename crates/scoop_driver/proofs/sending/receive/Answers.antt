use Rattle.std.proofs.Common.{◌≡◌, take, Ok, arith}
use Rattle.std.proofs.lemmas.List.{length-take}
use Rattle.scoop_frame.specs.Frame.{both}
use Rattle.scoop_driver.proofs.Sends.{no_frame}
use Rattle.scoop_driver.proofs.sending.receive.Goals as goal

pub returns-in-Err-decode-clause-takes : goal.returns-in-Err-decode-clause-takes
returns-in-Err-decode-clause-takes g c =
    no_frame _ (take c.in-Ok-Some.len c.receive.new.buffer) _ _
    (omega (arith, length-take c.in-Ok-Some.len c.receive.new.buffer, c.receive.array_long)) c.of.ensures
    (λ v m is. let never : c.decode.result ≡ Ok (both v m) = (c.decode.ensures.ok v m).1 is in let not : c.decode.result ≡ _ = c.in-Err-decode.is in cc)
    (rw c.in-Ok-Some.field-0-is at c.in-Ok-Some.ensures.told)
