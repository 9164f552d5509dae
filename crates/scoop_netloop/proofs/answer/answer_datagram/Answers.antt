use Rattle.std.proofs.lemmas.Result.{IfOk-weaker}
use Rattle.scoop_netloop.specs.Answering.AnswersDatagram.{answers}
use Rattle.scoop_netloop.proofs.answer.answer_datagram.Goals as goal

pub returns-in-Ok-clause-ok : goal.returns-in-Ok-clause-ok
returns-in-Ok-clause-ok g c =
    IfOk-weaker c.answer_message.result _ _ (λ answered a. answers a) (c.answer_message.ensures.ok c.args.datagram.now c.in-Ok.ensures.reads)
