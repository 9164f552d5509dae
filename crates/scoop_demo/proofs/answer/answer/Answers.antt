use Rattle.scoop_netloop.proofs.Looping.{one_message}
use Rattle.scoop_demo.proofs.AnswerLemmas.{elsewhere_same, others_answered, printed, printed_refused}
use Rattle.scoop_demo.proofs.answer.answer.Goals as goal

pub returns-in-Err-clause-ok : goal.returns-in-Err-clause-ok
returns-in-Err-clause-ok g c = printed_refused _ _ _ c.in-Err.ensures.reads

pub returns-in-Err-clause-others : goal.returns-in-Err-clause-others
returns-in-Err-clause-others g c = elsewhere_same _ _ _ _ _

pub returns-in-Ok-answer_message-clause-ok : goal.returns-in-Ok-answer_message-clause-ok
returns-in-Ok-answer_message-clause-ok g c =
    printed c.args.datagram.now c.in-Ok.read.1 _ _ _ _ _ _ (one_message c.args.datagram.now c.decode.result _ c.in-Ok.is c.decode.ensures.ok)
    (record { refused = c.runs_next.ensures.refused; silent = c.runs_next.ensures.silent; replied = c.runs_next.ensures.replied })
    (c.in-Ok-answer_message.ensures.ok c.args.datagram.now c.in-Ok.ensures.reads)

pub returns-in-Ok-answer_message-clause-others : goal.returns-in-Ok-answer_message-clause-others
returns-in-Ok-answer_message-clause-others g c = record {
  honest = c.answer_message.ensures.honest;
  handlers = λ is h none. others_answered _ c.args.datagram.now c.in-Ok.read.1 _ _ _ _ _ g.K.Keeper.handlers
      (one_message c.args.datagram.now c.decode.result _ c.in-Ok.is c.decode.ensures.ok)
      (c.in-Ok-answer_message.ensures.ok c.args.datagram.now c.in-Ok.ensures.reads) (c.in-Ok-answer_message.ensures.stored is) h none;
  clients = c.answer_message.ensures.incarnations;
}
