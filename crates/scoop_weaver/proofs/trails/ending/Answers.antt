use Rattle.scoop_weaver.proofs.Along.{order_found, unexplained_along}
use Rattle.scoop_weaver.proofs.trails.ending.Goals as goal

pub returns-in-None : goal.returns-in-None
returns-in-None g c =
    record {
      woven = λ post all run.
          order_found post c.args.trails.now c.args.places.now c.args.order.items c.args.sent.now.items c.in-None.ensures.none run;
      unexplained = λ post all run. tt;
    }

pub returns-in-Some-clause-unexplained : goal.returns-in-Some-clause-unexplained
returns-in-Some-clause-unexplained g c post all run =
    unexplained_along post c.args.trails.now c.args.places.now c.args.order.items c.args.sent.now.items c.first_cause-party.result all run c.requires.stuck
    c.first_cause-party.ensures.0 c.first_cause-party.ensures.1
