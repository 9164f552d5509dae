use Rattle.std.proofs.Common.{ap, ◌∙◌, ◌++◌, ◌∷◌, []}
use Rattle.scoop_weaver.proofs.Along.{one_more, grows_both}
use Rattle.scoop_weaver.proofs.trail.Trail.add.Goals as goal

pub returns-clause-adds : goal.returns-clause-adds
returns-clause-adds g c ts has =
    one_more c.args.post.now c.number_of.new.post c.number_of-2.new.post c.args.self.now c.push.new.self.items ts c.args.next.now c.in_ok-heard.heard
    c.in_ok-sent.sent c.in_ok-heard.ensures.grows c.in_ok-sent.ensures.grows c.in_ok-heard.ensures.named c.in_ok-heard.ensures.within
    c.in_ok-sent.ensures.named c.in_ok-sent.ensures.within
    (c.in_ok-push.ensures.items ∙ ap (λ xs. xs ++ record { heard = c.in_ok-heard.heard; sent = c.in_ok-sent.sent } ∷ []) c.self.view_is) has

pub returns-clause-grows : goal.returns-clause-grows
returns-clause-grows g c = grows_both _ _ _ c.in_ok-heard.ensures.grows c.in_ok-sent.ensures.grows
