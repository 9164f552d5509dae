use Rattle.scoop_weaver.proofs.Numbers.{keys_grow, key_named}
use Rattle.scoop_weaver.proofs.post.Post.number.Goals as goal

pub returns-clause-grows : goal.returns-clause-grows
returns-clause-grows g c = keys_grow c.self.inside.messages.keys c.insert_full.new.self.keys c.args.self.now _ c.self.view_is c.in_ok-place.ensures.keys

pub returns-clause-named : goal.returns-clause-named
returns-clause-named g c =
    let s = c.in_ok-place.ensures.stored in
    key_named c.insert_full.new.self.keys c.in_ok-place.place c.args.message.now s.0 s.1 s.2
