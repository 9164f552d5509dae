use Rattle.std.proofs.Common.{◌≡◌, refl, ap}
use Rattle.std.specs.Prelude.{is_none}
use Rattle.scoop_queue.proofs.Results.{on-err}
use Rattle.scoop_handler.specs.State.{HandlerState}
use Rattle.scoop_handler.specs.Core.{Core, IsCore, core_of, with_state}
use Rattle.scoop_handler.proofs.TableLaws.{HasHeard, sound-heard, confirms-heard, holder-heard, drops-heard, grows-heard, words-heard}
use Rattle.scoop_handler.proofs.handler.Handler.hear.Goals as goal

abbrev old : (g : _) → goal.After-hear g → Core
old g c = core_of c.self.inside.class c.self.inside.state (is_none c.self.inside.object)

abbrev new : (g : _) → goal.After-hear g → Core
new g c = with_state c.hear.new.self (old g c)

done : (g : _) (c : goal.After-hear g) → HasHeard (old g c) c.args.message.now (new g c) c.hear.result
done g c = record {
  ok = c.hear.ensures.ok;
  stays = refl;
  err = on-err c.hear.result (λ same. ap (λ (s : HandlerState). with_state s (old g c)) same) c.hear.ensures.err;
}

sound : (g : _) (c : goal.After-hear g) → IsCore (new g c)
sound g c = sound-heard (old g c) c.args.message.now (new g c) c.hear.result c.hear.ensures.sound c.self.invariant.0 (done g c)

pub invariant_of-self : goal.invariant_of-self
invariant_of-self g c =
    let words : c.hear.new.self.words ≡ c.self.inside.state.words = words-heard (old g c) c.args.message.now (new g c) c.hear.result (done g c) in
    (sound g c, rw words c.self.invariant.1)

pub returns-clause-sound : goal.returns-clause-sound
returns-clause-sound g c = sound g c

pub returns-clause-confirms : goal.returns-clause-confirms
returns-clause-confirms g c = confirms-heard (old g c) c.args.message.now (new g c) c.hear.result c.self.invariant.0 (done g c)

pub returns-clause-holder : goal.returns-clause-holder
returns-clause-holder g c = rw (← c.self.view_is) (holder-heard (old g c) c.args.message.now (new g c) c.hear.result c.self.invariant.0 (done g c))

pub returns-clause-drops : goal.returns-clause-drops
returns-clause-drops g c = rw (← c.self.view_is) (drops-heard (old g c) c.args.message.now (new g c) c.hear.result (done g c))

pub returns-clause-grows : goal.returns-clause-grows
returns-clause-grows g c = rw (← c.self.view_is) (grows-heard (old g c) c.args.message.now (new g c) c.hear.result (done g c))

pub returns-clause-words : goal.returns-clause-words
returns-clause-words g c = rw (← c.self.view_is) (words-heard (old g c) c.args.message.now (new g c) c.hear.result (done g c))
