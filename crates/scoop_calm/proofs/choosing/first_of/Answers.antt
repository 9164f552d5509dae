use Rattle.std.proofs.Common.{◌≡◌, true, false, Bool, Option, sym, ap, ◌∙◌}
use Rattle.std.specs.Prelude.{is_some}
use Rattle.std.specs.Option.{option_or}
use Rattle.scoop_calm.specs.declared.next.Next.{Next}
use Rattle.scoop_calm.specs.Next.{next_finish, next_begin, next_ask, next_end}
use Rattle.scoop_calm.proofs.Firsts.{or_some, or_none, finish_is, begin_is}
use Rattle.scoop_calm.proofs.choosing.first_of.Goals as goal

-- whether there is one, as the code has tested it
tested : (o p : Option Next) (t u : Bool) → o ≡ p → t ≡ is_some o → t ≡ u → is_some p ≡ u
tested o p t u same is found = ap is_some (sym same) ∙ sym is ∙ found

pub returns-then-is_some : goal.returns-then-is_some
returns-then-is_some g c =
    let w = c.args.world.now in
    let asks = next_ask w.sites w.parties in
    let finish = c.first_out-finish.ensures ∙ finish_is w c.args.states.now c.requires in
    finish ∙ sym (or_some (next_finish w) (option_or (next_begin w) (option_or asks (next_end w)))
    (tested _ _ _ true finish c.is_some.ensures c.if-is_some.true))

pub returns-then-is_some-2 : goal.returns-then-is_some-2
returns-then-is_some-2 g c =
    let w = c.args.world.now in
    let asks = next_ask w.sites w.parties in
    let finish = c.first_out-finish.ensures ∙ finish_is w c.args.states.now c.requires in
    let begin = c.first_to_begin-begin.ensures ∙ begin_is w c.args.states.now c.requires in
    begin ∙ sym (or_some (next_begin w) (option_or asks (next_end w)) (tested _ _ _ true begin c.is_some-2.ensures c.if-is_some-2.true))
    ∙ sym (or_none (next_finish w) (option_or (next_begin w) (option_or asks (next_end w))) (tested _ _ _ false finish c.is_some.ensures c.if-is_some.false))

pub returns-then-is_some-3 : goal.returns-then-is_some-3
returns-then-is_some-3 g c =
    let w = c.args.world.now in
    let asks = next_ask w.sites w.parties in
    let finish = c.first_out-finish.ensures ∙ finish_is w c.args.states.now c.requires in
    let begin = c.first_to_begin-begin.ensures ∙ begin_is w c.args.states.now c.requires in
    c.ask-ask.ensures ∙ sym (or_some asks (next_end w) (tested _ _ _ true c.ask-ask.ensures c.is_some-3.ensures c.if-is_some-3.true))
    ∙ sym (or_none (next_begin w) (option_or asks (next_end w)) (tested _ _ _ false begin c.is_some-2.ensures c.if-is_some-2.false))
    ∙ sym (or_none (next_finish w) (option_or (next_begin w) (option_or asks (next_end w))) (tested _ _ _ false finish c.is_some.ensures c.if-is_some.false))

pub returns : goal.returns
returns g c =
    let w = c.args.world.now in
    let asks = next_ask w.sites w.parties in
    let finish = c.first_out-finish.ensures ∙ finish_is w c.args.states.now c.requires in
    let begin = c.first_to_begin-begin.ensures ∙ begin_is w c.args.states.now c.requires in
    c.end.ensures ∙ sym (or_none asks (next_end w) (tested _ _ _ false c.ask-ask.ensures c.is_some-3.ensures c.if-is_some-3.false))
    ∙ sym (or_none (next_begin w) (option_or asks (next_end w)) (tested _ _ _ false begin c.is_some-2.ensures c.if-is_some-2.false))
    ∙ sym (or_none (next_finish w) (option_or (next_begin w) (option_or asks (next_end w))) (tested _ _ _ false finish c.is_some.ensures c.if-is_some.false))
