use Rattle.std.proofs.Common.{ℕ, List, get_or, sym, ◌∙◌, subst, arith}
use Rattle.std.proofs.lemmas.List.{take_all}
use Rattle.std.proofs.lemmas.Option.{slice_get-get_or}
use Rattle.scoop_message.specs.declared.name.ClientId.{ClientId}
use Rattle.scoop_message.specs.Message.{same_client}
use Rattle.scoop_message.proofs.Same.{client_decides}
use Rattle.scoop_message.specs.Lists.{NoRepeats}
use Rattle.scoop_world.specs.OpenRefusal.{clients_of}
use Rattle.scoop_keeper.proofs.Keyed.{first_repeat, once_longer}
use Rattle.scoop_world.proofs.opening.refusing.repeated_client.Goals as goal

-- a read beyond the list
abbrev nobody : ClientId × ℕ
nobody = (record { 0 = 0 }, 0)

pub returns-then-is_joining-clause-some : goal.returns-then-is_joining-clause-some
returns-then-is_joining-clause-some c =
    let cs = c.args.clients.now in
    let i = c.loop-i.i in
    first_repeat
    (λ (x : ClientId × ℕ).
    x.0) same_client client_decides cs i (get_or cs i nobody) (slice_get-get_or cs i nobody (omega arith)) c.loop-i.invariant (sym c.is_joining.ensures
    ∙ c.if-is_joining.true)

pub loop-i-preserved : goal.loop-i-preserved
loop-i-preserved c =
    let cs = c.args.clients.now in
    let i = c.loop-i.i in
    once_longer (λ (x : ClientId × ℕ). x.0) same_client client_decides cs i (get_or cs i nobody) (slice_get-get_or cs i nobody (omega arith)) c.loop-i.invariant
    (sym c.is_joining.ensures ∙ c.if-is_joining.false)

pub returns-clause-none : goal.returns-clause-none
returns-clause-none c =
    let cs = c.args.clients.now in
    subst (λ (xs : List (ClientId × ℕ)). NoRepeats (clients_of xs)) (take_all c.loop-i.i cs (omega arith)) c.loop-i.invariant
