use Rattle.std.proofs.Common.{refl, ap}
use Rattle.std.specs.Option.{option_map}
use Rattle.scoop_book.specs.declared.event.Event.TheVariants.{Begin}
use Rattle.scoop_book.specs.declared.event.Reply.TheVariants.{Began}
use Rattle.scoop_book.specs.Moves.{LocalHandler, leaves}
use Rattle.scoop_book.proofs.BookLemmas.{call_left, call_moves, if_there}
use Rattle.scoop_book.proofs.handlers.Handlers.begin.Goals as goal

pub returns-clause-moves : goal.returns-clause-moves
returns-clause-moves g c =
    call_moves g.K.Keeper.handlers g.K.Keeper.is_honest c.self.inside.locals.items c.self.inside.keeper c.args.self.now c.self.view_is c.args.handler c.args.at
    c.index_mut-local.result.now c.requires.first c.index_mut-local.ensures.value
    c.requires.held c.begin.new.self (Begin c.args.handler) (Began (option_map leaves c.begin.result)) refl
    (record { tells = ap (option_map leaves) c.begin.ensures.job; after = c.begin.ensures.moved })

pub returns-clause-job : goal.returns-clause-job
returns-clause-job g c =
    if_there g.K.Keeper.handlers g.K.Keeper.is_honest c.self.inside.locals.items c.self.inside.keeper c.args.self.now c.self.view_is c.args.handler c.args.at
    c.index_mut-local.result.now c.requires.first c.index_mut-local.ensures.value
    _ c.begin.ensures.job

pub returns-clause-held : goal.returns-clause-held
returns-clause-held g c =
    call_left g.K.Keeper.handlers g.K.Keeper.is_honest c.self.inside.locals.items c.self.inside.keeper c.args.self.now c.self.view_is c.args.handler c.args.at
    c.index_mut-local.result.now c.requires.first c.index_mut-local.ensures.value
    c.requires.held c.begin.new.self (Begin c.args.handler) (Began (option_map leaves c.begin.result)) refl
    (record { tells = ap (option_map leaves) c.begin.ensures.job; after = c.begin.ensures.moved })
    (ap (λ (s : LocalHandler). s.stored) c.begin.ensures.moved)
