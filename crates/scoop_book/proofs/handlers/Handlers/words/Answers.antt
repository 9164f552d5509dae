use Rattle.std.proofs.Common.{◌≡◌, Some, find, length, List, refl, subst, ◌∙◌}
use Rattle.std.proofs.lemmas.Option.{slice_get_read}
use Rattle.scoop_keeper.specs.Keyed.{IsFirst}
use Rattle.scoop_book.specs.Moves.{LocalHandler, is_handler}
use Rattle.scoop_book.proofs.handlers.Handlers.words.Goals as goal

pub returns-in-Some : goal.returns-in-Some
returns-in-Some g c =
    let xs : List LocalHandler = c.self.inside.locals.items in
    let x = c.index.result.now in
    let first : IsFirst (is_handler c.args.handler) xs c.in-Some.at =
    subst (λ ys. IsFirst (is_handler c.args.handler) ys c.in-Some.at) c.deref.ensures.value c.in-Some.ensures in
    let there : find (is_handler c.args.handler) xs ≡ Some x = first.found ∙ slice_get_read xs (length xs) c.in-Some.at x refl first.within c.index.ensures in
    rw (← c.self.view_is, there, c.words.ensures) refl
