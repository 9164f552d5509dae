use Rattle.std.proofs.Common.{◌≡◌, List, ℕ, Bor, find, rules, subst}
use Rattle.std.specs.Option.{option_map}
use Rattle.std.specs.Str.Lines.{lines}
use Rattle.std.proofs.lemmas.Iterator.Search.{find_from_yields_List}
use Rattle.std.proofs.lemmas.Iterator.Splits.{YieldsList-from_lines}
use borrow.Author.Tests.{tests}
use Rattle.scoop_owner.specs.Owner.{has_key}
use Rattle.scoop_owner.proofs.lines.line_like.Goals as goal

pub returns : goal.returns
returns c =
    let P : List ℕ → Type 0 = λ key. option_map (λ (l : Bor (List ℕ)). l.now) c.find.result ≡ find (λ l. has_key l key) (lines c.args.found.now) in
    subst P c.key_of-key.ensures
    (find_from_yields_List (λ l. has_key l c.key_of-key.result.now) _ _ c.find.result c.find.ensures.ran (YieldsList-from_lines c.args.found.now c.lines.ensures.rest)
    (λ x b q k. search (rules, tests)))
