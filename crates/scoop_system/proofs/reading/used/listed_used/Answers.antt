use Rattle.std.proofs.Common.{◌∙◌, sym, ap, option_map}
use Rattle.toml.specs.View.{view, array_view}
use Rattle.scoop_system.proofs.ViewLemmas.{used_listed}
use Rattle.scoop_system.proofs.reading.used.listed_used.Goals as goal

pub returns-in-Some : goal.returns-in-Some
returns-in-Some c =
    let array = sym c.as_array.ensures ∙ ap (option_map (λ v. array_view v.now)) c.in-Some.is in
    let seen = rw (← c.as_slice.ensures.value) at array in
    c.some_used.ensures ∙ used_listed c.args.handlers.now (view c.args.list.now) c.as_slice.result.now seen
