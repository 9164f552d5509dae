use Rattle.std.proofs.Common.{◌∙◌, sym, ap, option_map}
use Rattle.toml.specs.View.{view, array_view}
use Rattle.scoop_system.proofs.ViewLemmas.{addresses_listed}
use Rattle.scoop_system.proofs.reading.addresses.addresses_in.Goals as goal

pub returns-in-Some : goal.returns-in-Some
returns-in-Some c =
    let array = sym c.as_array.ensures ∙ ap (option_map (λ v. array_view v.now)) c.in-Some.is in
    let seen = rw (← c.as_slice.ensures.value) at array in
    c.some_addresses.ensures ∙ addresses_listed (view c.args.value.now) c.as_slice.result.now seen
