use Rattle.std.proofs.Common.{◌∙◌, sym, ap, option_map}
use Rattle.serde_json.specs.View.{view, items_view}
use Rattle.scoop_etcd_calls.proofs.AnswerLemmas.{values_listed}
use Rattle.scoop_etcd_calls.proofs.reading.values_at.Goals as goal

pub returns : goal.returns
returns c =
    let found = sym c.entry.ensures ∙ ap (option_map (λ v. view v.now)) c.in-Some.is in
    let array = sym c.as_array.ensures ∙ ap (option_map (λ v. items_view v.now.items)) c.in-Some-as_array.is in
    let seen = rw (← c.as_slice.ensures.value) at array in
    values_listed (view c.args.value.now) (view c.in-Some.list.now) c.as_slice.result.now found seen
