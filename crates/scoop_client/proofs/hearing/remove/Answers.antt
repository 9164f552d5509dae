use Rattle.std.proofs.Common.{rules, not}
use Rattle.scoop_message.specs.declared.name.HandlerId.{HandlerId}
use Rattle.scoop_message.specs.Message.{same_handler}
use Rattle.scoop_client.proofs.Retained.{filter_from_retained}
use Rattle.scoop_client.proofs.hearing.remove.Goals as goal

pub returns : goal.returns
returns g c =
    filter_from_retained _ (λ (x : HandlerId). not (same_handler x c.args.handler)) _ (λ x b f h. search rules) _ _ c.retain.ensures.filtered
