use Rattle.std.proofs.lemmas.Str.Pattern.{starts_text}
use Rattle.scoop_owner.proofs.lines.has_key.Goals as goal

pub returns : goal.returns
returns c = starts_text c.starts_with.result c.args.key.now c.args.line.now c.starts_with.ensures.cases
