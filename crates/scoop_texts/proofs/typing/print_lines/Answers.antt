use Rattle.scoop_texts.proofs.typing.print_lines.Goals as goal

pub returns : goal.returns
returns g c = c.writeln.ensures.bytes
