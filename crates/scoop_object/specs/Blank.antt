-- Blanks for the unused cells of a list of writes.
use Rattle.scoop_object.specs.declared.term.Write.{Write}
use Rattle.scoop_object.specs.declared.term.Term.TheVariants.{Const}

abbrev pub blank_write : Write
blank_write = record { word = 0; base = Const 0; plus = Const 0; minus = Const 0 }
