-- A stock of goods: the number left, and the number ordered.
use Rattle.std.specs.Prelude.{[], ◌∷◌, Some, None}
use Rattle.scoop_object.specs.declared.term.Term.TheVariants.{Const, Word, Arg}
use Rattle.scoop_object.specs.Class.{ClassTable}

-- 1 orders the argument's number, if that many are left; 2 gets the number left
abbrev pub stock_class : ClassTable
stock_class =
    record {
      words = 2;
      rows = record {
        op = 1;
        test = Some (Arg 0, Word 0);
        writes = record { word = 0; base = Word 0; plus = Const 0; minus = Arg 0 }
            ∷ record { word = 1; base = Word 1; plus = Arg 0; minus = Const 0 }
            ∷ [];
        answer = Word 0;
      }
          ∷ record { op = 2; test = None; writes = []; answer = Word 0 }
          ∷ [];
    }
