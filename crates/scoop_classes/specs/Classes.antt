-- The demo classes, by name.
use Rattle.std.specs.Prelude.{◌==◌, if◌then◌else◌, ℕ, Bool, List, [], ◌∷◌, Option, Some, None, codes}
use Rattle.std.specs.Option.{option_map}
use Rattle.std.specs.Cmp.Lexicographic.{pointwise}
use Rattle.scoop_object.specs.declared.term.Term.{Term}
use Rattle.scoop_object.specs.declared.term.Term.TheVariants.{Const, Word, Arg}
use Rattle.scoop_object.specs.declared.term.Write.{Write}
use Rattle.scoop_object.specs.declared.row.OpRow.{OpRow}
use Rattle.scoop_object.specs.Class.{ClassTable}
use Rattle.scoop_classes.specs.declared.classes.DemoClass.{DemoClass}
use Rattle.scoop_classes.specs.declared.classes.DemoClass.TheVariants.{Cell, Counter, Account, Exchange}

abbrev pub write : ℕ → Term → Term → Term → Write
write word base plus minus = record { word = word; base = base; plus = plus; minus = minus }

abbrev pub row : ℕ → Option (Term × Term) → List Write → Term → OpRow
row op test writes answer = record { op = op; test = test; writes = writes; answer = answer }

-- 1 sets it, 2 gets it
abbrev pub cell_class : ClassTable
cell_class =
    record {
      words = 1;
      rows = row 1 None (write 0 (Arg 0) (Const 0) (Const 0) ∷ []) (Word 0)
          ∷ row 2 None [] (Word 0)
          ∷ [];
    }

-- 1 adds to it, 2 gets it
abbrev pub counter_class : ClassTable
counter_class =
    record {
      words = 1;
      rows = row 1 None (write 0 (Word 0) (Arg 0) (Const 0) ∷ []) (Word 0)
          ∷ row 2 None [] (Word 0)
          ∷ [];
    }

-- 1 deposits, 2 withdraws if there is enough, 3 gets the balance
abbrev pub account_class : ClassTable
account_class =
    record {
      words = 1;
      rows = row 1 None (write 0 (Word 0) (Arg 0) (Const 0) ∷ []) (Word 0)
          ∷ row 2 (Some (Arg 0, Word 0)) (write 0 (Word 0) (Const 0) (Arg 0) ∷ []) (Word 0)
          ∷ row 3 None [] (Word 0)
          ∷ [];
    }

-- 1 puts a number, and returns the one before it
abbrev pub exchange_class : ClassTable
exchange_class =
    record {
      words = 2;
      rows = row 1 None (write 0 (Arg 0) (Const 0) (Const 0) ∷ write 1 (Word 0) (Const 0) (Const 0) ∷ []) (Word 1)
          ∷ [];
    }

-- two texts are the same
abbrev pub same_text : List ℕ → List ℕ → Bool
same_text = pointwise ◌==◌

abbrev pub class_name : DemoClass → List ℕ
class_name Cell = codes "cell"
class_name Counter = codes "counter"
class_name Account = codes "account"
class_name Exchange = codes "exchange"

abbrev pub table_of : DemoClass → ClassTable
table_of Cell = cell_class
table_of Counter = counter_class
table_of Account = account_class
table_of Exchange = exchange_class

-- the class that has the name
abbrev pub class_of_name : List ℕ → Option DemoClass
class_of_name name =
    if same_text name (class_name Cell) then Some Cell
    else (if same_text name (class_name Counter) then Some Counter
    else (if same_text name (class_name Account) then Some Account
    else (if same_text name (class_name Exchange) then Some Exchange
    else None)))

-- the class of a name
abbrev pub class_named : List ℕ → Option ClassTable
class_named name = option_map table_of (class_of_name name)
