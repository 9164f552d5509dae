-- The names of the operations that the classes of every system have.
use Rattle.std.specs.Prelude.{ℕ, if◌then◌else◌, List, Option, Some, None, codes}
use Rattle.scoop_classes.specs.Classes.{same_text}
use Rattle.scoop_classes.specs.declared.classes.DemoClass.{DemoClass}
use Rattle.scoop_classes.specs.declared.classes.DemoClass.TheVariants.{Cell, Counter, Account, Exchange}

abbrev pub known_operation : DemoClass → List ℕ → Option ℕ
known_operation Cell name = if same_text name (codes "set") then Some 1 else (if same_text name (codes "get") then Some 2 else None)
known_operation Counter name = if same_text name (codes "add") then Some 1 else (if same_text name (codes "get") then Some 2 else None)
known_operation Account name =
    if same_text name (codes "deposit") then Some 1
    else (if same_text name (codes "withdraw") then Some 2
    else (if same_text name (codes "balance") then Some 3
    else None))
known_operation Exchange name = if same_text name (codes "put") then Some 1 else None

-- the names of the operations of a class
abbrev pub known_names : DemoClass → List ℕ
known_names Cell = codes "set, get"
known_names Counter = codes "add, get"
known_names Account = codes "deposit, withdraw, balance"
known_names Exchange = codes "put"
