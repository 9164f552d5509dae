-- The keys of a system's file.
use Rattle.std.specs.Prelude.{ℕ, List, [], codes}
use Rattle.scoop_system.specs.declared.error.Key.{Key}
use Rattle.scoop_system.specs.declared.error.Key.TheVariants.{Class, Node, Handler, Client, Operation, Number, Name, Address, Status, Words, Batch, Test}
use Rattle.scoop_system.specs.declared.error.Key.TheVariants.{Writes, Answer, System, Life, Handlers}

abbrev pub key_text : Key → List ℕ
key_text Class = codes "class"
key_text Node = codes "node"
key_text Handler = codes "handler"
key_text Client = codes "client"
key_text Operation = codes "operation"
key_text Number = codes "number"
key_text Name = codes "name"
key_text Address = codes "address"
key_text Status = codes "status"
key_text Words = codes "words"
key_text Batch = codes "batch"
key_text Test = codes "test"
key_text Writes = codes "writes"
key_text Answer = codes "answer"
key_text System = codes "system"
key_text Life = codes "life"
key_text Handlers = codes "handlers"

-- how the tables of a key are written
abbrev pub hint_text : Key → List ℕ
hint_text Class = codes ": a class is written [[class]], not [class]"
hint_text Node = codes ": a node is written [[node]], not [node]"
hint_text Handler = codes ": a handler is written [[handler]], not [handler]"
hint_text Client = codes ": a client is written [[client]], not [client]"
hint_text Operation = codes ": an operation is written [[class.operation]], not [class.operation]"
hint_text Number = []
hint_text Name = []
hint_text Address = []
hint_text Status = []
hint_text Words = []
hint_text Batch = []
hint_text Test = []
hint_text Writes = []
hint_text Answer = []
hint_text System = []
hint_text Life = []
hint_text Handlers = []
