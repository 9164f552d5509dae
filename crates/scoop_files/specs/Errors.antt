-- The texts of a store in a file that isn't opened or closed: the error, and advice.
use Rattle.std.specs.Prelude.{ℕ, List, [], ◌++◌, codes}
use Rattle.std.specs.Fmt.{decimal}
use Rattle.scoop_keeper.specs.Text.{error_text as keeper_text}
use Rattle.scoop_keeper.specs.declared.keeper.KeeperError.{KeeperError}
use Rattle.scoop_keeper.specs.declared.keeper.KeeperError.TheVariants as keeper
use Rattle.scoop_files.specs.declared.error.FileError.{FileError}
use Rattle.scoop_files.specs.declared.error.FileError.TheVariants.{NoFile, Taken, InUse, Unopened, Foreign, NoStore, NoIncarnation, Unclosed, Lost, Older, OlderClient, Store}

abbrev pub refusal_text : KeeperError → List ℕ
refusal_text keeper.OutOfMemory = codes "out of memory"
refusal_text keeper.Refused = codes "store: " ++ keeper_text keeper.Refused
refusal_text (keeper.BadImage h) = codes "store: " ++ keeper_text (keeper.BadImage h)
refusal_text keeper.IncarnationsSpent = codes "store: " ++ keeper_text keeper.IncarnationsSpent
refusal_text keeper.WrongSchema = codes "store: " ++ keeper_text keeper.WrongSchema

abbrev pub error_text : FileError → List ℕ
error_text NoFile = codes "store: Refused"
error_text Taken = codes "store: Refused"
error_text InUse = codes "store: Refused"
error_text Unopened = codes "store: Refused"
error_text Foreign = codes "store: Refused"
error_text NoStore = codes "store: Refused"
error_text Unclosed = codes "store: Refused"
error_text Lost = codes "store: Refused"
error_text Older = codes "store: Refused"
error_text OlderClient = codes "store: Refused"
error_text (NoIncarnation c) = codes "store: NoIncarnation " ++ decimal c.0
error_text (Store refusal) = refusal_text refusal

abbrev pub advice_text : FileError → List ℕ
advice_text NoFile = codes "there is no such file: name the right one, or make one by --new if this is the first run"
advice_text Taken = codes "the file has content: resume with --store if it is the right store, else name a new file"
advice_text InUse = codes "another program has it open: end that one"
advice_text Unopened = codes "it can't be opened or made: check that its folder exists, and that you may read and write the file and its -wal"
advice_text Foreign = codes "it is not a store: name another file"
advice_text NoStore = codes "it has no tables of a store: first put the -wal file that belongs to it beside it. Use --new only for a file that never had a store"
advice_text (NoIncarnation c) = codes "this client never ran with it: name the client's own store, or make one by --new if the client never ran"
advice_text Unclosed = codes "its -wal could not be copied into it: keep both files, which have all that was answered, and resume with --store"
advice_text Lost = codes "the file or its -wal was moved, replaced, deleted or cut while the store was open. If both were moved, move them back, and resume with --store; else the store is lost"
advice_text Older = codes "first put the -wal file that belongs to it back beside it. An old copy has lost what was answered since it was made. To go on with it nevertheless, delete the newest lines from the .system file beside it: what was lost stays lost"
advice_text OlderClient = codes "first put the -wal file that belongs to it back beside it. An old copy would take incarnations a second time: make a new store by --new and --after N instead, where N is the incarnation in the .system file beside it"
advice_text (Store _) = []
