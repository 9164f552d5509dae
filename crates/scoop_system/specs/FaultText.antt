-- Texts of faults.
use Rattle.std.specs.Prelude.{ℕ, List, [], ◌++◌, codes, Option, Some, None}
use Rattle.std.specs.Fmt.{decimal}
use Rattle.std.specs.Net.Text.{socket_text}
use Rattle.scoop_message.specs.declared.limits.TheConstants.{MAX_HANDLERS, MAX_WORDS}
use Rattle.scoop_system.specs.declared.node_addresses.TheConstants.{MAX_ADDRESSES}
use Rattle.scoop_system.specs.declared.error.Place.{Place}
use Rattle.scoop_system.specs.declared.error.Place.TheVariants as place
use Rattle.scoop_system.specs.declared.error.Wrong.{Wrong}
use Rattle.scoop_system.specs.declared.error.Wrong.TheVariants as wrong
use Rattle.scoop_system.specs.declared.error.Fault.{Fault as TheFault}
use Rattle.scoop_system.specs.declared.error.SystemError.{SystemError}
use Rattle.scoop_system.specs.declared.error.SystemError.TheVariants.{Toml, Fault, OutOfMemory}
use Rattle.scoop_system.specs.KeyText.{key_text, hint_text}

abbrev pub quoted : List ℕ → List ℕ
quoted name = codes "\"" ++ name ++ codes "\""

abbrev pub place_text : Place → List ℕ
place_text place.File = codes "file"
place_text place.System = codes "system"
place_text (place.Numbered kind number) = key_text kind ++ codes " " ++ decimal number
place_text (place.Nameless kind count) = codes "[[" ++ key_text kind ++ codes "]] " ++ decimal count
place_text (place.Class name) = codes "class " ++ quoted name
place_text (place.Operation number class) = codes "operation " ++ decimal number ++ codes " of class " ++ quoted class
place_text (place.NamelessOperation count class) = codes "[[class.operation]] " ++ decimal count ++ codes " of class " ++ quoted class

-- the text of a fault that names nothing; empty for the others
abbrev pub plain_text : Wrong → List ℕ
plain_text wrong.OtherFamily = codes "address must have the same family, IPv4 or IPv6, as the first one"
plain_text wrong.NotAddresses = codes "address must be one address or a list of 1 to " ++ decimal MAX_ADDRESSES
plain_text wrong.NoTable = codes "not a table"
plain_text wrong.Twice = codes "defined twice"
plain_text wrong.KnownClass = codes "every system already has a class of this name"
plain_text wrong.NotWords = codes "words must be a list of 1 to " ++ (decimal MAX_WORDS ++ codes " whole numbers below 2^64")
plain_text wrong.NotAText = codes "a term must be text: write it in quotes"
plain_text wrong.NotATest = codes "test must be a formula or a list of two terms"
plain_text wrong.NotAWrite = codes "a write must be a formula or a list of a word and three terms"
plain_text wrong.NotHandlers = codes "handlers must be a list of 1 to " ++ (decimal MAX_HANDLERS ++ codes " numbers or names of handlers")
plain_text other = []

abbrev pub wrong_text : Wrong → List ℕ
wrong_text (wrong.UnknownKey key) = codes "unknown key " ++ quoted key
wrong_text (wrong.Missing key) = codes "no " ++ key_text key
wrong_text (wrong.NotANumber key low high) = key_text key ++ codes " must be a whole number from " ++ decimal low ++ codes " to " ++ decimal high
wrong_text (wrong.NotAName key) = key_text key ++ codes " must be 1 to 32 letters, digits, _ or -, beginning with a letter"
wrong_text (wrong.NotAnAddress key) = key_text key ++ codes " must be an IP address with a port from 1 to 65535"
wrong_text (wrong.AddressTwice address) = codes "address " ++ socket_text address ++ codes " stands twice"
wrong_text (wrong.AddressOf kind number) = codes "address is already used by " ++ key_text kind ++ codes " " ++ decimal number
wrong_text (wrong.StatusOf number) = codes "status is already used by node " ++ decimal number
wrong_text (wrong.NotAList key) = key_text key ++ codes " must be a list" ++ hint_text key
wrong_text (wrong.TooMany key limit) = key_text key ++ codes ": more than " ++ decimal limit
wrong_text (wrong.NameTwice name) = codes "name " ++ quoted name ++ codes " is used twice"
wrong_text (wrong.LineWord name) = codes "name " ++ quoted name ++ codes " is a word of client lines"
wrong_text (wrong.NoSuchNode number) = codes "no such node " ++ decimal number
wrong_text (wrong.NoSuchClass name) = codes "no such class " ++ quoted name
wrong_text (wrong.WordCount given wanted) = decimal given ++ codes " words instead of " ++ decimal wanted
wrong_text (wrong.NotATerm text) = quoted text ++ codes " is not a term"
wrong_text (wrong.NotATestFormula text) = quoted text ++ codes " is not a test: write two terms, as a0 <= w0"
wrong_text (wrong.NotAWriteFormula text) = quoted text ++ codes " is not a write: write a word and terms, as w0 = w0 + a0 - a1"
wrong_text (wrong.NoSuchWord term) = term ++ codes " is not a word"
wrong_text (wrong.NoSuchArgument term) = term ++ codes " is not an argument"
wrong_text (wrong.WrittenTwice word) = codes "w" ++ decimal word ++ codes " is written twice"
wrong_text (wrong.NoSuchHandler number) = codes "no such handler " ++ decimal number
wrong_text (wrong.NoHandlerNamed name) = codes "no such handler " ++ quoted name
wrong_text (wrong.HandlerTwice number) = codes "handler " ++ decimal number ++ codes " stands twice"
wrong_text plain = plain_text plain

abbrev pub placed : Place → List ℕ → List ℕ
placed place.File text = text
placed place.System text = place_text place.System ++ codes ": " ++ text
placed (place.Numbered kind number) text = place_text (place.Numbered kind number) ++ codes ": " ++ text
placed (place.Nameless kind count) text = place_text (place.Nameless kind count) ++ codes ": " ++ text
placed (place.Class name) text = place_text (place.Class name) ++ codes ": " ++ text
placed (place.Operation number class) text = place_text (place.Operation number class) ++ codes ": " ++ text
placed (place.NamelessOperation count class) text = place_text (place.NamelessOperation count class) ++ codes ": " ++ text

-- the place and its fault; the whole file is no place to print
abbrev pub fault_text : TheFault → List ℕ
fault_text f = placed f.place (wrong_text f.wrong)

-- the text of an error; TOML's own faults are left open
abbrev pub system_error_text : SystemError → Option (List ℕ)
system_error_text (Toml fault) = None
system_error_text (Fault fault) = Some (fault_text fault)
system_error_text OutOfMemory = Some (codes "out of memory")
