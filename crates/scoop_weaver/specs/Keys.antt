-- Keys by which a message is looked up.
use Rattle.std.specs.Prelude.{ℕ, List, ◌++◌, unwrap_or}
use Rattle.std.specs.Option.{option_map}
use Rattle.std.specs.Hash as fed
use Rattle.scoop_message.specs.declared.message.Message.{Message}
use Rattle.scoop_message.specs.declared.message.Message.TheVariants.{Log, Logged, Answer}
use Rattle.scoop_message.specs.Message.{handler_of, client_of, inc_of, named_block}

-- the number of the block that the message names, 0 where it names none
abbrev pub block_number : Message → ℕ
block_number m = unwrap_or (option_map (λ b. b.num) (named_block m)) 0

-- the number of the entry that it names, 0 where it names none
abbrev pub entry_number : Message → ℕ
entry_number (Log h b n es) = n
entry_number (Logged h b n) = n
entry_number (Answer h b n a) = n
entry_number m = 0

-- the bytes that are hashed
abbrev pub key_bytes : Message → List (List ℕ)
key_bytes m =
    fed.u32 (handler_of m).0 ++ fed.u32 (client_of m).0 ++ fed.u32 (inc_of m) ++ fed.u32 (block_number m) ++ fed.u32 (entry_number m)
