-- The newest blocks that a store was seen with, in the text beside it, and whether the store is older than they are.
use Rattle.std.specs.Prelude.{ℕ, ◌==◌, ◌&&◌, ◌||◌, ◌^◌, not, nat_lt, Bool, false, List, [], ◌∷◌, ◌++◌, codes, drop, length, filter, position, slice_set}
use Rattle.std.specs.Prelude.{Option, Some, None, if◌then◌else◌}
use Rattle.std.specs.List.{list_any, before_first, after_first, position_or_len, starts_with}
use Rattle.std.specs.Fmt.{decimal}
use Rattle.std.specs.Str.Lines.{lines}
use Rattle.scoop_lines.specs.Number.{decimal_below}
use Rattle.scoop_message.specs.declared.name.Block.{Block}
use Rattle.scoop_message.specs.Message.{same_client, same_handler}
use Rattle.scoop_message.specs.Text.{block_text}
use Rattle.scoop_owner.specs.declared.newest.Newest.{Newest}

-- ---- the line of a block: `newest.1.7 = "7.5.2"`, where client 7's newest block at handler 1 is 7.5.2

unfoldable pub newest_line : Newest → List ℕ
newest_line n =
    codes "newest." ++ decimal n.handler.0 ++ codes "." ++ decimal n.block.client.0 ++ codes " = \"" ++ block_text n.block ++ codes "\""

-- ---- the block that a line names

-- the text has this byte
abbrev pub has_byte : ℕ → List ℕ → Bool
has_byte byte text = nat_lt (position_or_len (λ b. b == byte) text) (length text)

abbrev pub and_rest : List ℕ → Option ℕ → Option (ℕ × List ℕ)
and_rest rest None = None
and_rest rest (Some number) = Some (number, rest)

-- the number below 2^32 before the first such byte, and the text after that byte
abbrev pub number_before : ℕ → List ℕ → Option (ℕ × List ℕ)
number_before byte text =
    if has_byte byte text then and_rest (after_first (λ b. b == byte) text) (decimal_below (2 ^ 32) (before_first (λ b. b == byte) text)) else None

abbrev pub ended_block : ℕ → ℕ → Option (ℕ × List ℕ) → Option Block
ended_block client inc None = None
ended_block client inc (Some num) = Some (record { client = record { 0 = client }; inc = inc; num = num.0 })

abbrev pub second_number : ℕ → Option (ℕ × List ℕ) → Option Block
second_number client None = None
second_number client (Some inc) = ended_block client inc.0 (number_before 34 inc.1)

abbrev pub first_number : Option (ℕ × List ℕ) → Option Block
first_number None = None
first_number (Some client) = second_number client.0 (number_before 46 client.1)

-- the block whose name the text begins with, before a quote
abbrev pub quoted_block : List ℕ → Option Block
quoted_block text = first_number (number_before 46 text)

abbrev pub at_handler : ℕ → Option Block → Option Newest
at_handler handler None = None
at_handler handler (Some block) = Some (record { handler = record { 0 = handler }; block = block })

-- a handler's number and the text after it, in which the block stands after the first quote
abbrev pub after_handler : Option (ℕ × List ℕ) → Option Newest
after_handler None = None
after_handler (Some handler) =
    if has_byte 34 handler.1 then at_handler handler.0 (quoted_block (after_first (λ b. b == 34) handler.1)) else None

-- a line says the handler of its key and the block of its value; any other line says nothing
abbrev pub newest_of : List ℕ → Option Newest
newest_of line = if starts_with ◌==◌ line (codes "newest.") then after_handler (number_before 46 (drop 7 line)) else None

-- ---- older stores

-- an older incarnation, or an older block of the same one
abbrev pub is_before : Block → Block → Bool
is_before b x = nat_lt b.inc x.inc || b.inc == x.inc && nat_lt b.num x.num

-- both are of one client at one handler
abbrev pub is_beside : Newest → Newest → Bool
is_beside n m = same_handler n.handler m.handler && same_client n.block.client m.block.client

-- a mark of this client at this handler is no older than this block
abbrev pub reaches : List Newest → Newest → Bool
reaches marks n = list_any (λ m. is_beside m n && not (is_before m.block n.block)) marks

abbrev pub is_unreached : List Newest → Option Newest → Bool
is_unreached marks None = false
is_unreached marks (Some n) = not (reaches marks n)

-- the line names a block that a store with these marks lacks
abbrev pub is_ahead : List Newest → List ℕ → Bool
is_ahead marks line = is_unreached marks (newest_of line)

-- ---- the text, brought up to date

-- a mark of this client at this handler
abbrev pub has_beside : List Newest → Newest → Bool
has_beside marks n = list_any (λ m. is_beside m n) marks

abbrev pub is_replaced : List Newest → Option Newest → Bool
is_replaced marks None = false
is_replaced marks (Some n) = has_beside marks n

-- the line names no block for which one of these marks stands
abbrev pub is_kept : List Newest → List ℕ → Bool
is_kept marks line = not (is_replaced marks (newest_of line))

abbrev pub lines_text : List (List ℕ) → List ℕ
lines_text [] = []
lines_text (l ∷ ls) = l ++ codes "\n" ++ lines_text ls

abbrev pub newest_lines : List Newest → List ℕ
newest_lines [] = []
newest_lines (n ∷ ns) = newest_line n ++ codes "\n" ++ newest_lines ns

-- the lines of the text but for those that these marks replace, and then a line for each mark
abbrev pub updated_text : List ℕ → List Newest → List ℕ
updated_text text marks = lines_text (filter (is_kept marks) (lines text)) ++ newest_lines marks

-- ---- marks that are collected

abbrev pub noted_at : Newest → List Newest → Option ℕ → List Newest
noted_at n marks None = marks ++ (n ∷ [])
noted_at n marks (Some place) = slice_set marks place n

-- the mark in place of the client's at that handler, or after the others
abbrev pub noted : Newest → List Newest → List Newest
noted n marks = noted_at n marks (position (λ m. is_beside m n) marks)
