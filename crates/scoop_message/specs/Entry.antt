-- The kinds of entries.
use Rattle.std.specs.Prelude.{Bool, true, false}
use Rattle.scoop_message.specs.declared.request.Entry.{Entry}
use Rattle.scoop_message.specs.declared.request.Entry.TheVariants.{Call, Query, End}

abbrev pub is_end : Entry → Bool
is_end (Call r) = false
is_end (Query r) = false
is_end End = true

abbrev pub is_query : Entry → Bool
is_query (Call r) = false
is_query (Query r) = true
is_query End = false
