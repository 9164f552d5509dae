-- Numbers in decimal digits.
use Rattle.std.specs.Prelude.{ℕ, ◌==◌, ◌&&◌, ◌^◌, nat_lt, nat_le, not, Bool, length, if◌then◌else◌, Option, Some, None}
use Rattle.std.specs.List.{list_all}
use Rattle.std.specs.Str.Parse.{digits_value}
use Rattle.scoop_lines.specs.Words.{Word}

abbrev pub is_digit : ℕ → Bool
is_digit byte = nat_le 48 byte && nat_le byte 57

-- one digit or more, and nothing else
abbrev pub is_decimal : Word → Bool
is_decimal word = not (length word == 0) && list_all is_digit word

-- the number that the digits write, where it is below the limit
abbrev pub decimal_below : ℕ → Word → Option ℕ
decimal_below limit word = if is_decimal word && nat_lt (digits_value 10 word) limit then Some (digits_value 10 word) else None

-- the number below 2^64 that the digits write
abbrev pub decimal_of : Word → Option ℕ
decimal_of = decimal_below (2 ^ 64)
