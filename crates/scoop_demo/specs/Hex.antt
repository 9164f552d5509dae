-- Datagrams from lines of hex digits.
use Rattle.std.specs.Prelude.{◌≡◌, ℕ, ◌==◌, ◌%◌, not, Bool, true, false, List, length, filter, if◌then◌else◌, Option, Some, None, unwrap_or, Ok, IsErr}
use Rattle.std.specs.List.{list_all}
use Rattle.hex.specs.Hex.{decode_of, hex_digit_value, is_hex_digit}
use Rattle.scoop_demo.specs.declared.fault.InputFault.{InputFault}
use Rattle.scoop_demo.specs.declared.fault.InputFault.TheVariants.{NotHex, OddDigits}

-- a line without its spaces
abbrev pub digits_of : List ℕ → List ℕ
digits_of line = filter (λ byte. not (byte == 32)) line

-- why a line stands for no datagram: a byte that is no digit counts before an odd number of digits
abbrev pub hex_fault : List ℕ → Option InputFault
hex_fault line =
    if not (list_all is_hex_digit (digits_of line)) then Some NotHex
    else if length (digits_of line) % 2 == 1 then Some OddDigits
    else None

-- the line's digits, two for each byte, are those of the datagram
abbrev pub StandsFor : List ℕ → List ℕ → Type 0
StandsFor line datagram = decode_of (digits_of line) ≡ Ok datagram

-- the value of a byte as a hex digit, or 255 for another byte
abbrev pub value_of : ℕ → ℕ
value_of byte = unwrap_or (hex_digit_value byte) 255

-- whether bytes are an even number of hex digits with these values
abbrev pub IsDecoded : Bool → List ℕ → List ℕ → Type 0
IsDecoded true digits bytes = decode_of digits ≡ Ok bytes
IsDecoded false digits bytes = IsErr (decode_of digits)

-- `hex_fault` of a line without spaces
abbrev pub fault_among : List ℕ → Option InputFault
fault_among digits =
    if not (list_all is_hex_digit digits) then Some NotHex
    else if length digits % 2 == 1 then Some OddDigits
    else None
