-- Texts that name stores in an etcd, as `etcd://HOST:PORT,HOST:PORT/NAME`.
use Rattle.std.specs.Prelude.{ℕ, zero, suc, ◌^◌, nat_lt, Bool, false, ◌==◌, ◌&&◌, not, if◌then◌else◌, List, drop, length, codes, Option, Some, None, Result, Ok, Err}
use Rattle.std.specs.Option.{option_map_or}
use Rattle.std.specs.List.{before_first, after_first, position_or_len, starts_with}
use Rattle.scoop_lines.specs.Number.{decimal_below}
use Rattle.scoop_etcd.specs.Keys.{is_name}
use Rattle.scoop_etcd_place.specs.declared.place.PlaceFault.{PlaceFault}
use Rattle.scoop_etcd_place.specs.declared.place.PlaceFault.TheVariants.{NotEtcd, NoMember, TooManyMembers, BadMember, NoName, BadName}

abbrev pub has_byte : ℕ → List ℕ → Bool
has_byte byte text = nat_lt (position_or_len (λ b. b == byte) text) (length text)

-- the parts before and after the first such byte
abbrev pub before : ℕ → List ℕ → List ℕ
before byte text = before_first (λ b. b == byte) text

abbrev pub after : ℕ → List ℕ → List ℕ
after byte text = after_first (λ b. b == byte) text

-- decimal digits of a number from 1 to 65535
abbrev pub is_port : List ℕ → Bool
is_port text = option_map_or (λ port. nat_lt 0 port) (decimal_below (2 ^ 16) text) false

-- a colon and a port
abbrev pub is_end : List ℕ → Bool
is_end text = starts_with ◌==◌ text (codes ":") && is_port (drop 1 text)

-- a host that isn't empty, a colon and a port
abbrev pub is_plain : List ℕ → Bool
is_plain text = has_byte 58 text && (not (length (before 58 text) == 0) && is_port (after 58 text))

-- the rest of an address in brackets, a colon and a port
abbrev pub is_bracketed : List ℕ → Bool
is_bracketed rest = has_byte 93 rest && is_end (after 93 rest)

unfoldable pub is_member : List ℕ → Bool
is_member text = if starts_with ◌==◌ text (codes "[") then is_bracketed (drop 1 text) else is_plain text

abbrev pub or_fault : Bool → PlaceFault → Option PlaceFault
or_fault holds fault = if holds then None else Some fault

-- the first fault of members, with commas between them, if there may be so many
unfoldable pub members_fault : ℕ → List ℕ → Option PlaceFault
members_fault zero text = Some TooManyMembers
members_fault (suc most) text =
    if has_byte 44 text then (if is_member (before 44 text) then members_fault most (after 44 text) else Some BadMember) else or_fault (is_member text) BadMember

unfoldable pub name_fault : List ℕ → Option PlaceFault
name_fault name = if length name == 0 then Some NoName else or_fault (is_name name) BadName

abbrev pub first_fault : Option PlaceFault → Option PlaceFault → Option PlaceFault
first_fault None second = second
first_fault (Some fault) second = Some fault

unfoldable pub parts_fault : List ℕ → List ℕ → Option PlaceFault
parts_fault members name = first_fault (if length members == 0 then Some NoMember else members_fault 8 members) (name_fault name)

-- members and a name, unless they have a fault
abbrev pub parts_or : Option PlaceFault → List ℕ → List ℕ → Result (List ℕ × List ℕ) PlaceFault
parts_or None members name = Ok (members, name)
parts_or (Some fault) members name = Err fault

unfoldable pub parts_of : List ℕ → Result (List ℕ × List ℕ) PlaceFault
parts_of rest = if has_byte 47 rest then parts_or (parts_fault (before 47 rest) (after 47 rest)) (before 47 rest) (after 47 rest) else Err NoName

-- the members and the name that a text says, or its first fault
abbrev pub place_of : List ℕ → Result (List ℕ × List ℕ) PlaceFault
place_of text = if starts_with ◌==◌ text (codes "etcd://") then parts_of (drop 7 text) else Err NotEtcd
