-- The keys of a store, under its name.
use Rattle.std.specs.Prelude.{ℕ, ◌==◌, ◌&&◌, ◌||◌, nat_le, Bool, ◌++◌, length, codes}
use Rattle.std.specs.List.{list_all}
use Rattle.std.specs.Fmt.{decimal}
use Rattle.scoop_lines.specs.Number.{is_digit}
use Rattle.scoop_etcd.specs.Etcd.{Bytes}
use Rattle.scoop_etcd.specs.declared.keys.Owner.{Owner}
use Rattle.scoop_etcd.specs.declared.keys.Owner.TheVariants.{Node, Client}

-- an ASCII letter or digit, `-`, `_` or `.`
abbrev pub is_name_byte : ℕ → Bool
is_name_byte byte =
    (nat_le 65 byte && nat_le byte 90) || ((nat_le 97 byte && nat_le byte 122) || (is_digit byte || (byte == 45 || (byte == 95 || byte == 46))))

-- 1 to 64 of these
abbrev pub is_name : Bytes → Bool
is_name text = nat_le 1 (length text) && (nat_le (length text) 64 && list_all is_name_byte text)

-- the name, a text and a number
abbrev pub numbered : Bytes → Bytes → ℕ → Bytes
numbered name between number = name ++ (between ++ decimal number)

abbrev pub handler_key : Bytes → ℕ → Bytes
handler_key name handler = numbered name (codes "/handlers/") handler

abbrev pub client_key : Bytes → ℕ → Bytes
client_key name client = numbered name (codes "/clients/") client

abbrev pub owner_key : Bytes → Owner → Bytes
owner_key name (Node number) = numbered name (codes "/owner/node/") number
owner_key name (Client client) = numbered name (codes "/owner/client/") client.0
