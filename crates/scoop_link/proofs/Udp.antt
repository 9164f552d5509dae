-- The addresses of parties.
use Rattle.std.proofs.Common.{◌≡◌, List, [], ◌∷◌, map, Option, Some, refl, ap, sym, subst, ◌∙◌, inl, inr}
use Rattle.std.specs.Prelude.{IfNone}
use Rattle.std.specs.Option.{option_map}
use Rattle.std.specs.declared.net.socket_addr.SocketAddr.{SocketAddr}
use Rattle.std.proofs.lemmas.Bool.{cases_Bool}
use Rattle.scoop_link.specs.declared.party.Party.{Party}
use Rattle.scoop_link.specs.Party.{same_party}
use Rattle.scoop_link.specs.Udp.{Address, address_of, moved, moved_all, reached_at, socket_addr_to, address_to}

-- a party's address is that of its socket address
address_to-reached : (addresses : List (Party × SocketAddr)) (to : Party)
    → address_to (map reached_at addresses) to ≡ option_map address_of (socket_addr_to addresses to)
address_to-reached [] to = refl
address_to-reached (p ∷ ps) to =
    elim (cases_Bool (same_party p.0 to)) [
      | inl here ↦ rw here refl
      | inr other ↦ rw other (address_to-reached ps to)
    ]

-- a party with a socket address has an address
pub listed : (addresses : List (Party × SocketAddr)) (to : Party) (a : SocketAddr) (P : Type 0) → Some a ≡ socket_addr_to addresses to
    → IfNone (address_to (map reached_at addresses) to) P
listed addresses to a P is =
    let Q : Option Address → Type 0 = λ o. IfNone o P in
    subst Q (sym (address_to-reached addresses to ∙ ap (option_map address_of) (sym is))) tt

-- a party that has moved is reached at its new address
pub moved_reached : (party : Party) (to : SocketAddr) (addresses : List (Party × SocketAddr))
    → map reached_at (map (moved party to) addresses) ≡ moved_all party (address_of to) (map reached_at addresses)
moved_reached party to [] = refl
moved_reached party to (p ∷ ps) =
    elim (cases_Bool (same_party p.0 party)) [
      | inl here ↦ rw (here, moved_reached party to ps) refl
      | inr other ↦ rw (other, moved_reached party to ps) refl
    ]
