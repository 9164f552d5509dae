-- The sends of a sealed link.
use Rattle.std.proofs.Common.{◌≡◌, ℕ, ◌≤◌, List, [], ◌∷◌, length, Option, Result, Ok, Err, ap, sym, subst, ◌∙◌, arith}
use Rattle.std.proofs.lemmas.Bool.{eq-eqb, ne_eqb}
use Rattle.scoop_message.specs.declared.limits.TheConstants.{BUFFER_LEN}
use Rattle.scoop_link.specs.declared.party.Party.{Party}
use Rattle.scoop_link.specs.declared.link.LinkFault.{LinkFault}
use Rattle.scoop_link.specs.Datagram.{kept}
use Rattle.scoop_link.specs.Link.{Told, CountsFault, Exchanges, sent_by}
use Rattle.scoop_link.proofs.Kept.{kept-short}
use Rattle.scoop_seal.specs.Sealed.{gone}

-- the inner link sent the bytes that it got, if it counted no fault
pub gone_by : (r : Result (Unit {0}) LinkFault) (before after : Option Told) (faults now : ℕ) (to : Party) (given datagram : List ℕ) → given ≡ datagram
    → length datagram ≤ BUFFER_LEN → CountsFault r faults now → Exchanges before after [] (sent_by r to given)
    → Exchanges before after [] (gone faults now to datagram)
gone_by (Ok done) before after faults now to given datagram same fits counts went =
    let P : List ℕ → Type 0 = λ d. Exchanges before after [] ((to, d) ∷ []) in
    rw (eq-eqb faults now (sym counts)) (subst P (ap kept same ∙ kept-short datagram fits) went)
gone_by (Err fault) before after faults now to given datagram same fits counts went =
    rw (ne_eqb faults now (λ e. omega (arith, e, counts))) went
