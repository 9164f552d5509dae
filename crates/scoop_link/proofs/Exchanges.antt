-- The composition of exchanges on links.
use Rattle.std.proofs.Common.{◌≡◌, ℕ, List, [], ◌++◌, Option, Some, None, refl, ap, sym, ◌∙◌, append_assoc}
use Rattle.std.proofs.lemmas.List.{append-nil}
use Rattle.scoop_link.specs.Link.{Datagrams, Told, Exchanges}

-- an unchanged link exchanges nothing
pub exchanges_nothing : (a : Option Told) → Exchanges a a [] []
exchanges_nothing a = record { telling = λ now is. (now, is, record { to_come = refl; sent = sym (append-nil now.sent) }) }

-- a link that records and exchanges nothing is unchanged
pub exchanges_nothing-same : (a : Option Told) (now : Told) → Exchanges a (Some now) [] [] → a ≡ Some now
exchanges_nothing-same a now e =
    let was = e.telling now refl in
    let make : List (List ℕ) → Datagrams → Told = λ xs ys. record { to_come = xs; sent = ys } in
    was.1 ∙ ap Some (ap (λ xs. make xs was.0.sent) was.2.to_come ∙ ap (make now.to_come) (sym (was.2.sent ∙ append-nil was.0.sent)))

-- one exchange, then another
pub exchanges-append : (a b c : Option Told) (taken more : List (List ℕ)) (gone others : Datagrams)
    → Exchanges a b taken gone → Exchanges b c more others → Exchanges a c (taken ++ more) (gone ++ others)
exchanges-append a b c taken more gone others first second = record {
  telling = λ now is.
      let late = second.telling now is in
      let early = first.telling late.0 late.1 in (
        early.0,
        early.1,
        record {
          to_come = early.2.to_come ∙ (ap (λ xs. taken ++ xs) late.2.to_come ∙ sym (append_assoc taken more now.to_come));
          sent = late.2.sent ∙ (ap (λ xs. xs ++ others) early.2.sent ∙ append_assoc early.0.sent gone others);
        },
      );
}

-- a link that doesn't record claims nothing
pub exchanges-untold : (a : Option Told) (taken : List (List ℕ)) (gone : Datagrams) → Exchanges a None taken gone
exchanges-untold a taken gone = record { telling = λ now is. cc }
