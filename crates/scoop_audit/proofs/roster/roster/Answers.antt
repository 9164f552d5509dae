use Rattle.std.proofs.Common.{[], List, ℕ, sym, ◌∙◌, subst, arith, map}
use Rattle.std.specs.List.{AllByRecursion}
use Rattle.scoop_audit.specs.declared.auditing.Journal.{Journal}
use Rattle.scoop_audit.specs.declared.roster.Member.{Member}
use Rattle.scoop_audit.specs.Members.{HasItsOwn, places_of}
use Rattle.scoop_audit.specs.Run.{AreOwned}
use Rattle.scoop_audit.proofs.Owned.{lent_back, members_own, members_owned}
use Rattle.scoop_audit.proofs.roster.roster.Goals as goal

pub returns-in-Ok-clause-own : goal.returns-in-Ok-clause-own
returns-in-Ok-clause-own c =
    let js : List (List ℕ) = map (λ (j : Journal). j.bytes.now) c.args.journals.now in
    let items = c.in_ok-members.members.items in
    let new = c.give_all.new.members in
    let whole = lent_back c.in_ok-members.members.len new items (omega arith) (omega arith) in
    let first = sym (c.deref_mut.ensures.value ∙ c.in_ok-members.ensures) in
    let none = subst (λ (ms : List Member). AllByRecursion (HasItsOwn js) ms) first (members_own js c.args.system.now) in
    subst (λ (ms : List Member). AllByRecursion (HasItsOwn js) ms) (sym whole) (c.in-Ok.ensures.own none)

pub returns-in-Ok-clause-owned : goal.returns-in-Ok-clause-owned
returns-in-Ok-clause-owned c =
    let js : List (List ℕ) = map (λ (j : Journal). j.bytes.now) c.args.journals.now in
    let items = c.in_ok-members.members.items in
    let new = c.give_all.new.members in
    let whole = lent_back c.in_ok-members.members.len new items (omega arith) (omega arith) in
    let first = sym (c.deref_mut.ensures.value ∙ c.in_ok-members.ensures) in
    let none = subst (λ (ms : List Member). AreOwned [] (places_of ms)) first (members_owned c.args.system.now) in
    subst (λ (ms : List Member). AreOwned js (places_of ms)) (sym whole) (c.in-Ok.ensures.owned none)
