-- The contents of a keeper in memory after a put.
use Rattle.std.proofs.Common.{◌≡◌, ℕ, List, cond, subst, Some, Result, Ok, Err, IfSome, OnOk, OnErr, sym, ap, arith}
use Rattle.std.specs.Map.{lookup}
use Rattle.std.specs.BTreeMap.{is_at}
use Rattle.std.specs.Ordering.{nat_cmp}
use Rattle.std.proofs.lemmas.Grind.{common_steps}
use Rattle.scoop_message.specs.declared.name.HandlerId.{HandlerId}
use Rattle.scoop_handler.specs.State.{HandlerState}
use Rattle.scoop_keeper.specs.Keeper.{Keeps}
use Rattle.scoop_keeper.specs.Memory.{MemoryRecord, Puts, state_at, Has}

-- the second record has the state for the number, and for others what the first has
abbrev pub Updated : MemoryRecord → MemoryRecord → ℕ → HandlerState → Type 0
Updated old new number s = (q : ℕ) → state_at new q ≡ cond (is_at (nat_cmp number) q) (Some s) (state_at old q)

-- each state stands at its own number
abbrev pub AreOwn : MemoryRecord → Type 0
AreOwn r = (handler : ℕ) → IfSome (state_at r handler) (λ s. s.number.0 ≡ handler)

-- the number that a state was put under is its own
pub own_updated : (old new : MemoryRecord) (number : HandlerId) (kept s : HandlerState) → kept ≡ s → number ≡ s.number → AreOwn old
    → Updated old new number.0 kept → AreOwn new
own_updated old new number kept s copied is own up handler = let e : s.number.0 ≡ number.0 = ap (λ (n : HandlerId). n.0) (sym is) in
    grind (arith, common_steps, copied, e, own handler, up handler)

pub keeps_updated : (old new : MemoryRecord) (number : HandlerId) (kept s : HandlerState) → kept ≡ s → number ≡ s.number → Updated old new number.0 kept
    → Keeps (Has old) (Has new) s
keeps_updated old new number kept s copied is up = let e : s.number.0 ≡ number.0 = ap (λ (n : HandlerId). n.0) (sym is) in record {
  there = grind (arith, common_steps, copied, e, up s.number.0);
  others = λ other apart v. let same : state_at new other ≡ state_at old other = grind (arith, common_steps, e, up other, apart) in
      rw same ((λ h. h), (λ h. h));
}

-- where a put may be refused, which leaves the states
pub own_put : {T E : Type 0} (r : Result T E) {Done : Type 0} (old new : MemoryRecord) (number : HandlerId) (kept s : HandlerState) → kept ≡ s
    → number ≡ s.number → AreOwn old → (Done → Updated old new number.0 kept) → OnOk r Done → OnErr r (new.states ≡ old.states) → AreOwn new
own_put (Ok _) old new number kept s copied is own up done same = own_updated old new number kept s copied is own (up done)
own_put (Err _) old new number kept s copied is own up done same = λ handler. let e : state_at new handler ≡ state_at old handler =
    ap (lookup (is_at (nat_cmp handler))) same in rw e (own handler)

-- a copy of the state was put under its number
pub puts_copy : (old new : List (ℕ × HandlerState)) (number : HandlerId) (kept s : HandlerState) → kept ≡ s → number ≡ s.number
    → ((q : ℕ) → lookup (is_at (nat_cmp q)) new ≡ cond (is_at (nat_cmp number.0) q) (Some kept) (lookup (is_at (nat_cmp q)) old)) → Puts old new s
puts_copy old new number kept s copied is up = λ q.
    subst (λ (x : HandlerState). lookup (is_at (nat_cmp q)) new ≡ cond (is_at (nat_cmp s.number.0) q) (Some x) (lookup (is_at (nat_cmp q)) old)) copied
    (subst (λ (n : HandlerId). lookup (is_at (nat_cmp q)) new ≡ cond (is_at (nat_cmp n.0) q) (Some kept) (lookup (is_at (nat_cmp q)) old)) is (up q))
