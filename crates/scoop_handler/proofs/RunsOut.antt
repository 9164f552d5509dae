-- A handler that runs until nothing can run. It comes to one end, since the pending entries get fewer.
use Rattle.std.proofs.Common.{◌≡◌, ◌<◌, ◌+◌, append_assoc, is_some, if◌then◌else◌, ℕ, Bool, true, false, List, [], ◌∷◌, ◌++◌, length, Option, Some, None}
use Rattle.std.proofs.Common.{IsTrue, IsFalse, refl, sym, subst, arith}
use Rattle.std.specs.Option.{option_map, option_map_or}
use Rattle.scoop_message.specs.declared.name.Block.{Block}
use Rattle.scoop_message.specs.declared.request.Entry.{Entry}
use Rattle.scoop_queue.specs.Queue.{PrivateQueue, front, first_of, advance, left_by_first, goes_with}
use Rattle.scoop_handler.specs.declared.ran.Ran.{Ran}
use Rattle.scoop_handler.specs.Core.{Core}
use Rattle.scoop_handler.specs.Running.{Task, RunsOut, ready, ran_of, finished, run, first_task, task_of}
use Rattle.scoop_handler.specs.Running.RunsOut.{idle, then_more}

-- ---- there is one end

-- two runs to the end come to one core
pub runs_out_same : (c d e : Core) (rs ss : List Ran) → RunsOut c rs d → RunsOut c ss e → e ≡ d
runs_out_same c d e rs ss (idle x none) (idle y again) = refl
runs_out_same c d e rs ss (idle x none) (then_more y f t us some more) = cc
runs_out_same c d e rs ss (then_more x f t us some more) (idle y none) = cc
runs_out_same c d e rs ss (then_more x f t us some more) (then_more y g u vs again other) =
    let first : u ≡ t = cc in
    let P : Task → Type 0 = λ z. RunsOut (finished z x) vs e in
    runs_out_same (finished t x) d e us vs more (subst P first other)

-- ---- one entry after another

-- the entries that have run so far
pub record RunsSoFar (first now : Core) : Type 0 where
  pub ran : List Ran
  pub goes_on : (rs : List Ran) (last : Core) → RunsOut now rs last → RunsOut first (ran ++ rs) last

pub none_so_far : (c : Core) → RunsSoFar c c
none_so_far c = record { ran = []; goes_on = λ rs last r. r }

ran_more : (first now : Core) (x : Option Task) → ready now ≡ x → IsTrue (is_some (option_map ran_of x)) → RunsSoFar first now
    → RunsSoFar first (option_map_or (λ t. finished t now) x now)
ran_more first now None is some r = cc
ran_more first now (Some t) is some r = record {
  ran = r.ran ++ ran_of t ∷ [];
  goes_on = λ rs last more.
      let all : RunsOut first (r.ran ++ (ran_of t ∷ rs)) last = r.goes_on (ran_of t ∷ rs) last (then_more now last t rs is more) in
      let P : List Ran → Type 0 = λ v. RunsOut first v last in
      subst P (sym (append_assoc r.ran (ran_of t ∷ []) rs)) all;
}

pub more_so_far : (first now : Core) → IsTrue (is_some (option_map ran_of (ready now))) → RunsSoFar first now → RunsSoFar first (run now)
more_so_far first now some r = ran_more first now (ready now) refl some r

ran_all : (first now : Core) (x : Option Task) → ready now ≡ x → IsFalse (is_some (option_map ran_of x)) → RunsSoFar first now
    → (rs : List Ran) × RunsOut first rs (option_map_or (λ t. finished t now) x now)
ran_all first now None is none r = (r.ran ++ [], r.goes_on [] now (idle now is))
ran_all first now (Some t) is none r = cc

pub all_so_far : (first now : Core) → IsFalse (is_some (option_map ran_of (ready now))) → RunsSoFar first now → (rs : List Ran) × RunsOut first rs (run now)
all_so_far first now none r = ran_all first now (ready now) refl none r

-- ---- the pending entries get fewer

abbrev pub all_pending : List PrivateQueue → ℕ
all_pending [] = 0
all_pending (q ∷ qs) = length q.entries + all_pending qs

left_fewer : (b : Bool) (q : PrivateQueue) (n : ℕ) (e : Entry) (es : List Entry) (qs : List PrivateQueue)
    → all_pending ((if b then [] else record { block = q.block; first = n; entries = es; state = q.state } ∷ []) ++ qs) < length (e ∷ es) + all_pending qs
left_fewer true q n e es qs = omega arith
left_fewer false q n e es qs =
    let rest : PrivateQueue = record { block = q.block; first = n; entries = es; state = q.state } in
    let is : all_pending ((if false then [] else rest ∷ []) ++ qs) ≡ length es + all_pending qs = refl in
    omega (arith, is)

first_fewer : (q : PrivateQueue) (es : List Entry) (qs : List PrivateQueue) (f : Block × ℕ × Entry) → first_of q es ≡ Some f
    → all_pending (left_by_first q es ++ qs) < length es + all_pending qs
first_fewer q [] qs f is = cc
first_fewer q (e ∷ es) qs f is = left_fewer (goes_with q.state e es) q (q.first + 1) e es qs

advance_fewer : (qs : List PrivateQueue) (f : Block × ℕ × Entry) → front qs ≡ Some f → all_pending (advance qs) < all_pending qs
advance_fewer [] f is = cc
advance_fewer (q ∷ qs) f is = first_fewer q q.entries qs f is

front_fewer : (c : Core) (x : Option (Block × ℕ × Entry)) → front c.state.queues ≡ x → IsTrue (is_some (option_map ran_of (option_map (task_of c) x)))
    → all_pending (advance c.state.queues) < all_pending c.state.queues
front_fewer c None is some = cc
front_fewer c (Some f) is some = advance_fewer c.state.queues f is

ready_front : (c : Core) (b : Bool) → IsTrue (is_some (option_map ran_of (if b then None else first_task c)))
    → IsTrue (is_some (option_map ran_of (first_task c)))
ready_front c true some = cc
ready_front c false some = some

ran_fewer : (c : Core) (x : Option Task) → IsTrue (is_some (option_map ran_of x)) → all_pending (advance c.state.queues) < all_pending c.state.queues
    → all_pending (option_map_or (λ t. finished t c) x c).state.queues < all_pending c.state.queues
ran_fewer c None some less = cc
ran_fewer c (Some t) some less = less

pub fewer_pending : (c : Core) → IsTrue (is_some (option_map ran_of (ready c))) → all_pending (run c).state.queues < all_pending c.state.queues
fewer_pending c some = ran_fewer c (ready c) some (front_fewer c (front c.state.queues) refl (ready_front c c.out some))
