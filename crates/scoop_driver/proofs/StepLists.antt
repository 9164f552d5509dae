-- Lists of steps, one after another.
use Rattle.std.proofs.Common.{◌≡◌, ℕ, ◌+◌, List, [], ◌∷◌, ◌++◌, Option, Some, None, Ok, Err, refl, ap, sym, ◌∙◌, append_assoc, add_assoc, add-zero, zero-add}
use Rattle.std.proofs.lemmas.List.{append-nil}
use Rattle.scoop_link.specs.Link.{Told, Exchanges}
use Rattle.scoop_link.proofs.Exchanges.{exchanges_nothing, exchanges-append}
use Rattle.scoop_client.specs.State.{ClientState}
use Rattle.scoop_client.specs.Commands as client
use Rattle.scoop_client.specs.declared.command.Command.{Command}
use Rattle.scoop_driver.specs.declared.step.Step.{Step}
use Rattle.scoop_driver.specs.declared.step.Step.TheVariants.{Gave}
use Rattle.scoop_driver.specs.Steps.{AllCan, walk, after, after_command, sent_at, sent_by, taken_at, taken_by, faults_at, faults_in, turns_at, turns_in}
use Rattle.scoop_driver.specs.Steps.{command_at, commands_by, note_at, notes_by, noted}
use Rattle.scoop_driver.specs.State.{Seen, Goes}

pub walk-append : (xs ys : List Step) (c : ClientState) → walk c (xs ++ ys) ≡ walk (walk c xs) ys
walk-append [] ys c = refl
walk-append (x ∷ xs) ys c = walk-append xs ys (after c x)

pub can_append : (xs ys : List Step) (c : ClientState) → AllCan c xs → AllCan (walk c xs) ys → AllCan c (xs ++ ys)
can_append [] ys c first second = second
can_append (x ∷ xs) ys c first second = (first.0, can_append xs ys (after c x) first.1 second)

pub sent_by-append : (xs ys : List Step) (c : ClientState) → sent_by c (xs ++ ys) ≡ sent_by c xs ++ sent_by (walk c xs) ys
sent_by-append [] ys c = refl
sent_by-append (x ∷ xs) ys c =
    ap (λ ds. sent_at c x ++ ds) (sent_by-append xs ys (after c x))
    ∙ sym (append_assoc (sent_at c x) (sent_by (after c x) xs) (sent_by (walk (after c x) xs) ys))

pub taken_by-append : (xs ys : List Step) → taken_by (xs ++ ys) ≡ taken_by xs ++ taken_by ys
taken_by-append [] ys = refl
taken_by-append (x ∷ xs) ys = ap (λ ds. taken_at x ++ ds) (taken_by-append xs ys) ∙ sym (append_assoc (taken_at x) (taken_by xs) (taken_by ys))

pub commands_by-append : (xs ys : List Step) → commands_by (xs ++ ys) ≡ commands_by xs ++ commands_by ys
commands_by-append [] ys = refl
commands_by-append (x ∷ xs) ys =
    ap (λ zs. command_at x ++ zs) (commands_by-append xs ys) ∙ sym (append_assoc (command_at x) (commands_by xs) (commands_by ys))

pub notes_by-append : (xs ys : List Step) (c : ClientState) → notes_by c (xs ++ ys) ≡ notes_by c xs ++ notes_by (walk c xs) ys
notes_by-append [] ys c = refl
notes_by-append (x ∷ xs) ys c =
    ap (λ zs. note_at c x ++ zs) (notes_by-append xs ys (after c x))
    ∙ sym (append_assoc (note_at c x) (notes_by (after c x) xs) (notes_by (walk (after c x) xs) ys))

pub faults_in-append : (xs ys : List Step) → faults_in (xs ++ ys) ≡ faults_in xs + faults_in ys
faults_in-append [] ys = sym (zero-add (faults_in ys))
faults_in-append (x ∷ xs) ys = ap (λ n. faults_at x + n) (faults_in-append xs ys) ∙ sym (add_assoc (faults_at x) (faults_in xs) (faults_in ys))

pub turns_in-append : (xs ys : List Step) → turns_in (xs ++ ys) ≡ turns_in xs + turns_in ys
turns_in-append [] ys = sym (zero-add (turns_in ys))
turns_in-append (x ∷ xs) ys = ap (λ n. turns_at x + n) (turns_in-append xs ys) ∙ sym (add_assoc (turns_at x) (turns_in xs) (turns_in ys))

pub noted-nil : (o : Option (List Step)) → noted o [] ≡ o
noted-nil None = refl
noted-nil (Some steps) = ap Some (append-nil steps)

pub noted-append : (o : Option (List Step)) (xs ys : List Step) → noted (noted o xs) ys ≡ noted o (xs ++ ys)
noted-append None xs ys = refl
noted-append (Some steps) xs ys = ap Some (append_assoc steps xs ys)

-- ---- steps that lead from one state to another

pub goes_nothing : (s : Seen) → Goes [] s s
goes_nothing s = record {
  client = refl;
  can = tt {0};
  link = exchanges_nothing s.told;
  faults = sym (add-zero _);
  diary = sym (noted-nil s.diary);
}

pub goes_on : (xs ys : List Step) (s t u : Seen) → Goes xs s t → Goes ys t u → Goes (xs ++ ys) s u
goes_on xs ys s t u first second =
    let from : (P : ClientState → Type 0) → P t.client → P (walk s.client xs) = λ P h. rw (← first.client) h in
    record {
      client = second.client ∙ (ap (λ c. walk c ys) first.client ∙ sym (walk-append xs ys s.client));
      can = can_append xs ys s.client first.can (from (λ c. AllCan c ys) second.can);
      link =
          rw (taken_by-append xs ys, sent_by-append xs ys s.client)
          (exchanges-append s.told t.told u.told _ _ _ _ first.link (from (λ c. Exchanges t.told u.told (taken_by ys) (sent_by c ys)) second.link));
      faults = second.faults ∙ (ap (λ n. n + faults_in ys) first.faults
          ∙ (add_assoc s.faults (faults_in xs) (faults_in ys) ∙ ap (λ n. s.faults + n) (sym (faults_in-append xs ys))));
      diary = second.diary ∙ (ap (λ o. noted o ys) first.diary ∙ noted-append s.diary xs ys);
    }

accepted : (c d : ClientState) (o : client.Outcome) → o ≡ Ok d → d ≡ after_command c o
accepted c d (Ok x) is = cc
accepted c d (Err e) is = cc

pub goes_command : (x : Command) (c d : ClientState) (told : Option Told) (faults : ℕ) (old new : Option (List Step))
    → client.command c x ≡ Ok d → new ≡ noted old (Gave x ∷ [])
    → Goes (Gave x ∷ []) (record { client = c; told = told; faults = faults; diary = old }) (record { client = d; told = told; faults = faults; diary = new })
goes_command x c d told faults old new is kept = record {
  client = accepted c d (client.command c x) is;
  can = ((d, is), tt {0});
  link = exchanges_nothing told;
  faults = sym (add-zero _);
  diary = kept;
}
