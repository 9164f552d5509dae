-- One turn, composed of its sends and its receive.
use Rattle.std.proofs.Common.{◌≡◌, ℕ, ◌+◌, List, [], ◌∷◌, ◌++◌, Option, Some, None, Result, Ok, Err, refl, ap, sym, ◌∙◌, subst, take, add-zero}
use Rattle.std.proofs.lemmas.List.{append-nil}
use Rattle.scoop_message.specs.declared.message.Message.{Message}
use Rattle.scoop_link.specs.Link.{Told, Exchanges}
use Rattle.scoop_link.proofs.Exchanges.{exchanges-append}
use Rattle.scoop_client.specs.declared.phase.ClientNote.{ClientNote}
use Rattle.scoop_client.specs.declared.error.ClientError.TheVariants.{OutOfMemory}
use Rattle.scoop_client.specs.State.{ClientState}
use Rattle.scoop_client.specs.Hearing.{Notice, heard}
use Rattle.scoop_driver.specs.declared.error.DriverError.{DriverError}
use Rattle.scoop_driver.specs.declared.error.DriverError.TheVariants.{Client, LinkFault}
use Rattle.scoop_driver.specs.declared.step.Received.{Received}
use Rattle.scoop_driver.specs.declared.step.Received.TheVariants.{Nothing, Frame, NoFrame, Fault}
use Rattle.scoop_driver.specs.declared.step.Step.{Step}
use Rattle.scoop_driver.specs.declared.step.Step.TheVariants.{Turned, Broke}
use Rattle.scoop_driver.specs.Steps.{all_due, dues, after_message, bytes_in, faults_at, message_in, noted}
use Rattle.scoop_driver.specs.State.{Seen, Goes}
use Rattle.scoop_driver.specs.Turning.{SentDue, Receives, TellsMessage, NoteAnswers, TakesTurn, receive_faults}
use Rattle.scoop_driver.proofs.StepLists.{goes_nothing}

-- a client, its link's records, the number of the link's calls that failed, and its diary's records
abbrev pub seen : ClientState → Option Told → ℕ → Option (List Step) → Seen
seen c told faults diary = record { client = c; told = told; faults = faults; diary = diary }

pub turned_not : (c : ClientState) (a : Option Told) (n : ℕ) (o p : Option (List Step)) → p ≡ o
    → TakesTurn (Err (Client OutOfMemory)) (seen c a n o) (seen c a n p)
turned_not c a n o p same = ([], subst (λ x. Goes [] (seen c a n o) (seen c a n x)) (sym same) (goes_nothing (seen c a n o)), refl)

pub turned_broken : (c : ClientState) (a b : Option Told) (n k place : ℕ) (o m p : Option (List Step))
    → SentDue (Err place) c a b → k ≡ n + 1 → m ≡ o → p ≡ noted m (Broke place ∷ []) → TakesTurn (Err LinkFault) (seen c a n o) (seen c b k p)
turned_broken c a b n k place o m p sent faults same kept = (
  Broke place ∷ [],
  record {
    client = refl;
    can = (sent.0, tt {0});
    link = subst (Exchanges a b []) (sym (append-nil (dues c (take place c.handlers)))) sent.1;
    faults = faults;
    diary = kept ∙ ap (λ x. noted x (Broke place ∷ [])) same;
  },
  refl,
)

pub turned_whole : (r : Result (Option ClientNote) DriverError) (got : Received) (c d : ClientState) (a b e : Option Told) (n k l : ℕ)
    (o m p : Option (List Step))
    → SentDue (Ok (tt {0})) c a b → k ≡ n + 0 → Receives got b e → l ≡ k + receive_faults got → m ≡ o → p ≡ noted m (Turned got ∷ [])
    → d ≡ after_message c (message_in got) → NoteAnswers c got r → TakesTurn r (seen c a n o) (seen d e l p)
turned_whole r got c d a b e n k l o m p sent first took second same kept hears answers = (
  Turned got ∷ [],
  record {
    client = hears;
    can = (took.can, tt {0});
    link =
        subst (λ xs. Exchanges a e xs (all_due c ++ [])) (sym (append-nil (bytes_in got)))
        (exchanges-append a b e [] (bytes_in got) (all_due c) [] sent took.took);
    faults = second ∙ (ap (λ x. x + faults_at (Turned got)) (first ∙ add-zero n) ∙ ap (λ x. n + x) (sym (add-zero (faults_at (Turned got)))));
    diary = kept ∙ ap (λ x. noted x (Turned got ∷ [])) same;
  },
  answers,
)

-- the message heard, and its effect
pub record Hears (got : Received) (c d : ClientState) (r : Result (Option ClientNote) DriverError) : Type 0 where
  pub after : d ≡ after_message c (message_in got)
  pub answers : NoteAnswers c got r

pub hears_message : (got : Received) (c d : ClientState) (m : Message) (note : ClientNote) → TellsMessage got (Ok (Some m)) → heard c m ≡ (d, note)
    → Hears got c d (Ok (Some note))
hears_message Nothing c d m note is hears = absurd (let e : Ok (Some m) ≡ Ok None = is in cc)
hears_message (Frame v x) c d m note is hears =
    let same : m ≡ x = cc in
    let note_is : Notice → Result (Option ClientNote) DriverError = λ y. Ok (Some y.1) in
    record {
      after = sym (ap (λ (y : Notice). y.0) hears) ∙ ap (λ y. (heard c y).0) same;
      answers = sym (ap note_is hears) ∙ ap (λ y. note_is (heard c y)) same;
    }
hears_message (NoFrame x) c d m note is hears = absurd (let e : Ok (Some m) ≡ Ok None = is in cc)
hears_message Fault c d m note is hears = absurd (let e : Ok (Some m) ≡ Err LinkFault = is in cc)

pub hears_nothing : (got : Received) (c : ClientState) → TellsMessage got (Ok None) → Hears got c c (Ok None)
hears_nothing Nothing c is = record { after = refl; answers = refl }
hears_nothing (Frame v x) c is = absurd (let e : Ok None ≡ Ok (Some x) = is in cc)
hears_nothing (NoFrame x) c is = record { after = refl; answers = refl }
hears_nothing Fault c is = absurd (let e : Ok None ≡ Err LinkFault = is in cc)

pub hears_fault : (got : Received) (c : ClientState) (e : DriverError) → TellsMessage got (Err e) → Hears got c c (Err e)
hears_fault Nothing c e is = absurd (let x : Err e ≡ Ok None = is in cc)
hears_fault (Frame v m) c e is = absurd (let x : Err e ≡ Ok (Some m) = is in cc)
hears_fault (NoFrame d) c e is = absurd (let x : Err e ≡ Ok None = is in cc)
hears_fault Fault c e is = (let same : e ≡ LinkFault = cc in record { after = refl; answers = ap Err same })
