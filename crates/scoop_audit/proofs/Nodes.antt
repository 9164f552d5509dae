-- A node's journal, line by line.
use Rattle.std.proofs.Common.{◌≡◌, ◌<◌, ◌≤◌, ◌+◌, ℕ, zero, suc, List, [], ◌∷◌, ◌++◌, length, map, slice_get, Option, Some, None, Result, Ok, Err, refl, sym, ap, ◌∙◌, subst, append_assoc, arith}
use Rattle.std.specs.Prelude.{IfSome, OnOk}
use Rattle.std.specs.List.{AllByRecursion}
use Rattle.std.proofs.lemmas.List.{length-append}
use Rattle.scoop_message.specs.declared.message.Message.{Message}
use Rattle.scoop_handler.specs.Local.{LocalHandler}
use Rattle.scoop_journal.specs.declared.line.Line.{Line}
use Rattle.scoop_journal.specs.declared.line.Line.TheVariants.{NodeLife, ClientLife, Open, Hear, Begin, Finish, Do, Turn, Broke}
use Rattle.scoop_journal.specs.Journal.{ended}
use Rattle.scoop_weave.specs.NodeHistories.{reopened}
use Rattle.scoop_replay.specs.Node.{GoesOn, IsNodeTale, NodeValue, OpensAgain, after_entry, after_reopening}
use Rattle.scoop_audit.specs.Lines.{HasNoNewline, text_of_all}
use Rattle.scoop_audit.specs.Node.{BeginsLife, EntersBy, IsEntryOf, NodeRead, NodeUpTo, Opens, OpensAs, OpensFrom, PassesOver, ReadsNode, TellsEntry, TellsNode}
use Rattle.scoop_audit.specs.Node.{tells_entry, tells_life, tells_nothing}
use Rattle.scoop_audit.proofs.Texts.{text_more, texts_left, texts_more}

line_entry : (l : Line) (old new : NodeValue) (post more : List Message) → EntersBy l old new post more → GoesOn (IsEntryOf l) old new post more
line_entry (NodeLife n) old new post more by = absurd by
line_entry (ClientLife c inc batch) old new post more by = absurd by
line_entry (Open h image pending) old new post more by = absurd by
line_entry (Hear m reply) old new post more by = by
line_entry (Begin h) old new post more by = by
line_entry (Finish h) old new post more by = by
line_entry (Do x) old new post more by = absurd by
line_entry (Turn a) old new post more by = absurd by
line_entry (Broke place) old new post more by = absurd by

-- nothing was read
pub node_nothing : (bytes : List ℕ) (old : NodeValue) (post : List Message) → NodeUpTo bytes bytes old old post post
node_nothing bytes old post =
    record {
      lines = [];
      bytes_are = refl;
      reads = record { number = refl; told = λ words opening t at tale. record { tale = t; handlers_are = at; is_tale = tale; tells = tells_nothing } };
    }

module _ (old between new : NodeValue) (post sent more : List Message) where
  reads_entry :
      (lines : List Line) (l : Line) → ReadsNode lines old between post sent → new.number ≡ between.number → GoesOn (IsEntryOf l) between new sent more
      → ReadsNode (lines ++ l ∷ []) old new post more
  reads_entry lines l reads same goes =
      record {
        number = same ∙ reads.number;
        told = λ words opening t at tale.
            let r = reads.told words opening t at tale in
            let x = goes words opening r.tale r.handlers_are r.is_tale in
            record {
              tale = after_entry x.0 new.handlers r.tale;
              handlers_are = refl;
              is_tale =
                  subst (λ n. IsNodeTale words n opening (after_entry x.0 new.handlers r.tale) more new.trail) (sym same) x.2;
              tells =
                  subst (λ n. TellsNode words n t (lines ++ l ∷ []) (after_entry x.0 new.handlers r.tale)) (sym same)
                  (tells_entry lines r.tale l x.0 new.handlers r.tells x.1);
            };
      }

  -- the entry of a line is made
  pub entered :
      (l : Line) (bytes rest : List ℕ) → NodeUpTo bytes (ended l ++ rest) old between post sent → new.number ≡ between.number
      → EntersBy l between new sent more → NodeUpTo bytes rest old new post more
  entered l bytes rest up same by =
      record {
        lines = up.lines ++ l ∷ [];
        bytes_are = text_more bytes rest up.lines l up.bytes_are;
        reads = reads_entry up.lines l up.reads same (line_entry l between new sent more by);
      }

  pub entered_so :
      {T E : Type 0} (res : Result T E) (l : Line) (bytes rest : List ℕ) → OnOk res (new.number ≡ between.number) → OnOk res (EntersBy l between new sent more)
      → OnOk res (NodeUpTo bytes (ended l ++ rest) old between post sent → NodeUpTo bytes rest old new post more)
  entered_so (Ok u) l bytes rest same by = λ up. entered l bytes rest up same by
  entered_so (Err e) l bytes rest same by = tt

  module _ (number : ℕ) (opens : List Line) (numbered : number ≡ between.number) (same : new.number ≡ between.number) (again : OpensAgain between new sent more)
      (opened : Opens opens new.handlers) where
    reads_life :
        (lines unstored : List Line) → AllByRecursion TellsEntry unstored → ReadsNode lines old between post sent
        → ReadsNode (lines ++ (unstored ++ NodeLife number ∷ opens)) old new post more
    reads_life lines unstored entries reads =
        record {
          number = same ∙ reads.number;
          told = λ words opening t at tale.
              let r = reads.told words opening t at tale in
              let x = again words opening r.tale r.handlers_are r.is_tale in
              let now : (after_reopening words r.tale).handlers ≡ new.handlers = ap (map (reopened words)) r.handlers_are ∙ sym x.1 in
              record {
                tale = after_reopening words r.tale;
                handlers_are = now;
                is_tale = subst (λ n. IsNodeTale words n opening (after_reopening words r.tale) more new.trail) (sym same) x.0;
                tells =
                    subst (λ n. TellsNode words new.number t (lines ++ (unstored ++ NodeLife n ∷ opens)) (after_reopening words r.tale)) (sym numbered ∙ refl)
                    (subst (λ n. TellsNode words n t (lines ++ (unstored ++ NodeLife between.number ∷ opens)) (after_reopening words r.tale)) (sym same)
                    (tells_life lines unstored opens r.tale r.tells entries (subst (Opens opens) (sym now) opened)));
              };
        }

  -- a life begins after entries that are left out
  pub life_begun :
      (number : ℕ) (bytes before after rest : List ℕ) → PassesOver before (ended (NodeLife number) ++ after) → BeginsLife number after rest between new sent more
      → NodeUpTo bytes before old between post sent → NodeUpTo bytes rest old new post more
  life_begun number bytes before after rest p b up =
      let o = b.opened in
      let passed : List Line = up.lines ++ p.lines in
      let ls : List Line = passed ++ NodeLife number ∷ [] in
      let over : bytes ≡ text_of_all passed ++ (ended (NodeLife number) ++ after) =
      texts_more bytes (ended (NodeLife number) ++ after) up.lines p.lines (up.bytes_are ∙ ap (λ ts. text_of_all up.lines ++ ts) p.bytes_are) in
      let first : bytes ≡ text_of_all ls ++ after = text_more bytes after passed (NodeLife number) over in
      let all : bytes ≡ text_of_all (ls ++ o.opens) ++ rest = texts_more bytes rest ls o.opens (first ∙ ap (λ ts. text_of_all ls ++ ts) o.bytes_are) in
      record {
        lines = up.lines ++ (p.lines ++ NodeLife number ∷ o.opens);
        bytes_are =
            all ∙ ap (λ xs. text_of_all xs ++ rest)
            (append_assoc passed (NodeLife number ∷ []) o.opens ∙ append_assoc up.lines p.lines (NodeLife number ∷ o.opens));
        reads = reads_life number o.opens b.numbered b.same b.again o.are up.lines p.lines p.are up.reads;
      }

-- ---- entries that are left out

pub passes_none : (bytes : List ℕ) → PassesOver bytes bytes
passes_none bytes = record { lines = []; bytes_are = refl; are = tt }

-- this line, and then those
pub passes_first : (bytes rest : List ℕ) (l : Line) → TellsEntry l → PassesOver bytes rest → PassesOver (ended l ++ bytes) rest
passes_first bytes rest l entry p =
    record {
      lines = l ∷ p.lines;
      bytes_are = ap (λ ts. ended l ++ ts) p.bytes_are ∙ sym (append_assoc (ended l) (text_of_all p.lines) rest);
      are = (entry, p.are);
    }

all_more : (ls : List Line) (l : Line) → AllByRecursion TellsEntry ls → TellsEntry l → AllByRecursion TellsEntry (ls ++ l ∷ [])
all_more [] l are entry = (entry, tt)
all_more (x ∷ ls) l are entry = (are.0, all_more ls l are.1 entry)

pub passes_more : (bytes rest : List ℕ) (l : Line) → TellsEntry l → PassesOver bytes (ended l ++ rest) → PassesOver bytes rest
passes_more bytes rest l entry p =
    record { lines = p.lines ++ l ∷ []; bytes_are = text_more bytes rest p.lines l p.bytes_are; are = all_more p.lines l p.are entry }

pub passes_left : (bytes rest : List ℕ) → PassesOver bytes rest → length rest ≤ length bytes
passes_left bytes rest p = texts_left bytes rest p.lines p.bytes_are

pub node_read :
    (bytes rest : List ℕ) (old now : NodeValue) (post more : List Message) → NodeUpTo bytes rest old now post more → HasNoNewline rest
    → NodeRead bytes old now post more
node_read bytes rest old now post more up none =
    record { lines = up.lines; journal = record { half = rest; bytes_are = up.bytes_are; no_line = none }; reads = up.reads }

-- ---- the first lines of a life

-- the first of the handlers were opened by lines
pub record OpenedTo (bytes rest : List ℕ) (ls : List LocalHandler) (n : ℕ) : Type 0 where
  pub opens : List Line
  pub bytes_are : bytes ≡ text_of_all opens ++ rest
  pub count : length opens ≡ n
  pub are : Opens opens ls

none_there : (ls : List LocalHandler) (n : ℕ) → n < length ls → slice_get ls n ≡ None → ⊥
none_there [] n less e = omega arith
none_there (l ∷ ls) zero less e = absurd (cc)
none_there (l ∷ ls) (suc n) less e = none_there ls n (omega arith) e

opens_more : (xs : List Line) (ls : List LocalHandler) (x : Line) (l : LocalHandler) → Opens xs ls → slice_get ls (length xs) ≡ Some l → OpensAs x l
    → Opens (xs ++ x ∷ []) ls
opens_more [] [] x l are at is_open = absurd (cc)
opens_more [] (k ∷ ls) x l are at is_open = let same : k ≡ l = cc in (subst (OpensAs x) (sym same) is_open, tt)
opens_more (y ∷ xs) [] x l are at is_open = absurd are
opens_more (y ∷ xs) (k ∷ ls) x l are at is_open = (are.0, opens_more xs ls x l are.1 at is_open)

pub opened_none : (bytes : List ℕ) (ls : List LocalHandler) → OpenedTo bytes bytes ls 0
opened_none bytes ls = record { opens = []; bytes_are = refl; count = refl; are = tt }

pub opened_more :
    (bytes rest : List ℕ) (ls : List LocalHandler) (n : ℕ) (x : Line) → n < length ls → OpenedTo bytes (ended x ++ rest) ls n
    → IfSome (slice_get ls n) (OpensAs x) → OpenedTo bytes rest ls (n + 1)
opened_more bytes rest ls n x less o is_open = there (slice_get ls n) refl is_open
  where
    there : (q : Option LocalHandler) → slice_get ls n ≡ q → IfSome q (OpensAs x) → OpenedTo bytes rest ls (n + 1)
    there (Some l) e is =
        record {
          opens = o.opens ++ x ∷ [];
          bytes_are = text_more bytes rest o.opens x o.bytes_are;
          count = length-append o.opens (x ∷ []) ∙ ap (λ k. k + 1) o.count;
          are = opens_more o.opens ls x l o.are (ap (slice_get ls) o.count ∙ e) is;
        }
    there None e is = absurd (none_there ls n less e)

pub opened_from : (bytes rest : List ℕ) (ls : List LocalHandler) (n : ℕ) → OpenedTo bytes rest ls n → OpensFrom bytes rest ls
opened_from bytes rest ls n o = record { opens = o.opens; bytes_are = o.bytes_are; are = o.are }
