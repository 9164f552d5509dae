-- Lives go on by an entry or by a reopening, and so does their traffic.
use Rattle.std.proofs.Common.{◌≡◌, ℕ, List, [], ◌∷◌, ◌++◌, map, refl, sym, ap, ◌∙◌, subst, append_assoc}
use Rattle.std.proofs.lemmas.List.{map-append}
use Rattle.scoop_message.specs.declared.name.HandlerId.{HandlerId}
use Rattle.scoop_message.specs.declared.message.Message.{Message}
use Rattle.scoop_book.specs.Moves.{LocalHandler, Entry, Moves, Replays}
use Rattle.scoop_book.proofs.BookLemmas.{replays_more}
use Rattle.scoop_weave.specs.NodeHistories as node
use Rattle.scoop_weave.specs.NodeHistories.{move_in, reopened}
use Rattle.scoop_weaver.specs.declared.traffic.Traffic.{Traffic}
use Rattle.scoop_weaver.specs.declared.trail.Passage.{Passage}
use Rattle.scoop_weaver.specs.Passing.{by_node, silent, traffic_of}
use Rattle.scoop_weaver.specs.Trails.{HasTraffic}
use Rattle.scoop_weaver.proofs.Anew.{node_anew}
use Rattle.scoop_replay.specs.Node.{Told, passed_by, NodeTale, IsNodeTale, after_entry, after_reopening}

module _ (words : HandlerId → List ℕ) where
  told_more : (opening : List LocalHandler) (done : List (List Entry)) (newest : List Entry) (e : Entry) (hs ks : List LocalHandler)
      → Told words opening done newest hs → Moves e.1 e.2 hs ks → Told words opening done (newest ++ e ∷ []) ks
  told_more opening [] newest e hs ks told moves = replays_more opening newest e hs ks told moves
  told_more opening (es ∷ done) newest e hs ks told moves = (told.0, told.1, told_more (map (reopened words) told.0) done newest e hs ks told.2 moves)

  told_again : (opening : List LocalHandler) (done : List (List Entry)) (newest : List Entry) (hs : List LocalHandler) → Told words opening done newest hs
      → Told words opening (done ++ newest ∷ []) [] (map (reopened words) hs)
  told_again opening [] newest hs told = (hs, told, refl)
  told_again opening (es ∷ done) newest hs told = (told.0, told.1, told_again (map (reopened words) told.0) done newest hs told.2)

  -- these are lives in the sense of the theorem
  pub told_lives : (opening : List LocalHandler) (es : List Entry) (done : List (List Entry)) (newest : List Entry) (now : List LocalHandler)
      → Told words opening (es ∷ done) newest now → node.Lives words opening es (done ++ newest ∷ []) now
  told_lives opening es [] newest now told = told
  told_lives opening es (fs ∷ done) newest now told = (told.0, told.1, told_lives (map (reopened words) told.0) fs done newest now told.2)

entries_more : (n : ℕ) (es : List Entry) (e : Entry) → by_node n (es ++ e ∷ []) [] ≡ by_node n es [] ++ traffic_of (move_in e) ∷ []
entries_more n es e = ap (map traffic_of) (map-append move_in es (e ∷ [])) ∙ map-append traffic_of (map move_in es) (move_in e ∷ [])

passed_more : (n : ℕ) (done : List (List Entry)) (newest : List Entry) (e : Entry)
    → passed_by n done (newest ++ e ∷ []) ≡ passed_by n done newest ++ traffic_of (move_in e) ∷ []
passed_more n [] newest e = entries_more n newest e
passed_more n (es ∷ done) newest e =
    node_anew n es done (newest ++ e ∷ [])
    ∙ (ap (λ ts. by_node n es done ++ silent ∷ ts) (entries_more n newest e)
    ∙ (sym (append_assoc (by_node n es done) (silent ∷ by_node n newest []) (traffic_of (move_in e) ∷ []))
    ∙ ap (λ ts. ts ++ traffic_of (move_in e) ∷ []) (sym (node_anew n es done newest))))

passed_again : (n : ℕ) (done : List (List Entry)) (newest : List Entry) → passed_by n (done ++ newest ∷ []) [] ≡ passed_by n done newest ++ silent ∷ []
passed_again n [] newest = node_anew n newest [] []
passed_again n (es ∷ done) newest = node_anew n es (done ++ newest ∷ []) []

pub tale_entered :
    (words : HandlerId → List ℕ) (n : ℕ) (opening : List LocalHandler) (t : NodeTale) (post more : List Message) (trail longer : List Passage) (e : Entry)
    (hs : List LocalHandler) → IsNodeTale words n opening t post trail → Moves e.1 e.2 t.handlers hs
    → ((ts : List Traffic) → HasTraffic post trail ts → HasTraffic more longer (ts ++ traffic_of (move_in e) ∷ []))
    → IsNodeTale words n opening (after_entry e hs t) more longer
tale_entered words n opening t post more trail longer e hs tale moves adds =
    record {
      told = told_more words opening t.done t.newest e t.handlers hs tale.told moves;
      passed =
          subst (HasTraffic more longer) (sym (passed_more n t.done t.newest e)) (adds (passed_by n t.done t.newest) tale.passed);
    }

pub tale_reopened :
    (words : HandlerId → List ℕ) (n : ℕ) (opening : List LocalHandler) (t : NodeTale) (post more : List Message) (trail longer : List Passage)
    → IsNodeTale words n opening t post trail
    → ((ts : List Traffic) → HasTraffic post trail ts → HasTraffic more longer (ts ++ silent ∷ []))
    → IsNodeTale words n opening (after_reopening words t) more longer
tale_reopened words n opening t post more trail longer tale adds =
    record {
      told = told_again words opening t.done t.newest t.handlers tale.told;
      passed = subst (HasTraffic more longer) (sym (passed_again n t.done t.newest)) (adds (passed_by n t.done t.newest) tale.passed);
    }
