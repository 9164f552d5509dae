-- Proofs about the meaning of the audit's errors.
use Rattle.std.proofs.Common.{◌≡◌, ℕ, zero, suc, inl, List, [], ◌∷◌, slice_get, Option, Some, Result, Ok, Err, refl, sym, ap, ◌∙◌, subst}
use Rattle.std.specs.Prelude.{IfErr}
use Rattle.std.specs.List.{AllByRecursion}
use Rattle.std.specs.Option.{option_map}
use Rattle.std.proofs.lemmas.Option.{slice_get-map}
use Rattle.scoop_message.specs.declared.name.ClientId.{ClientId}
use Rattle.scoop_message.specs.declared.name.HandlerId.{HandlerId}
use Rattle.scoop_message.specs.declared.message.Message.{Message}
use Rattle.scoop_system.specs.declared.place.ClientPlace.{ClientPlace}
use Rattle.scoop_system.specs.Known.{known_to}
use Rattle.scoop_system.specs.System.{Plan}
use Rattle.scoop_weave.specs.Order.{party_at}
use Rattle.scoop_weaver.specs.declared.traffic.Traffic.{Traffic}
use Rattle.scoop_weaver.specs.declared.trail.Passage.{Passage}
use Rattle.scoop_weaver.specs.Post.{message_at}
use Rattle.scoop_weaver.specs.Trails.{HaveTraffic, traffic_at}
use Rattle.scoop_weaver.specs.Weaving.{IsUnexplained}
use Rattle.scoop_replay.specs.declared.node.Placed.{Placed}
use Rattle.scoop_audit.specs.declared.error.AuditError.{AuditError}
use Rattle.scoop_audit.specs.declared.error.AuditError.TheVariants as audit
use Rattle.scoop_audit.specs.declared.error.PartyName.{PartyName}
use Rattle.scoop_audit.specs.declared.error.PartyName.TheVariants.{Node, Client}
use Rattle.scoop_audit.specs.declared.error.Trouble.{Trouble}
use Rattle.scoop_audit.specs.declared.error.Trouble.TheVariants.{OutOfMemory, Fault, Wrong as IsWrong}
use Rattle.scoop_audit.specs.declared.error.Wrong.TheVariants.{Unsent}
use Rattle.scoop_audit.specs.declared.roster.Member.{Member}
use Rattle.scoop_audit.specs.Members.{HasItsOwn, Owns}
use Rattle.scoop_audit.specs.Parties.{client_named, placed_on}
use Rattle.scoop_audit.specs.Run.{journal_at}
use Rattle.scoop_audit.specs.Told.{joining}
use Rattle.scoop_audit.specs.Unexplained.{IsAuditError, IsNoReplay, IsStop, IsStopAmong, IsUnsent, PartyStops}
use Rattle.scoop_audit.specs.Wrong.{IfWrong, StopsClient, StopsNode}
use Rattle.scoop_audit.proofs.Stops.{if_wrong}

-- ---- a party

pub node_party :
    {T : Type 0} (s : Plan) (n : ℕ) (ps : List Placed) (journal : List ℕ) (res : Result T Trouble) → ps ≡ placed_on s n
    → ((words : HandlerId → List ℕ) → IfErr res (IfWrong (StopsNode words n ps journal))) → IfErr res (IfWrong (PartyStops s journal (Node n)))
node_party s n ps journal (Ok x) is stops = tt
node_party s n ps journal (Err OutOfMemory) is stops = tt
node_party s n ps journal (Err (Fault number fault)) is stops = tt
node_party s n ps journal (Err (IsWrong w)) is stops = λ words. subst (λ qs. StopsNode words n qs journal w) is (stops words)

pub client_party :
    {T : Type 0} (s : Plan) (id : ClientId) (c : ClientPlace) (known : List HandlerId) (journal : List ℕ) (res : Result T Trouble)
    → client_named s.clients id ≡ Some c → known ≡ known_to s c → IfErr res (IfWrong (StopsClient (joining known c.client c.batch) journal))
    → IfErr res (IfWrong (PartyStops s journal (Client id)))
client_party s id c known journal (Ok x) found is stops = tt
client_party s id c known journal (Err t) found is stops =
    if_wrong t (StopsClient (joining known c.client c.batch) journal) (PartyStops s journal (Client id)) stops
    (λ w stop. (c, found, subst (λ ks. StopsClient (joining ks c.client c.batch) journal w) is stop))

-- ---- all parties

pub no_replay : (s : Plan) (journals : List (List ℕ)) (e : AuditError) → IsNoReplay e → IsAuditError s journals e
no_replay s journals audit.OutOfMemory none = tt
no_replay s journals (audit.Fault place line fault) none = tt
no_replay s journals (audit.Unexplained found w) none = absurd none

own_at : (journals : List (List ℕ)) (ms : List Member) (at : ℕ) (m : Member) → AllByRecursion (HasItsOwn journals) ms → slice_get ms at ≡ Some m
    → HasItsOwn journals m
own_at journals [] at m own here = absurd (cc)
own_at journals (x ∷ ms) zero m own here = let same : x ≡ m = cc in subst (HasItsOwn journals) same own.0
own_at journals (x ∷ ms) (suc at) m own here = own_at journals ms at m own.1 here

pub stopped : (s : Plan) (journals : List (List ℕ)) (ms : List Member) (e : AuditError) → AllByRecursion (HasItsOwn journals) ms
    → IsStopAmong s journals ms e → IsAuditError s journals e
stopped s journals ms audit.OutOfMemory own stop = tt
stopped s journals ms (audit.Fault place line fault) own stop = tt
stopped s journals ms (audit.Unexplained found w) own stop =
    let m : Member = stop.1 in
    let is : IsStop s (journal_at journals m.journal) m.party (audit.Unexplained found w) = stop.3 in
    inl
    (record {
      place = m.journal;
      own = λ at e. subst (λ p. Owns p (journal_at journals (Some at))) (sym is.0) (own_at journals ms stop.0 m own stop.2 at e);
      stops = subst (λ p. PartyStops s (journal_at journals m.journal) p w) (sym is.0) is.1;
    })

-- ---- no order

have_at :
    (post : List Message) (trails : List (List Passage)) (parties : List (List Traffic)) (p k : ℕ) (trail : List Passage) (next : Passage)
    → HaveTraffic post trails parties → slice_get trails p ≡ Some trail → slice_get trail k ≡ Some next
    → slice_get (party_at parties p) k ≡ Some (traffic_at post next)
have_at post [] parties p k trail next have here there = absurd (cc)
have_at post (xs ∷ trails) [] p k trail next have here there = absurd have
have_at post (xs ∷ trails) (ts ∷ parties) zero k trail next have here there =
    let same : xs ≡ trail = cc in
    ap (λ us. slice_get us k) (sym have.0.is)
    ∙ (slice_get-map (traffic_at post) xs k ∙ ap (option_map (traffic_at post)) (ap (λ ys. slice_get ys k) same ∙ there))
have_at post (xs ∷ trails) (ts ∷ parties) (suc p) k trail next have here there = have_at post trails parties p k trail next have.1 here there

pub unsent_so :
    (post : List Message) (trails : List (List Passage)) (parties : List (List Traffic)) (p k : ℕ) (trail : List Passage) (next : Passage) (m : Message)
    (silent : Option PartyName) → HaveTraffic post trails parties → IsUnexplained parties p k → slice_get trails p ≡ Some trail
    → slice_get trail k ≡ Some next → message_at post next.heard ≡ Some m → IsUnsent parties (Unsent m silent)
unsent_so post trails parties p k trail next m silent have unexplained here there heard =
    record {
      message = m;
      silent = silent;
      wrong_is = refl;
      party = p;
      place = k;
      next = traffic_at post next;
      here = have_at post trails parties p k trail next have here there;
      hears = heard;
      unexplained = unexplained;
    }
