-- The `==` of commands and events decides whether two of them are the same.
use Rattle.scoop_model.proofs.Names.{◌≡◌, List, refl, ap, Decides-like, Decides-eqb, handler_decides, client_decides, pair_decides, request_decides, ClientId}
use Rattle.scoop_model.proofs.Names.{HandlerId, Request, Command, Reserve, End, GiveUp, Call, Query, Event, Do, Tick, Take, Begin, Finish, ClientRestart}
use Rattle.scoop_model.proofs.Names.{NodeRestart}
use Rattle.std.proofs.lemmas.Slice.Eq.{slice_eq-Decides}
use Rattle.std.specs.Bool.{Decides}
use Rattle.scoop_client.specs.contracts.handlers.HandlerListPartialEq.TheImpl as on_list
use Rattle.scoop_client.specs.contracts.command.CommandPartialEq.TheImpl as on_command
use Rattle.scoop_model.specs.contracts.event.EventPartialEq.TheImpl as on_event

list_decides : (xs ys : List HandlerId) → Decides (on_list.eq-value.it xs ys) (xs ≡ ys)
list_decides xs ys = slice_eq-Decides handler_decides xs ys _ refl

command_decides : (a b : Command) → Decides (on_command.eq-value.it a b) (a ≡ b)
command_decides (Reserve hs) (Reserve ks) = Decides-like _ (ap Reserve) (λ e. cc) (list_decides hs ks)
command_decides (Reserve hs) x = ((λ e. cc), (λ e. cc))
command_decides (Call h r) (Call k s) =
    Decides-like _ (λ e. ap (λ (t : HandlerId × Request). Call t.0 t.1) e) (λ e. cc) (pair_decides h k r s (handler_decides h k) (request_decides r s))
command_decides (Call h r) x = ((λ e. cc), (λ e. cc))
command_decides (Query h r) (Query k s) =
    Decides-like _ (λ e. ap (λ (t : HandlerId × Request). Query t.0 t.1) e) (λ e. cc) (pair_decides h k r s (handler_decides h k) (request_decides r s))
command_decides (Query h r) x = ((λ e. cc), (λ e. cc))
command_decides End End = ((λ e. refl), (λ e. refl))
command_decides End x = ((λ e. cc), (λ e. cc))
command_decides GiveUp GiveUp = ((λ e. refl), (λ e. refl))
command_decides GiveUp x = ((λ e. cc), (λ e. cc))

pub event_decides : (a b : Event) → Decides (on_event.eq-value.it a b) (a ≡ b)
event_decides (Do c x) (Do d y) =
    Decides-like _ (λ e. ap (λ (t : ClientId × Command). Do t.0 t.1) e) (λ e. cc) (pair_decides c d x y (client_decides c d) (command_decides x y))
event_decides (Do c x) e = ((λ e. cc), (λ e. cc))
event_decides (Tick c h) (Tick d k) =
    Decides-like _ (λ e. ap (λ (t : ClientId × HandlerId). Tick t.0 t.1) e) (λ e. cc) (pair_decides c d h k (client_decides c d) (handler_decides h k))
event_decides (Tick c h) e = ((λ e. cc), (λ e. cc))
event_decides (Take i) (Take j) = Decides-like _ (ap Take) (λ e. cc) (Decides-eqb i j)
event_decides (Take i) e = ((λ e. cc), (λ e. cc))
event_decides (Begin h) (Begin k) = Decides-like _ (ap Begin) (λ e. cc) (handler_decides h k)
event_decides (Begin h) e = ((λ e. cc), (λ e. cc))
event_decides (Finish h) (Finish k) = Decides-like _ (ap Finish) (λ e. cc) (handler_decides h k)
event_decides (Finish h) e = ((λ e. cc), (λ e. cc))
event_decides (ClientRestart c) (ClientRestart d) = Decides-like _ (ap ClientRestart) (λ e. cc) (client_decides c d)
event_decides (ClientRestart c) e = ((λ e. cc), (λ e. cc))
event_decides (NodeRestart i) (NodeRestart j) = Decides-like _ (ap NodeRestart) (λ e. cc) (Decides-eqb i j)
event_decides (NodeRestart i) e = ((λ e. cc), (λ e. cc))
