-- The plan of a node, by the file of its system, and where it stands.
use Rattle.std.specs.Prelude.{◌≡◌, ℕ, List, map, Some}
use Rattle.std.specs.List.{AllZip, Contains}
use Rattle.scoop_system.specs.declared.place.NodePlace.{NodePlace}
use Rattle.scoop_system.specs.declared.place.HandlerPlace.{HandlerPlace}
use Rattle.scoop_system.specs.Known.{handlers_on}
use Rattle.scoop_system.specs.System.{Plan, class_table}
use Rattle.scoop_runtime.specs.declared.plan.Member.{Member}
use Rattle.scoop_runtime.specs.declared.plan.NodePlan.{NodePlan}

-- the member is this handler of the file, with its class and its words
pub record IsMemberOf (s : Plan) (h : HandlerPlace) (m : Member) : Type 0 where
  pub number : m.handler ≡ h.handler
  pub class : class_table s.classes h.class ≡ Some m.class
  pub words : m.words ≡ h.words

-- the members are the handlers that the file places on the node of this number, in the file's order
abbrev pub AreMembersOf : Plan → ℕ → List Member → Type 0
AreMembersOf s number members = AllZip (IsMemberOf s) (handlers_on number s.handlers) members

-- the place is that of the node, at one of its addresses
pub record StandsAt (node place : NodePlace) : Type 0 where
  pub same : place ≡ record node { address = place.address }
  pub own : Contains node.addresses place.address

-- the plan is that of the node at this place
pub record IsPlanOf {O B : Type 0} (s : Plan) (place : NodePlace) (p : NodePlan O B) : Type 0 where
  pub at : p.place ≡ place
  pub members : AreMembersOf s place.number p.members.items
  pub numbers : p.numbers.items ≡ map (λ (m : Member). m.handler) p.members.items
