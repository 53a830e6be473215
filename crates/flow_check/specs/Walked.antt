-- Lines of a flow log beside the walks of the packets that they tell of.
use Rattle.std.specs.Prelude.{◌==◌, ◌++◌, ◌∷◌, ◌≡◌, ◌≢◌, [], Bool, List, Some, false, not, true, ℕ}
use Rattle.replay_laws.specs.Interleaved.{Comes}
use Rattle.vpc_base.specs.declared.headers.Dir.TheVariants as dirs
use Rattle.vpc_laws.specs.Types.{Description, Dir, EniNo, Event, Header, Hop, NatNo, Place, Stop, SubnetNo}
use Rattle.vpc_model.specs.Terms.{Appliances, IsAccepted, Walk, acl_of, far_address, interface_at, is_eni, is_gateway, nat_at, own_subnet, subnet_no, subnet_of}
use Rattle.vpc_model.specs.declared.outcomes.By.TheVariants as bys
use Rattle.vpc_model.specs.declared.outcomes.Outcome.TheVariants as outcomes
use Rattle.vpc_model.specs.declared.places.Place.TheVariants as places
use Rattle.vpc_model.specs.declared.stops.Stop.TheVariants as stops
use Rattle.vpc_model.specs.Step.Inspect.{firewall_subnet}
use Rattle.flow_check.specs.Records.{has_ports}
use Rattle.flow_check.specs.Rules.{direction_of, groups_stop, is_neighbour}
use Rattle.flow_check.specs.Sorts.{sort_of}
use Rattle.flow_check.specs.declared.records.Action.{Action}
use Rattle.flow_check.specs.declared.records.Action.TheVariants as actions
use Rattle.flow_check.specs.declared.records.Flow.{Flow}
use Rattle.flow_check.specs.declared.records.Record.TheVariants as records
use Rattle.flow_check.specs.declared.sorts.Sort.{Sort}
use Rattle.flow_check.specs.declared.sorts.Sort.TheVariants as sorts

-- ---- the line

-- what a line says of a header's packets at an interface
abbrev pub flow_at : Description → EniNo → Header → Action → Flow
flow_at d i h action =
    let e = interface_at d i in
    record { eni = e.id; src = Some h.src; dst = Some h.dst; ports = record { proto = h.proto; p = h.p; q = h.q }; action = action }

-- what becomes of that line
abbrev pub sort_at_interface : Description → EniNo → Header → Action → Sort
sort_at_interface d i h action = sort_of d (records.Seen (flow_at d i h action))

-- the line is judged in a direction: TCP or UDP at a host, one of whose private addresses is at that end alone
pub record IsJudged (d : Description) (i : EniNo) (dir : Dir) (h : Header) : Type 0 where
  pub described : is_eni d i ≡ true
  pub host : let e = interface_at d i in is_gateway e.kind ≡ false
  pub ports : has_ports h.proto ≡ true
  pub own : direction_of (interface_at d i) h.src h.dst ≡ Some dir

-- by its addresses the packet crosses the border of the subnet
abbrev pub has_border : Description → EniNo → Dir → Header → Bool
has_border d i dir h = not (is_neighbour d (interface_at d i) (far_address dir h))

-- ---- the walk

-- the subnet of a NAT gateway
abbrev pub subnet_of_nat : Description → NatNo → SubnetNo
subnet_of_nat d n = let row = nat_at d n in subnet_no d (own_subnet row.life)

-- the subnet's router hands a packet on to this place inside the subnet, where no ACL is evaluated
abbrev pub is_inside : Description → SubnetNo → Place → Bool
is_inside d s (places.Into i) = let t = subnet_of d i in s.0 == t.0
is_inside d s (places.NatIn n) = let t = subnet_of_nat d n in s.0 == t.0
is_inside d s (places.NatOut n) = let t = subnet_of_nat d n in s.0 == t.0
is_inside d s (places.Inspect e) = let t = firewall_subnet d e in s.0 == t.0
is_inside d s _ = false

-- a packet comes from this place inside the subnet: from its router
abbrev pub is_router_of : SubnetNo → Place → Bool
is_router_of s (places.Router t came) = t.0 == s.0
is_router_of s _ = false

-- the walk passes the interface with the header and goes on behind the router of its subnet, across the border or not
pub record PassesOut (d : Description) (w : Walk) (i : EniNo) (h : Header) (crosses : Bool) : Type 0 where
  pub before : List Hop
  pub out : Hop
  pub router : Hop
  pub next : Hop
  pub after : List Hop
  pub hops : w.hops ≡ before ++ out ∷ router ∷ next ∷ after
  pub place : out.place ≡ places.OutOf i
  pub header : out.header ≡ h
  pub border : not (is_inside d (subnet_of d i) next.place) ≡ crosses

-- the walk comes to the interface with the header, across the border or not, and its groups let it pass by something
pub record PassesIn (d : Description) (w : Walk) (i : EniNo) (h : Header) (crosses : Bool) : Type 0 where
  pub before : List Hop
  pub last : Hop
  pub into : Hop
  pub after : List Hop
  pub hops : w.hops ≡ before ++ last ∷ into ∷ after
  pub place : into.place ≡ places.Into i
  pub header : into.header ≡ h
  pub by : into.by ≢ bys.Nothing
  pub border : not (is_router_of (subnet_of d i) last.place) ≡ crosses

abbrev pub Passes : Description → Walk → EniNo → Dir → Header → Bool → Type 0
Passes d w i dirs.Inward h crosses = PassesIn d w i h crosses
Passes d w i dirs.Outward h crosses = PassesOut d w i h crosses

-- where a packet passes the groups of an interface
abbrev pub door : EniNo → Dir → Place
door i dirs.Inward = places.Into i
door i dirs.Outward = places.OutOf i

-- the stop of the ACL of an interface's subnet, by its row with this number
abbrev pub acl_row_stop : Description → EniNo → Dir → ℕ → Stop
acl_row_stop d i dirs.Inward number = stops.AclIn (acl_of d (subnet_of d i)) number
acl_row_stop d i dirs.Outward number = stops.AclOut (acl_of d (subnet_of d i)) number

-- the walk ends with the header, stopped by the groups of the interface, or by the ACL of its subnet where there is a border
pub data IsStopped (d : Description) (w : Walk) (i : EniNo) (dir : Dir) (h : Header) : Type 0 where
  by_groups : (before : List Hop) (last : Hop) → w.hops ≡ before ++ last ∷ [] → last.place ≡ door i dir → last.header ≡ h
      → w.outcome ≡ outcomes.Stopped (groups_stop i dir) → IsStopped d w i dir h
  by_acl : (before : List Hop) (last : Hop) (number : ℕ) → w.hops ≡ before ++ last ∷ [] → last.header ≡ h
      → w.outcome ≡ outcomes.Stopped (acl_row_stop d i dir number) → has_border d i dir h ≡ true → IsStopped d w i dir h

-- ---- laws, of the walk of each packet in a list of packets that come one after another

-- where a walk passes the interface, and the border of its subnet exactly where the addresses tell of one, the line that says
-- ACCEPT of its header agrees
abbrev pub AcceptedLinesAgree : Type 0
AcceptedLinesAgree =
    (d : Description) (appliances : Appliances) (events : List Event) (earlier : List (Event × Walk)) (e : Event) (w : Walk)
    (i : EniNo) (dir : Dir) (h : Header) → IsAccepted d → Comes d appliances events earlier e w
    → IsJudged d i dir h → Passes d w i dir h (has_border d i dir h)
    → sort_at_interface d i h actions.Accept ≡ sorts.Agrees

-- where it is stopped there, the line that says REJECT agrees
abbrev pub RejectedLinesAgree : Type 0
RejectedLinesAgree =
    (d : Description) (appliances : Appliances) (events : List Event) (earlier : List (Event × Walk)) (e : Event) (w : Walk)
    (i : EniNo) (dir : Dir) (h : Header) → IsAccepted d → Comes d appliances events earlier e w
    → IsJudged d i dir h → IsStopped d w i dir h
    → sort_at_interface d i h actions.Reject ≡ sorts.Agrees
