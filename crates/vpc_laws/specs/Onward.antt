-- Past what a packet goes on from place to place, and what stops it.
use Rattle.std.specs.Prelude.{◌≡◌, Bool, None, Option, Some, false, true}
use Rattle.vpc_base.specs.declared.headers.Dir.TheVariants as dirs
use Rattle.vpc_laws.specs.Types.{AclNo, Came, Description, Dir, EniNo, EnterBy, FirewallNo, Header, Label, NatNo, Place, Stop, SubnetNo, VpcNo}
use Rattle.vpc_model.specs.declared.places.Place.TheVariants as places
use Rattle.vpc_model.specs.declared.stops.Stop.TheVariants as stops
use Rattle.vpc_model.specs.Step.Inspect.{firewall_subnet}
use Rattle.vpc_model.specs.Terms.{Appliances, Moment, Next, acl_at, acl_verdict, arrive, crossing, entering, go, host_of, leaving, nat_at, nat_of, own_subnet, step_of, stop, subnet_no, subnet_of}

-- ---- ways from place to place

-- the subnet in which the place lies, where a packet with this header comes to an interface, to a NAT gateway or to a
-- firewall endpoint
pub data LiesIn (d : Description) (h : Header) (q : Place) (t : SubnetNo) : Type 0 where
  host : (i : EniNo) → q ≡ places.Into i → t ≡ subnet_of d i → LiesIn d h q t
  nat_answered : (v : VpcNo) (i : EniNo) (n : NatNo) → q ≡ places.NatIn n → host_of d v h.dst ≡ Some i → nat_of d i ≡ Some n → t ≡ subnet_of d i → LiesIn d h q t
  nat_asked : (n : NatNo) → q ≡ places.NatOut n → (let row = nat_at d n in t ≡ subnet_no d (own_subnet row.life)) → LiesIn d h q t
  firewall : (e : FirewallNo) → q ≡ places.Inspect e → t ≡ firewall_subnet d e → LiesIn d h q t

-- packets come to it in a subnet: an interface, a NAT gateway or a firewall endpoint
abbrev pub is_in_subnet : Place → Bool
is_in_subnet (places.Into i) = true
is_in_subnet (places.NatOut n) = true
is_in_subnet (places.NatIn n) = true
is_in_subnet (places.Inspect e) = true
is_in_subnet _ = false

-- an ACL is asked of what goes on from it: out of a subnet, or into a VPC
abbrev pub asks_acls : Place → Bool
asks_acls (places.Router s came) = true
asks_acls (places.Enter v by) = true
asks_acls _ = false

-- a packet with this header goes on from the place to the next
pub data GoesOn (d : Description) (h : Header) (p q : Place) : Type 0 where
  -- from subnet to subnet, past the ACLs of both, or within one
  across : (s t : SubnetNo) (came : Came) → p ≡ places.Router s came → LiesIn d h q t → crossing d s t h ≡ None → GoesOn d h p q
  -- out of a subnet to a place in none, past its ACL
  out_of : (s : SubnetNo) (came : Came) → p ≡ places.Router s came → is_in_subnet q ≡ false → leaving d s h ≡ None → GoesOn d h p q
  -- into a VPC, past the ACL of the subnet
  into : (v : VpcNo) (by : EnterBy) (t : SubnetNo) → p ≡ places.Enter v by → LiesIn d h q t → entering d t h ≡ None → GoesOn d h p q
  -- from a place where no ACL is asked, to one in no subnet
  past_none : asks_acls p ≡ false → is_in_subnet q ≡ false → GoesOn d h p q

-- ---- stops

-- the place where groups make this stop, if they do
abbrev pub door_of : Stop → Option Place
door_of (stops.GroupsOut i) = Some (places.OutOf i)
door_of (stops.GroupsIn i) = Some (places.Into i)
door_of _ = None

abbrev pub IsDoor : Place → Option Place → Type 0
IsDoor p None = Unit {0}
IsDoor p (Some q) = p ≡ q

-- the ACL that makes this stop, and in which direction, if one does
abbrev pub refuser_of : Stop → Option (AclNo × Dir)
refuser_of (stops.AclOut a rule) = Some (a, dirs.Outward)
refuser_of (stops.AclIn a rule) = Some (a, dirs.Inward)
refuser_of _ = None

-- it refuses the header
abbrev pub Refuses : Description → Header → Option (AclNo × Dir) → Type 0
Refuses d h None = Unit {0}
Refuses d h (Some x) = let a = acl_at d x.0 in let verdict = acl_verdict a.rows x.1 h in verdict.0 ≡ false

-- ---- the law

-- what comes next of a packet at the place
abbrev pub LeadsOn : Description → Place → Header → Next → Type 0
LeadsOn d p h (go q k) = GoesOn d h p q
LeadsOn d p h (arrive end) = Unit {0}
LeadsOn d p h (stop s) = IsDoor p (door_of s) × Refuses d h (refuser_of s)

-- packets go on past the ACLs that let them; groups stop them where they leave or reach the interface that the stop names, and
-- ACLs those that they refuse
abbrev pub StepsLeadOn : Type 0
StepsLeadOn =
    (d : Description) (appliances : Appliances) (label : Label) (m : Moment)
    → let s = step_of d appliances label m in LeadsOn d m.place m.header s.next
