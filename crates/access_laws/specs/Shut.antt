-- VPCs whose subnets all have one mode of Block Public Access (VPC User Guide, "Block public access to VPCs and subnets").
use Rattle.std.specs.Prelude.{◌≡◌, ◌⊎◌, Bool, Some, bytes_eq, false, true}
use Rattle.vpc_base.specs.declared.headers.Label.TheVariants as labels
use Rattle.vpc_laws.specs.Types.{Access, Description, Header, Label, NatNo, Place, Stop, SubnetNo, TableNo, VpcNo}
use Rattle.vpc_model.specs.Accepted.{IsAccepted}
use Rattle.vpc_model.specs.Firewalls.{entrance_table}
use Rattle.vpc_model.specs.Terms.{Appliances, Moment, Next, access_of, go, step_of, stop, subnet_at, vpc_at}
use Rattle.vpc_model.specs.declared.places.EnterBy.TheVariants as through
use Rattle.vpc_model.specs.declared.places.Place.TheVariants as places
use Rattle.vpc_model.specs.declared.rows.Access.TheVariants as modes

-- each subnet of the VPC has the mode
abbrev pub HaveMode : Description → VpcNo → Access → Type 0
HaveMode d v mode = (s : SubnetNo) → bytes_eq (subnet_at d s).vpc (vpc_at d v).id ≡ true → access_of d s ≡ mode

-- nothing comes next
pub record Ends (x : Next) : Type 0 where
  pub by : Stop
  pub stops_there : x ≡ stop by

-- what the internet sends to a VPC that has the destination comes to the VPC's gateway with the same header
pub record IsSent (d : Description) (appliances : Appliances) (label : Label) (v : VpcNo) (sent came : Moment) : Type 0 where
  pub from : sent.place ≡ places.Internet
  pub next : (step_of d appliances label sent).next ≡ go (places.IgwIn v) came.header
  pub to : came.place ≡ places.IgwIn v

-- an interface or a firewall endpoint
abbrev pub is_middlebox : Place → Bool
is_middlebox (places.Into i) = true
is_middlebox (places.Inspect e) = true
is_middlebox _ = false

-- the table of the VPC's internet gateway sends the packet through a middlebox (VPC User Guide, "Gateway route tables")
pub record IsDiverted (d : Description) (v : VpcNo) (h : Header) (x : Next) : Type 0 where
  pub table : TableNo
  pub box : Place
  pub of_gateway : entrance_table d v through.Gateway ≡ Some table
  pub is_box : is_middlebox box ≡ true
  pub sends : x ≡ go box h

-- ---- laws

-- where neither direction passes, no packet leaves by the gateway
abbrev pub NothingLeaves : Type 0
NothingLeaves =
    (d : Description) (appliances : Appliances) (label : Label) (v : VpcNo) (m : Moment) → HaveMode d v modes.BlockBidirectional → m.place ≡ places.IgwOut v
    → Ends (step_of d appliances label m).next

-- and none that the internet sends comes in
abbrev pub NothingEnters : Type 0
NothingEnters =
    (d : Description) (appliances : Appliances) (label : Label) (v : VpcNo) (sent came : Moment) → IsAccepted d → HaveMode d v modes.BlockBidirectional
    → IsSent d appliances label v sent came → Ends (step_of d appliances label came).next

-- where packets pass outward alone, an open that comes in is stopped, or handed to a NAT gateway, which stops it, unless the table
-- of the internet gateway sends it through a middlebox
abbrev pub NatGatewaysGetOpens : Type 0
NatGatewaysGetOpens =
    (d : Description) (appliances : Appliances) (v : VpcNo) (sent came inside : Moment) → IsAccepted d → HaveMode d v modes.BlockIngress
    → IsSent d appliances labels.Opening v sent came
    → (step_of d appliances labels.Opening came).next ≡ go (places.Enter v through.Gateway) inside.header → inside.place ≡ places.Enter v through.Gateway
    → let next = (step_of d appliances labels.Opening inside).next in
    Ends next
    ⊎ (((n : NatNo) × (next ≡ go (places.NatIn n) inside.header)
    × ((at : Moment) → at.place ≡ places.NatIn n → Ends (step_of d appliances labels.Opening at).next))
    ⊎ IsDiverted d v inside.header next)
