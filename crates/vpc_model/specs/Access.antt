-- Block Public Access (VPC User Guide, "Block public access to VPCs and subnets").
use Rattle.std.specs.Prelude.{Bool, List, codes, false, not, true, unwrap_or, ℕ}
use Rattle.vpc_model.specs.Types.{Access, Description, Subnet, SubnetNo}
use Rattle.vpc_model.specs.declared.rows.Access.TheVariants as modes
use Rattle.vpc_model.specs.Choice.{or_else}
use Rattle.vpc_model.specs.Lookup.{subnet_at, vpc_at, vpc_no}

-- a mode as it is read and printed (EC2 API, BlockPublicAccessStates)
abbrev pub access_text : Access → List ℕ
access_text modes.Off = codes "off"
access_text modes.BlockIngress = codes "block-ingress"
access_text modes.BlockBidirectional = codes "block-bidirectional"

-- the mode of a subnet: its own, else that of its VPC; off where none is told
abbrev pub access_in : Description → Subnet → Access
access_in d row = let vpc = vpc_at d (vpc_no d row.vpc) in unwrap_or (or_else row.access vpc.access) modes.Off

abbrev pub access_of : Description → SubnetNo → Access
access_of d s = access_in d (subnet_at d s)

-- a mode stops what an interface sends to the internet and gets from it, be it a NAT gateway's or another
abbrev pub stops_at : Access → Bool → Bool
stops_at modes.Off nat = false
stops_at modes.BlockIngress nat = not nat
stops_at modes.BlockBidirectional nat = true
