-- What Block Public Access changes (VPC User Guide, "Block public access to VPCs and subnets").
use Rattle.std.specs.Prelude.{◌≡◌, ◌⊎◌, None, map}
use Rattle.vpc_laws.specs.Types.{Description, End, Header, Label, Phase, Subnet, SubnetNo, Verdict, Vpc}
use Rattle.vpc_model.specs.Terms.{Appliances, Moment, Next, access_of, step_of, stop, verdict_of, walk_of}
use Rattle.vpc_model.specs.declared.outcomes.Verdict.TheVariants as verdicts
use Rattle.vpc_model.specs.declared.rows.Access.TheVariants as modes
use Rattle.vpc_model.specs.declared.stops.Stop.TheVariants as stops

-- a VPC and a subnet without a mode
abbrev pub open_vpc : Vpc → Vpc
open_vpc v = record v { access = None }

abbrev pub open_subnet : Subnet → Subnet
open_subnet s = record s { access = None }

-- the network in which no mode is told
abbrev pub opened : Description → Description
opened d = record d { vpcs = map open_vpc d.vpcs; subnets = map open_subnet d.subnets }

-- the mode of each subnet is off
abbrev pub IsOff : Description → Type 0
IsOff d = (s : SubnetNo) → access_of d s ≡ modes.Off

-- public access is blocked at a subnet
pub record IsBlockedNext (x : Next) : Type 0 where
  pub subnet : SubnetNo
  pub stops_there : x ≡ stop (stops.BlockPublicAccess subnet)

pub record IsBlockedVerdict (v : Verdict) : Type 0 where
  pub phase : Phase
  pub subnet : SubnetNo
  pub stops_there : v ≡ verdicts.Stopped phase (stops.BlockPublicAccess subnet)

-- ---- laws

-- where all modes are off, walks are those of the network in which none is told
abbrev pub OffChangesNothing : Type 0
OffChangesNothing =
    (d : Description) (appliances : Appliances) (label : Label) (m : Moment) → IsOff d
    → walk_of d appliances label m ≡ walk_of (opened d) appliances label m

-- a step that modes change is stopped by them
abbrev pub ModesStopSteps : Type 0
ModesStopSteps =
    (d : Description) (appliances : Appliances) (label : Label) (m : Moment)
    → let s = step_of d appliances label m in IsBlockedNext s.next ⊎ (s ≡ step_of (opened d) appliances label m)

-- a verdict that modes change is that they stop the request or its reply
abbrev pub ModesStopAlone : Type 0
ModesStopAlone =
    (d : Description) (appliances : Appliances) (start goal : End) (h : Header)
    → let v = verdict_of d appliances start goal h in IsBlockedVerdict v ⊎ (v ≡ verdict_of (opened d) appliances start goal h)
