-- Where subnets are: VPCs and zones by their numbers (EC2 API, DescribeSubnets).
use Rattle.std.specs.Prelude.{◌≡◌, List, bytes_eq, position, slice_index_or, ℕ}
use Rattle.std.specs.List.{position_or_len}
use Rattle.vpc_laws.specs.Types.{Description, Subnet, SubnetNo}
use Rattle.vpc_model.specs.Lookup.{vpc_no}
use Rattle.transit_gateway.specs.declared.sites.Site.{Site}
use Rattle.reference_check.specs.FirstNumbers.{number_in}

-- a zone by the number of the first subnet there
abbrev pub zone_no : Description → List ℕ → ℕ
zone_no d zone = position_or_len (λ s. bytes_eq s.zone zone) d.subnets

-- the VPC and the zone of a subnet
abbrev pub site_of : Description → Subnet → Site
site_of d s = record { vpc = vpc_no d s.vpc; zone = zone_no d s.zone }

-- the site of the subnet with a number
abbrev pub site_at : List Site → SubnetNo → Site
site_at sites s = slice_index_or sites s.0 (record { vpc = record { 0 = 0 }; zone = 0 })

-- the numbers are those of the zones
abbrev pub AreZones : Description → List (List ℕ × ℕ) → Type 0
AreZones d numbers = (zone : List ℕ) → number_in numbers zone ≡ position (λ s. bytes_eq s.zone zone) d.subnets
