-- Subnets of attachments by their zones (EC2 API, DescribeTransitGatewayVpcAttachments).
use Rattle.std.specs.Prelude.{◌∷◌, ◌++◌, ◌+◌, ◌≡◌, [], if◌then◌else◌, List, None, Option, map, slice_index_or, true, ℕ}
use Rattle.number_tables.specs.Entries.{value_at}
use Rattle.number_tables.specs.declared.tables.Entry.{Entry}
use Rattle.vpc_laws.specs.Types.{AttNo, Attachment, Description, SubnetNo}
use Rattle.vpc_model.specs.Choice.{or_else}
use Rattle.vpc_model.specs.Lookup.{attachment_at, has_vpc, subnet_at, subnet_no}
use Rattle.vpc_model.specs.Sound.{is_attachment, is_subnet}
use Rattle.vpc_model.specs.Transit.{first_subnet, subnet_in_zone}
use Rattle.number_tables.specs.Keys.{key_of}
use Rattle.transit_gateway.specs.Sites.{site_at, site_of, zone_no}
use Rattle.transit_gateway.specs.declared.sites.Site.{Site}

-- the subnets that an attachment names, where its VPC is described
abbrev pub inner_subnets : Description → Attachment → List (List ℕ)
inner_subnets d a = if has_vpc d a.vpc then a.subnets else []

-- the first of them
abbrev pub first_of : Description → Attachment → Option SubnetNo
first_of d a = first_subnet d (inner_subnets d a)

-- a subnet by the number of its attachment and its zone
abbrev pub zone_entry : Description → ℕ → List ℕ → Entry SubnetNo
zone_entry d k id =
    let row = subnet_at d (subnet_no d id) in
    record { key = key_of k (zone_no d row.zone); value = subnet_no d id }

-- the subnets of attachments that are numbered from a number on
abbrev pub zone_entries : Description → ℕ → List Attachment → List (Entry SubnetNo)
zone_entries d k [] = []
zone_entries d k (a ∷ rest) = map (zone_entry d k) (inner_subnets d a) ++ zone_entries d (k + 1) rest

-- the subnet of an attachment that the tables tell of the zone of another subnet
abbrev pub zone_subnet_in : List Site → List (Entry SubnetNo) → AttNo → SubnetNo → Option SubnetNo
zone_subnet_in sites subnets a s = let site = site_at sites s in value_at (key_of a.0 site.zone) subnets

-- the subnet by which they say that a packet leaves
abbrev pub leaving : List Site → List (Entry SubnetNo) → List (Option SubnetNo) → AttNo → SubnetNo
    → Option SubnetNo
leaving sites subnets firsts a s = or_else (zone_subnet_in sites subnets a s) (slice_index_or firsts a.0 None)

-- the tables tell the site of each subnet, the first subnet of each attachment in each zone, and its first one
pub record HasZonesOf (d : Description) (sites : List Site) (subnets : List (Entry SubnetNo))
    (firsts : List (Option SubnetNo)) : Type 0 where
  pub site : sites ≡ map (site_of d) d.subnets
  pub zone : (a : AttNo) (s : SubnetNo) → is_attachment d a ≡ true → is_subnet d s ≡ true
      → let row = subnet_at d s in
      zone_subnet_in sites subnets a s ≡ subnet_in_zone d row.zone (inner_subnets d (attachment_at d a))
  pub first : firsts ≡ map (first_of d) d.attachments
