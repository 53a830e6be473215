-- Which groups rules may name, by numbers (VPC User Guide, "Security group referencing").
use Rattle.std.specs.List.{All, AllZip, list_any}
use Rattle.std.specs.Prelude.{◌&&◌, ◌<◌, ◌≡◌, ◌^◌, [], Bool, List, Some, bytes_eq, filter, length, map, slice_index_or, ℕ}
use Rattle.vpc_base.specs.declared.headers.Dir.{Dir}
use Rattle.vpc_model.specs.declared.rows.Description.{Description}
use Rattle.vpc_model.specs.declared.rows.Group.{Group}
use Rattle.vpc_model.specs.declared.rows.GroupVpc.{GroupVpc}
use Rattle.vpc_model.specs.Groups.{are_over_transit, are_peers, is_inward, lets_name}
use Rattle.vpc_model.specs.Lookup.{group_at}
use Rattle.security_groups.specs.Ids.{HasIds, is_number, place_of}
use Rattle.security_groups.specs.Sharing.{has_pair}
use Rattle.security_groups.specs.declared.naming.Naming.{Naming}
use Rattle.security_groups.specs.declared.vpcs.GroupVpcs.{GroupVpcs}

-- the VPCs of a group beside its own (EC2 API, DescribeSecurityGroupVpcAssociations)
abbrev pub further_of : Description → Group → List (List ℕ)
further_of d g = map (λ x. x.vpc) (filter (λ x. bytes_eq x.group g.id) d.scope.vpcs)

-- the group's own VPC has the number
abbrev pub HasOwn : List (List ℕ) → Group → ℕ → Type 0
HasOwn ids g v = place_of ids g.vpc ≡ Some v

-- the id has a number
abbrev pub HasPlace : List (List ℕ) → GroupVpc → Type 0
HasPlace ids x = (k : ℕ) × (place_of ids x.vpc ≡ Some k)

-- the VPCs of groups by numbers: the own one of each, and a key of the group and the VPC for each further one
pub record HasVpcsOf (d : Description) (v : GroupVpcs) : Type 0 where
  pub few : length v.ids < 2 ^ 32
  pub own : AllZip (HasOwn v.ids) d.groups v.own.items
  pub further : All (HasPlace v.ids) d.scope.vpcs
  pub pairs : (g k : ℕ) → g < length d.groups → k < 2 ^ 32
      → has_pair v.pairs g k ≡ list_any (λ id. is_number (place_of v.ids id) k) (further_of d (group_at d (record { 0 = g })))

-- keys of VPCs that are peered
abbrev pub ArePeers : Description → List (List ℕ) → List ℕ → Type 0
ArePeers d ids peers = (v w : List ℕ) (m k : ℕ) → place_of ids v ≡ Some m → place_of ids w ≡ Some k → has_pair peers m k ≡ are_peers d v w

-- keys of VPCs and of the transit gateways to which they are attached so that rules may name groups
pub record AreAttached (d : Description) (ids : List (List ℕ)) (set : List ℕ) : Type 0 where
  pub gateways : List (List ℕ)
  pub few : length gateways < 2 ^ 32
  pub named : HasIds d.scope.gateways gateways
  pub keys : (v : List ℕ) (m k : ℕ) → place_of ids v ≡ Some m → k < 2 ^ 32
      → has_pair set m k ≡ list_any (λ a. lets_name d a && (bytes_eq a.vpc v && is_number (place_of gateways a.gateway) k)) d.attachments

-- all of these
pub record IsNaming (d : Description) (n : Naming) : Type 0 where
  pub vpcs : HasVpcsOf d n.vpcs
  pub peers : ArePeers d n.vpcs.ids n.peers
  pub attached : AreAttached d n.vpcs.ids n.attached

-- an answer for a rule that counts in the VPC v, about the groups of w
abbrev pub TellsOfVpcs : (Description → List ℕ → List ℕ → Bool) → Naming → ℕ → ℕ → Bool → Type 0
TellsOfVpcs test named vpc own told =
    (d : Description) (v w : List ℕ) → IsNaming d named → place_of named.vpcs.ids v ≡ Some vpc → place_of named.vpcs.ids w ≡ Some own → told ≡ test d v w

-- an answer for a rule that counts in the VPC v, about a group and VPCs to which it belongs
abbrev pub TellsOfGroup : (Description → List ℕ → List ℕ → Bool) → (Description → Group → List (List ℕ)) → Naming → ℕ → ℕ → Bool → Type 0
TellsOfGroup test vpcs_of named vpc g told =
    (d : Description) (v : List ℕ) → IsNaming d named → place_of named.vpcs.ids v ≡ Some vpc → g < length d.groups
    → told ≡ list_any (test d v) (vpcs_of d (group_at d (record { 0 = g })))

-- over a transit gateway, which counts inward
abbrev pub over_transit : Dir → Description → List ℕ → List ℕ → Bool
over_transit dir d v w = is_inward dir && are_over_transit d w v

-- the number is that of a VPC's id
abbrev pub IsVpcNumber : List (List ℕ) → ℕ → Type 0
IsVpcNumber ids v = place_of ids (slice_index_or ids v []) ≡ Some v
