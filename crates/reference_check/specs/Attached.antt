-- The tables, ACLs and internet gateways of subnets and VPCs.
use Rattle.std.specs.Prelude.{◌≡◌, Bool, List, Option, false, filter, map, position, true, ℕ}
use Rattle.vpc_model.specs.declared.refusals.Refusal.{Refusal}
use Rattle.vpc_model.specs.declared.refusals.Refusal.TheVariants as refusals
use Rattle.vpc_model.specs.declared.rows.Description.{Description}
use Rattle.vpc_model.specs.declared.rows.Subnet.{Subnet}
use Rattle.vpc_model.specs.Accepted.{holds_twice, is_main_of, is_table_of}
use Rattle.vpc_model.specs.Choice.{or_else}
use Rattle.vpc_model.specs.Lookup.{is_listed, subnet_at}
use Rattle.reference_check.specs.declared.claims.Claim.{Claim}
use Rattle.reference_check.specs.declared.claims.Claim.TheVariants as claim
use Rattle.reference_check.specs.declared.subnets.Attached.{Attached}
use Rattle.reference_check.specs.Claims.{claims_by}

-- no row names the target
abbrev pub is_unclaimed : Claim → Bool
is_unclaimed claim.Unclaimed = true
is_unclaimed (claim.Once r) = false
is_unclaimed (claim.Twice r) = false

-- two rows name the target
abbrev pub is_twice : Claim → Bool
is_twice claim.Unclaimed = false
is_twice (claim.Once r) = false
is_twice (claim.Twice r) = true

-- the table that is associated with a subnet, else the main table of its VPC
abbrev pub chosen_table : Description → Subnet → Option ℕ
chosen_table d s = or_else (position (is_table_of s.id) d.tables) (position (is_main_of s.vpc) d.tables)

-- the table of the subnet with a number
abbrev pub chosen_at : Description → ℕ → Option ℕ
chosen_at d k = chosen_table d (subnet_at d (record { 0 = k }))

-- what is attached to the subnets and VPCs of a description
pub record AreAttached (d : Description) (a : Attached) : Type 0 where
  pub mains : a.mains.items ≡ claims_by is_main_of (map (λ v. v.id) d.vpcs) d.tables
  pub tables : a.tables.items ≡ claims_by is_table_of (map (λ s. s.id) d.subnets) d.tables
  pub acls : a.acls.items ≡ claims_by (λ s x. is_listed s x.subnets) (map (λ s. s.id) d.subnets) d.acls
  pub gateways : a.gateways.items ≡ claims_by (λ v g. is_listed v g.vpcs) (map (λ v. v.id) d.vpcs) d.igws
  pub chosen : a.chosen.items ≡ map (chosen_table d) d.subnets

-- a VPC has two main tables
abbrev pub vpcs_with_two : Description → List Refusal
vpcs_with_two d = map (λ v. refusals.TwoTables v.id) (filter (λ v. holds_twice (is_main_of v.id) d.tables) d.vpcs)

-- a subnet has two tables
abbrev pub subnets_with_two : Description → List Refusal
subnets_with_two d = map (λ s. refusals.TwoTables s.id) (filter (λ s. holds_twice (is_table_of s.id) d.tables) d.subnets)
