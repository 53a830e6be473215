-- The ids of a description's rows, list by list.
use Rattle.std.specs.Prelude.{◌∷◌, ◌≡◌, [], List, bytes_eq, map, position, ℕ}
use Rattle.vpc_model.specs.declared.rows.Description.{Description}
use Rattle.reference_check.specs.declared.directory.FilterIds.{FilterIds}
use Rattle.reference_check.specs.declared.directory.GatewayIds.{GatewayIds}
use Rattle.reference_check.specs.declared.directory.NetworkIds.{NetworkIds}
use Rattle.reference_check.specs.declared.directory.OutsideIds.{OutsideIds}
use Rattle.reference_check.specs.FirstNumbers.{number_in}

-- of VPCs, subnets, interfaces, tables and prefix lists
abbrev pub network_ids_of : Description → List (List (List ℕ))
network_ids_of d =
    map (λ v. v.id) d.vpcs
    ∷ map (λ s. s.id) d.subnets
    ∷ map (λ e. e.id) d.interfaces
    ∷ map (λ t. t.id) d.tables
    ∷ map (λ l. l.id) d.lists
    ∷ []

-- of ACLs and groups
abbrev pub filter_ids_of : Description → List (List (List ℕ))
filter_ids_of d = map (λ a. a.id) d.acls ∷ map (λ g. g.id) d.groups ∷ []

-- of gateways and what is attached to them, and of appliances
abbrev pub gateway_ids_of : Description → List (List (List ℕ))
gateway_ids_of d =
    map (λ g. g.id) d.igws
    ∷ map (λ n. n.id) d.nats
    ∷ map (λ x. x.id) d.peerings
    ∷ map (λ a. a.id) d.attachments
    ∷ map (λ x. x.attachment) d.associations
    ∷ map (λ t. t.id) d.tgw_tables
    ∷ map (λ a. a.id) d.appliances
    ∷ []

-- what finds the rows of these lists by their ids
pub record AreNetworkIds (d : Description) (n : NetworkIds) : Type 0 where
  pub vpcs : n.vpcs ≡ map (λ v. v.id) d.vpcs
  pub subnets : n.subnets ≡ map (λ s. s.id) d.subnets
  pub interfaces : n.interfaces ≡ map (λ e. e.id) d.interfaces
  pub lists : n.lists ≡ map (λ l. l.id) d.lists

pub record AreFilterIds (d : Description) (n : FilterIds) : Type 0 where
  pub groups : n.groups ≡ map (λ g. g.id) d.groups

pub record AreGatewayIds (d : Description) (n : GatewayIds) : Type 0 where
  pub igws : n.igws ≡ map (λ g. g.id) d.igws
  pub nats : n.nats ≡ map (λ x. x.id) d.nats
  pub peerings : n.peerings ≡ map (λ x. x.id) d.peerings
  pub attachments : n.attachments ≡ map (λ a. a.id) d.attachments
  pub tgw_tables : n.tgw_tables ≡ map (λ t. t.id) d.tgw_tables
  pub appliances : n.appliances ≡ map (λ a. a.id) d.appliances

-- what finds the first row with an id, where ids may stand twice
pub record AreOutsideIds (d : Description) (n : OutsideIds) : Type 0 where
  pub fars : (id : List ℕ) → number_in n.fars id ≡ position (λ f. bytes_eq f.id id) d.fars
  pub firewalls : (id : List ℕ) → number_in n.firewalls id ≡ position (λ e. bytes_eq e.id id) d.firewalls
