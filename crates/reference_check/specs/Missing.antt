-- Rows that others name, where they are wanted.
use Rattle.std.specs.List.{flat_map}
use Rattle.std.specs.Prelude.{◌&&◌, ◌++◌, Bool, List, ℕ}
use Rattle.vpc_model.specs.Accepted.{is_side, is_subnet_of, missing_of_acl, missing_of_appliance, missing_of_attachment, missing_of_firewall, missing_of_group, missing_of_igw, missing_of_interface, missing_of_life, missing_of_subnet, missing_of_table, serves_vpc, wanted}
use Rattle.vpc_model.specs.Lookup.{eni_no, has_interface, has_list, has_nat, has_peering, interface_at, nat_at, nat_no, peer_no, peering_at}
use Rattle.vpc_model.specs.declared.refusals.Refusal.{Refusal}
use Rattle.vpc_model.specs.declared.rows.Description.{Description}
use Rattle.vpc_model.specs.declared.rows.Permission.{Permission}

-- a NAT gateway that serves the VPC
abbrev pub has_nat_for : Description → List ℕ → List ℕ → Bool
has_nat_for d vpc id = let n = nat_at d (nat_no d id) in has_nat d id && serves_vpc d vpc n.life

-- a peering that has the VPC on a side, where it is active
abbrev pub has_peering_for : Description → List ℕ → List ℕ → Bool
has_peering_for d vpc id = let x = peering_at d (peer_no d id) in has_peering d id && is_side vpc x.pair

-- an interface of the VPC
abbrev pub has_interface_for : Description → List ℕ → List ℕ → Bool
has_interface_for d vpc id = let e = interface_at d (eni_no d id) in has_interface d id && is_subnet_of d vpc e.subnet

-- the prefix lists of a group's rule
abbrev pub missing_of_rule : Description → List ℕ → Permission → List Refusal
missing_of_rule d group p = flat_map (λ l. wanted (has_list d l) group l) p.lists

-- what subnets, interfaces and tables name and isn't there
abbrev pub missing_networks : Description → List Refusal
missing_networks d =
    flat_map (missing_of_subnet d) d.subnets ++ (flat_map (missing_of_interface d) d.interfaces ++ flat_map (missing_of_table d) d.tables)

-- what ACLs and groups name
abbrev pub missing_filters : Description → List Refusal
missing_filters d = flat_map (missing_of_acl d) d.acls ++ flat_map (missing_of_group d) d.groups

-- what gateways, attachments, appliances and firewall endpoints name
abbrev pub missing_gateways : Description → List Refusal
missing_gateways d =
    flat_map (missing_of_igw d) d.igws
    ++ (flat_map (λ n. missing_of_life d n.id n.life) d.nats
    ++ (flat_map (missing_of_attachment d) d.attachments
    ++ (flat_map (missing_of_appliance d) d.appliances ++ flat_map (missing_of_firewall d) d.firewalls)))

-- all of it
abbrev pub missing_by_part : Description → List Refusal
missing_by_part d = missing_networks d ++ (missing_filters d ++ missing_gateways d)
