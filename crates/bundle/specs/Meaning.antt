-- What a bundle means: the description of a network, or the first reason why it describes none.
use Rattle.std.specs.Prelude.{◌≡◌, Bool, Err, List, None, Ok, Option, Result, Some, false, true, ℕ}
use Rattle.serde_json.specs.Data.{Data}
use Rattle.json_fields.specs.FieldFault.{and_then}
use Rattle.json_fields.specs.declared.fault.FieldFault.TheVariants as faults
use Rattle.bundle.specs.Types.{Acl, Appliance, Description, FieldFault, FilterRows, GatewayRows, Group, GroupScope, NetworkRows, OutsideRows, Refusal}
use Rattle.vpc_model.specs.declared.refusals.Refusal.TheVariants as refusals
use Rattle.vpc_model.specs.Accepted.{refusal_of}
use Rattle.read_network.specs.Appliances.{appliances_of}
use Rattle.read_network.specs.Network.{network_of}
use Rattle.read_filters.specs.Filters.{filters_of}
use Rattle.read_filters.specs.GroupRules.{group_rules_of}
use Rattle.read_gateways.specs.Gateways.{gateways_of}
use Rattle.read_gateways.specs.Outside.{outside_of}
use Rattle.read_gateways.specs.Scope.{scope_of}
use Rattle.bundle.specs.Instances.{instances_of}
use Rattle.bundle.specs.Json.{IsJson, IsNoJson}
use Rattle.bundle.specs.declared.refusal.BundleRefusal.{BundleRefusal}
use Rattle.bundle.specs.declared.refusal.BundleRefusal.TheVariants as causes

-- ---- the rows of a bundle

-- the rows of all lists
abbrev pub with_rows : NetworkRows → List Acl → List Group → GatewayRows → List Appliance → OutsideRows → GroupScope → Description
with_rows network acls groups gateways appliances outside scope =
    record {
      vpcs = network.vpcs;
      subnets = network.subnets;
      interfaces = network.interfaces;
      tables = network.tables;
      lists = network.lists;
      acls = acls;
      groups = groups;
      igws = gateways.igws;
      nats = gateways.nats;
      peerings = gateways.peerings;
      attachments = gateways.attachments;
      associations = gateways.associations;
      tgw_tables = gateways.tgw_tables;
      appliances = appliances;
      fars = outside.fars;
      firewalls = outside.firewalls;
      scope = scope;
    }

-- the description of these rows, with what a bundle tells apart from them: the rules of groups, networks that it doesn't
-- describe, the instances of interfaces, and where groups count beside their own VPC (EC2 API, DescribeSecurityGroupRules,
-- DescribeInstances and those of the others)
abbrev pub with_later_lists : Data → NetworkRows → FilterRows → GatewayRows → List Appliance → Result Description FieldFault
with_later_lists bundle network filters gateways appliances =
    and_then (group_rules_of bundle filters.groups) (λ groups.
    and_then (outside_of bundle) (λ outside.
    and_then (instances_of bundle network.interfaces) (λ interfaces.
    and_then (scope_of bundle) (λ scope.
    Ok (with_rows (record network { interfaces = interfaces }) filters.acls groups gateways appliances outside scope)))))

-- the description that a bundle gives, or its first fault, in the order of reading (profile)
abbrev pub description_of : Data → Result Description FieldFault
description_of bundle =
    and_then (network_of bundle) (λ network.
    and_then (filters_of bundle) (λ filters.
    and_then (gateways_of bundle) (λ gateways.
    and_then (appliances_of bundle) (λ appliances.
    with_later_lists bundle network filters gateways appliances))))

-- ---- the first reason against one

-- a fault of a field
abbrev pub of_fault : FieldFault → BundleRefusal
of_fault (faults.WrongShape path) = causes.WrongShape path
of_fault (faults.BadText path) = causes.BadText path
of_fault faults.Memory = causes.Memory

-- rows that make no network
abbrev pub of_refusal : Refusal → BundleRefusal
of_refusal refusals.Memory = causes.Memory
of_refusal cause = causes.Rows cause

-- the description, unless something is wrong with it
abbrev pub accepted : Description → Option Refusal → Result Description BundleRefusal
accepted d None = Ok d
accepted d (Some cause) = Err (of_refusal cause)

-- the description that was read, where it is accepted, or what is wrong first
abbrev pub judged : Result Description FieldFault → Result Description BundleRefusal
judged (Ok d) = accepted d (refusal_of d)
judged (Err fault) = Err (of_fault fault)

-- the network that the JSON value of a bundle describes, or the first reason against one
abbrev pub meaning_of : Data → Result Description BundleRefusal
meaning_of bundle = judged (description_of bundle)

-- ---- answers

-- the answer is what is meant, or memory was wanting
abbrev pub IsMeantBy : Result Description BundleRefusal → Result Description BundleRefusal → Type 0
IsMeantBy meant (Ok d) = meant ≡ Ok d
IsMeantBy meant (Err causes.NotJson) = meant ≡ Err causes.NotJson
IsMeantBy meant (Err (causes.WrongShape path)) = meant ≡ Err (causes.WrongShape path)
IsMeantBy meant (Err (causes.BadText path)) = meant ≡ Err (causes.BadText path)
IsMeantBy meant (Err (causes.Rows cause)) = meant ≡ Err (causes.Rows cause)
IsMeantBy meant (Err causes.Memory) = Unit {0}

-- the bytes are JSON, and this is what their value means
pub record Means (bytes : List ℕ) (answer : Result Description BundleRefusal) : Type 0 where
  pub value : Data
  pub json : IsJson bytes value
  pub meaning : meaning_of value ≡ answer

-- the first reason why the bytes describe no network
abbrev pub IsCause : List ℕ → BundleRefusal → Type 0
IsCause bytes causes.NotJson = IsNoJson bytes
IsCause bytes (causes.WrongShape path) = Means bytes (Err (causes.WrongShape path))
IsCause bytes (causes.BadText path) = Means bytes (Err (causes.BadText path))
IsCause bytes (causes.Rows cause) = Means bytes (Err (causes.Rows cause))
IsCause bytes causes.Memory = ⊥

-- memory was wanting
abbrev pub is_memory : BundleRefusal → Bool
is_memory causes.NotJson = false
is_memory (causes.WrongShape path) = false
is_memory (causes.BadText path) = false
is_memory (causes.Rows cause) = false
is_memory causes.Memory = true

-- this reason was told, or memory was wanting
abbrev pub IsToldOf : List ℕ → BundleRefusal → Type 0
IsToldOf bytes causes.NotJson = IsCause bytes causes.NotJson
IsToldOf bytes (causes.WrongShape path) = IsCause bytes (causes.WrongShape path)
IsToldOf bytes (causes.BadText path) = IsCause bytes (causes.BadText path)
IsToldOf bytes (causes.Rows cause) = IsCause bytes (causes.Rows cause)
IsToldOf bytes causes.Memory = Unit {0}

-- the answer is what the bytes of a bundle mean, or memory was wanting
abbrev pub IsDescribedBy : List ℕ → Result Description BundleRefusal → Type 0
IsDescribedBy bytes (Ok d) = Means bytes (Ok d)
IsDescribedBy bytes (Err cause) = IsToldOf bytes cause

-- the bytes are the JSON text of no value, or memory was wanting
abbrev pub IsUnread : List ℕ → BundleRefusal → Type 0
IsUnread bytes causes.NotJson = IsNoJson bytes
IsUnread bytes (causes.WrongShape path) = ⊥
IsUnread bytes (causes.BadText path) = ⊥
IsUnread bytes (causes.Rows cause) = ⊥
IsUnread bytes causes.Memory = Unit {0}
