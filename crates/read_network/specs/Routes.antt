-- What the routes of a route table mean (EC2 API, Route).
use Rattle.std.specs.Prelude.{ℕ, ◌∷◌, List, [], Option, Some, None, Result, Ok, Err, bytes_eq, codes, is_some, nat_eq, if◌then◌else◌}
use Rattle.std.specs.List.{starts_with}
use Rattle.serde_json.specs.Data.{Data}
use Rattle.json_fields.specs.FieldFault.{and_then}
use Rattle.json_fields.specs.Fields.{has_text, id_if_of, member_of, prefix_of_field}
use Rattle.json_fields.specs.declared.fault.FieldFault.{FieldFault}
use Rattle.json_fields.specs.declared.fault.FieldFault.TheVariants.{WrongShape}
use Rattle.prefix_text.specs.Block.{Block}
use Rattle.vpc_model.specs.declared.rows.Reach.{Reach}
use Rattle.vpc_model.specs.declared.rows.Reach.TheVariants.{Block as ByBlock, List as ByList}
use Rattle.vpc_model.specs.declared.rows.Route.{Route}
use Rattle.vpc_model.specs.declared.rows.Target.{Target}
use Rattle.vpc_model.specs.declared.rows.Target.TheVariants as targets

-- ---- destinations

-- a route to a prefix list; one to IPv6 addresses alone is none, and one without a destination is a fault
abbrev pub reach_by_list : Data → List ℕ → Option (List ℕ) → Result (Option Reach) FieldFault
reach_by_list row path (Some list) = Ok (Some (ByList list))
reach_by_list row path None = if is_some (member_of row (codes "DestinationIpv6CidrBlock")) then Ok None else Err (WrongShape path)

-- what a route without a block serves
abbrev pub reach_else : Data → List ℕ → Result (Option Reach) FieldFault
reach_else row path = and_then (id_if_of row path (codes "DestinationPrefixListId")) (reach_by_list row path)

-- a route to a block, or to what else the row names
abbrev pub reach_by_block : Data → List ℕ → Option Block → Result (Option Reach) FieldFault
reach_by_block row path (Some block) = Ok (Some (ByBlock block))
reach_by_block row path None = reach_else row path

-- what a route serves; nothing where it serves IPv6 addresses alone
abbrev pub reach_of : Data → List ℕ → Result (Option Reach) FieldFault
reach_of row path = and_then (prefix_of_field row path (codes "DestinationCidrBlock")) (reach_by_block row path)

-- ---- targets

-- a field that may name the target, and what an id there stands for
abbrev pub Choice : Type 0
Choice = List ℕ × (List ℕ → Target)

-- what the id of a gateway stands for
abbrev pub gateway_target : List ℕ → Target
gateway_target id =
    if bytes_eq id (codes "local") then targets.Local
    else (if starts_with nat_eq id (codes "igw-") then targets.Internet id else targets.Other id)

-- fields whose targets aren't followed (profile)
abbrev pub unfollowed : List Choice
unfollowed =
    (codes "InstanceId", λ id. targets.Other id)
    ∷ (codes "LocalGatewayId", λ id. targets.Other id)
    ∷ (codes "CarrierGatewayId", λ id. targets.Other id)
    ∷ (codes "EgressOnlyInternetGatewayId", λ id. targets.Other id)
    ∷ (codes "CoreNetworkArn", λ id. targets.Other id)
    ∷ []

-- the fields in the order in which they are looked for
abbrev pub choices : List Choice
choices =
    (codes "GatewayId", gateway_target)
    ∷ (codes "NatGatewayId", λ id. targets.Nat id)
    ∷ (codes "TransitGatewayId", λ id. targets.Transit id)
    ∷ (codes "VpcPeeringConnectionId", λ id. targets.Peer id)
    ∷ (codes "NetworkInterfaceId", λ id. targets.Interface id)
    ∷ unfollowed

-- the target, where the id is there, or the other one
abbrev pub target_or : Option (List ℕ) → (List ℕ → Target) → Result Target FieldFault → Result Target FieldFault
target_or (Some id) meaning other = Ok (meaning id)
target_or None meaning other = other

-- the target by the first of the fields that is there, and another named `none` where none is (profile)
abbrev pub first_target : List Choice → Data → List ℕ → Result Target FieldFault
first_target [] row path = Ok (targets.Other (codes "none"))
first_target (choice ∷ others) row path =
    and_then (id_if_of row path choice.0) (λ id. target_or id choice.1 (first_target others row path))

-- the target of a route
abbrev pub target_of : Data → List ℕ → Result Target FieldFault
target_of = first_target choices

-- ---- the whole row

-- a route that serves these destinations
abbrev pub route_to : Data → List ℕ → Reach → Result (Option Route) FieldFault
route_to row path reach =
    and_then (target_of row path) (λ target.
    and_then (has_text (codes "blackhole") row path (codes "State")) (λ blackhole.
    and_then (has_text (codes "EnableVgwRoutePropagation") row path (codes "Origin")) (λ propagated.
    Ok (Some (record { reach = reach; target = target; blackhole = blackhole; propagated = propagated })))))

-- a route, where it serves something
abbrev pub route_if : Data → List ℕ → Option Reach → Result (Option Route) FieldFault
route_if row path None = Ok None
route_if row path (Some reach) = route_to row path reach

-- a route; one to IPv6 addresses alone is dropped
abbrev pub route_of : Data → List ℕ → Result (Option Route) FieldFault
route_of row path = and_then (reach_of row path) (route_if row path)
