-- What the rows of NatGateways mean (EC2 API, DescribeNatGateways).
use Rattle.std.specs.Prelude.{ℕ, Bool, true, false, List, Option, Some, None, codes, position, slice_get, unwrap_or, Result, Ok}
use Rattle.serde_json.specs.Data.{Data}
use Rattle.json_fields.specs.FieldFault.{and_then, in_shape}
use Rattle.json_fields.specs.Fields.{addr_of_field, flag_of, id_if_of, id_of, needed}
use Rattle.json_fields.specs.Kept.{each_item}
use Rattle.json_fields.specs.Paths.{at_member}
use Rattle.json_fields.specs.declared.fault.FieldFault.{FieldFault}
use Rattle.read_gateways.specs.Texts.{text_is}
use Rattle.vpc_model.specs.declared.rows.NatGateway.{NatGateway}
use Rattle.vpc_model.specs.declared.rows.NatLife.{NatLife}
use Rattle.vpc_model.specs.declared.rows.NatLife.TheVariants.{Gone, Unmodelled, Live}
use Rattle.read_gateways.specs.declared.nat.NatAddress.{NatAddress}

-- an address of a gateway, on its interface
abbrev pub nat_address_of : Data → List ℕ → Result NatAddress FieldFault
nat_address_of row path =
    and_then (id_of row path (codes "NetworkInterfaceId")) (λ eni.
    and_then (needed addr_of_field row path (codes "PrivateIp")) (λ address.
    and_then (flag_of row path (codes "IsPrimary")) (λ primary.
    Ok (record { eni = eni; address = address; primary = unwrap_or primary false }))))

-- the number of the first address that is primary
abbrev pub primary_number : List NatAddress → Option ℕ
primary_number addresses = position (λ a. a.primary) addresses

-- the address by which a gateway translates: the first primary one, or else the first (profile)
abbrev pub chosen_address : List NatAddress → Option NatAddress
chosen_address addresses = slice_get addresses (unwrap_or (primary_number addresses) 0)

-- a gateway in this subnet, which has an address
abbrev pub live_of : List ℕ → Data → List ℕ → Result NatLife FieldFault
live_of subnet row path =
    and_then (each_item nat_address_of row path (codes "NatGatewayAddresses")) (λ addresses.
    and_then (in_shape (at_member path (codes "NatGatewayAddresses")) (chosen_address addresses)) (λ chosen.
    Ok (Live subnet chosen.eni chosen.address)))

-- a gateway in this subnet, or in none: its addresses aren't read then
abbrev pub life_within : Option (List ℕ) → Data → List ℕ → Result NatLife FieldFault
life_within None row path = Ok Unmodelled
life_within (Some subnet) row path = live_of subnet row path

-- a gateway that is available, or isn't: nothing more is read of it then
abbrev pub life_if : Bool → Data → List ℕ → Result NatLife FieldFault
life_if false row path = Ok Gone
life_if true row path = and_then (id_if_of row path (codes "SubnetId")) (λ subnet. life_within subnet row path)

-- a gateway
abbrev pub nat_gateway_of : Data → List ℕ → Result NatGateway FieldFault
nat_gateway_of row path =
    and_then (id_of row path (codes "NatGatewayId")) (λ id.
    and_then (text_is (codes "available") row path (codes "State")) (λ available.
    and_then (life_if available row path) (λ life.
    Ok (record { id = id; life = life }))))
