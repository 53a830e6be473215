-- Which places lie in subnets, and at which ACLs are asked.
use Rattle.std.specs.Prelude.{◌∷◌, ◌≡◌, [], List, filter, map, true}
use Rattle.vpc_laws.specs.Onward.{asks_acls, is_in_subnet}
use Rattle.vpc_laws.specs.Types.{Place}
use Rattle.vpc_model.specs.declared.places.Came.TheVariants as came
use Rattle.vpc_model.specs.declared.places.EnterBy.TheVariants as by
use Rattle.vpc_model.specs.declared.places.Place.TheVariants as places

abbrev in_subnets : List Place
in_subnets =
    places.Into (record { 0 = 0 }) ∷ places.NatOut (record { 0 = 0 }) ∷ places.NatIn (record { 0 = 0 }) ∷ places.Inspect (record { 0 = 0 }) ∷ []

abbrev past_acls : List Place
past_acls =
    places.Router (record { 0 = 0 }) (came.Host (record { 0 = 0 })) ∷ places.Enter (record { 0 = 0 }) by.Gateway ∷ []

abbrev elsewhere : List Place
elsewhere =
    places.OutOf (record { 0 = 0 }) ∷ places.IgwOut (record { 0 = 0 }) ∷ places.Internet ∷ places.IgwIn (record { 0 = 0 })
    ∷ places.Peer (record { 0 = 0 }) (record { 0 = 0 }) ∷ places.Tgw (record { 0 = 0 }) (record { 0 = 0 })
    ∷ places.TgwLeave (record { 0 = 0 }) (record { 0 = 0 }) ∷ places.FarOut (record { 0 = 0 }) ∷ places.FarIn (record { 0 = 0 }) ∷ []

-- interfaces, NAT gateways and firewall endpoints are reached in subnets
abbrev pub HostsAndNatGatewaysLieInSubnets : Type 0
HostsAndNatGatewaysLieInSubnets =
    (map is_in_subnet in_subnets ≡ true ∷ true ∷ true ∷ true ∷ [])
    × ((filter is_in_subnet past_acls ≡ []) × (filter is_in_subnet elsewhere ≡ []))

-- routers and entrances ask ACLs
abbrev pub RoutersAndEntrancesAskAcls : Type 0
RoutersAndEntrancesAskAcls =
    (map asks_acls past_acls ≡ true ∷ true ∷ [])
    × ((filter asks_acls in_subnets ≡ []) × (filter asks_acls elsewhere ≡ []))
