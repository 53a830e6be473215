-- Where answers may change in a small network: the cuts of each kind of row, and of the rows that each place asks.
use Rattle.std.specs.List.{list_all, list_any}
use Rattle.std.specs.Prelude.{◌&&◌, ◌++◌, ◌∷◌, ◌≡◌, [], Bool, List, None, Some, codes, false, map, nat_eq, true, ℕ}
use Rattle.vpc_laws.specs.Types.{AttNo, Description, Place, PrefixList, Route}
use Rattle.vpc_model.specs.declared.rows.ApplianceKind.TheVariants as forwards
use Rattle.vpc_model.specs.declared.rows.FarKind.TheVariants as kinds
use Rattle.vpc_model.specs.declared.places.Came.TheVariants as from
use Rattle.vpc_model.specs.declared.places.Place.TheVariants as places
use Rattle.vpc_model.specs.declared.rows.Target.TheVariants as targets
use Rattle.vpc_model.specs.declared.places.EnterBy.TheVariants as through
use Rattle.vpc_base.specs.Cuts.{CutLists}
use Rattle.vpc_examples.specs.Examples.{eni, nat, subnet, vpc}
use Rattle.vpc_examples.specs.Networks.{acl, appliance, bare, block, gateway_table, group, host_with, https_from, list_route, main_table, route, site_attachment, subnet_row, tcp_row, tgw_blackhole, v4}
use Rattle.vpc_model.specs.Cuts.{cuts_at, cuts_of, cuts_of_rule, on_sides, standing_cuts}
use Rattle.vpc_model.specs.Lookup.{no_vpc}

-- one row of each kind that cuts, each with a number of its own
abbrev pub cut_apart : Description
cut_apart = record (bare (record no_vpc { id = codes "vpc-1"; blocks = block (v4 10 0 0 0) 16 ∷ [] } ∷ []) (subnet_row (codes "subnet-a") (codes "vpc-1") (codes "z") ∷ [])) {
  interfaces = host_with (codes "eni-a") (codes "subnet-a") (v4 10 0 1 10) (Some (v4 203 0 113 10)) (codes "sg-a") ∷ [];
  tables = main_table (codes "rtb-1") (codes "vpc-1") (route (block (v4 10 7 0 0) 16) targets.Local ∷ list_route (codes "pl-1") (targets.Other (codes "vpce-1")) ∷ [])
      ∷ gateway_table (codes "rtb-e") (codes "vpc-1") (codes "vgw-1") (route (block (v4 10 4 0 0) 16) targets.Local ∷ []) ∷ [];
  lists = record { id = codes "pl-1"; entries = block (v4 52 0 0 0) 8 ∷ [] } ∷ [];
  acls = acl (codes "acl-1") (codes "subnet-a" ∷ []) (tcp_row 100 false true 22 2000 (block (v4 10 8 0 0) 16) ∷ []) ∷ [];
  groups = group (codes "sg-a") (codes "vpc-1") (record (https_from (block (v4 10 9 0 0) 16)) { proto = Some 50 } ∷ []) [] ∷ [];
  attachments = site_attachment (codes "a") ∷ [];
  associations = record { attachment = codes "att-a"; table = codes "tgw-rtb-1" } ∷ record { attachment = codes "att-vpn"; table = codes "tgw-rtb-1" } ∷ [];
  tgw_tables = record { id = codes "tgw-rtb-1"; routes = tgw_blackhole (block (v4 10 6 0 0) 16) ∷ [] } ∷ [];
  appliances = appliance (codes "eni-a") (forwards.Service 8080 8081) ∷ [];
  fars =
      record { id = codes "pcx-1"; kind = kinds.Peering (block (v4 10 20 0 0) 16 ∷ []) (block (v4 10 30 0 0) 16 ∷ []) }
      ∷ record { id = codes "att-vpn"; kind = kinds.Attachment None } ∷ record { id = codes "vgw-1"; kind = kinds.PrivateGateway (Some (codes "vpc-1")) } ∷ [];
}

-- addresses that are cut in every network: both ends of each non-routable block
abbrev pub unroutable_cuts : List ℕ
unroutable_cuts = v4 0 0 0 0 ∷ v4 1 0 0 0 ∷ v4 10 0 0 0 ∷ v4 11 0 0 0 ∷ v4 127 0 0 0 ∷ v4 128 0 0 0 ∷ v4 169 254 0 0 ∷ v4 169 255 0 0 ∷ v4 172 16 0 0 ∷ v4 172 32 0 0 ∷ v4 192 168 0 0 ∷ v4 192 169 0 0 ∷ v4 224 0 0 0 ∷ []

-- the standing addresses of the network above: those of every network, the VPC's block, both addresses of the interface, the ACL row's block and those of the peering; an appliance's boxes begin at 0
abbrev pub standing_addresses : List ℕ
standing_addresses =
    unroutable_cuts
    ++ (v4 10 0 0 0 ∷ v4 10 1 0 0 ∷ v4 10 0 1 10 ∷ v4 10 0 1 11 ∷ v4 203 0 113 10 ∷ v4 203 0 113 11 ∷ v4 10 8 0 0 ∷ v4 10 9 0 0 ∷ [])
    ++ (0 ∷ 0 ∷ 0 ∷ 0 ∷ 0 ∷ 0 ∷ 0 ∷ 0 ∷ v4 10 20 0 0 ∷ v4 10 21 0 0 ∷ v4 10 30 0 0 ∷ v4 10 31 0 0 ∷ [])

-- ports that are cut in every place: of the echo request, of the ACL row and of the appliance, whose boxes begin at 0
abbrev pub standing_ports : List ℕ
standing_ports = 2048 ∷ 2049 ∷ 22 ∷ 2001 ∷ 0 ∷ 8080 ∷ 8082 ∷ 8080 ∷ 8082 ∷ 0 ∷ 0 ∷ 8080 ∷ 8082 ∷ 8080 ∷ 8082 ∷ 0 ∷ []

-- addresses: a place that asks no row has the standing cuts, an interface's those of its groups besides, a router's those of its
-- table, an entrance's those of the gateway's table, a transit gateway's those of the attachment's table, and so has what comes from a
-- network by an attachment
abbrev pub AddressesAreCutAtPlaces : Type 0
AddressesAreCutAtPlaces =
    let at : Place → List ℕ = (λ p. let c = cuts_at cut_apart p in c.addr) in
    let first_attachment : AttNo = record { 0 = 0 } in
    (at (places.OutOf (eni 0)) ≡ standing_addresses ++ (v4 10 9 0 0 ∷ v4 10 10 0 0 ∷ []))
    × ((at (places.Into (eni 0)) ≡ standing_addresses ++ (v4 10 9 0 0 ∷ v4 10 10 0 0 ∷ []))
    × ((at (places.Router (subnet 0) (from.Host (eni 0))) ≡ standing_addresses ++ (v4 10 7 0 0 ∷ v4 10 8 0 0 ∷ v4 52 0 0 0 ∷ v4 53 0 0 0 ∷ []))
    × ((at (places.Tgw first_attachment (subnet 0)) ≡ standing_addresses ++ (v4 10 6 0 0 ∷ v4 10 7 0 0 ∷ []))
    × ((at (places.Enter (vpc 0) through.Gateway) ≡ standing_addresses)
    × ((at (places.IgwOut (vpc 0)) ≡ standing_addresses)
    × ((at places.Internet ≡ standing_addresses)
    × ((at (places.IgwIn (vpc 0)) ≡ standing_addresses)
    × ((at (places.NatOut (nat 0)) ≡ standing_addresses)
    × ((at (places.NatIn (nat 0)) ≡ standing_addresses)
    × ((at (places.Peer (record { 0 = 0 }) (vpc 0)) ≡ standing_addresses)
    × ((at (places.TgwLeave first_attachment (subnet 0)) ≡ standing_addresses)
    × ((at (places.Enter (vpc 0) (through.Far (record { 0 = 2 }))) ≡ standing_addresses ++ (v4 10 4 0 0 ∷ v4 10 5 0 0 ∷ []))
    × ((at (places.FarIn (record { 0 = 1 })) ≡ standing_addresses ++ (v4 10 6 0 0 ∷ v4 10 7 0 0 ∷ []))
    × ((at (places.FarIn (record { 0 = 0 })) ≡ standing_addresses)
    × ((at (places.FarIn (record { 0 = 2 })) ≡ standing_addresses)
    × ((at (places.FarOut (record { 0 = 1 })) ≡ standing_addresses)
    × (at (places.Inspect (record { 0 = 0 })) ≡ standing_addresses)))))))))))))))))

-- ports and protocols: a place that asks no rule has the standing cuts, an interface's those of its groups besides
abbrev pub PortsAreCutAtPlaces : Type 0
PortsAreCutAtPlaces =
    let q : Place → List ℕ = (λ p. let c = cuts_at cut_apart p in c.q) in
    let protocols : Place → List ℕ = (λ p. let c = cuts_at cut_apart p in c.proto) in
    (q (places.Router (subnet 0) (from.Host (eni 0))) ≡ standing_ports)
    × ((q (places.OutOf (eni 0)) ≡ standing_ports ++ (443 ∷ 444 ∷ []))
    × ((protocols places.Internet ≡ 1 ∷ 2 ∷ 6 ∷ 7 ∷ 17 ∷ 18 ∷ 6 ∷ 7 ∷ 6 ∷ 7 ∷ 6 ∷ 7 ∷ 17 ∷ 18 ∷ 17 ∷ 18 ∷ [])
    × (protocols (places.Into (eni 0)) ≡ 1 ∷ 2 ∷ 6 ∷ 7 ∷ 17 ∷ 18 ∷ 6 ∷ 7 ∷ 6 ∷ 7 ∷ 6 ∷ 7 ∷ 17 ∷ 18 ∷ 17 ∷ 18 ∷ 50 ∷ 51 ∷ [])))

-- a range that ends at 65,535 cuts p at 64,512 all the same, and no side past its end
abbrev pub EdgesPastTheEndCutBelow : Type 0
EdgesPastTheEndCutBelow =
    let c = on_sides (cuts_of_rule (Some 255) 1000 65535 (block (v4 255 0 0 0) 8 ∷ [])) in
    (c.p ≡ 1000 ∷ 64512 ∷ []) × ((c.q ≡ 1000 ∷ []) × ((c.proto ≡ 255 ∷ []) × (c.addr ≡ v4 255 0 0 0 ∷ [])))

-- ---- the cuts of a whole description

-- the number stands in the list
abbrev pub is_in : List ℕ → ℕ → Bool
is_in xs x = list_any (nat_eq x) xs

-- two lists have the same numbers, in whatever order and however often
abbrev pub have_same : List ℕ → List ℕ → Bool
have_same xs ys = list_all (is_in ys) xs && list_all (is_in xs) ys

-- the cuts are exactly these
abbrev pub are_exactly : CutLists → CutLists → Bool
are_exactly a b = have_same a.proto b.proto && (have_same a.addr b.addr && (have_same a.p b.p && have_same a.q b.q))

-- the cuts of a description are those of its rows of every kind, whether a place asks them or not
abbrev pub AllRowsCut : Type 0
AllRowsCut =
    are_exactly (cuts_of cut_apart) (record {
      proto = 1 ∷ 2 ∷ 6 ∷ 7 ∷ 17 ∷ 18 ∷ 50 ∷ 51 ∷ [];
      addr = standing_addresses ++ (v4 10 9 0 0 ∷ v4 10 10 0 0 ∷ v4 10 7 0 0 ∷ v4 10 8 0 0 ∷ v4 52 0 0 0 ∷ v4 53 0 0 0 ∷ v4 10 4 0 0 ∷ v4 10 5 0 0 ∷ v4 10 6 0 0 ∷ v4 10 7 0 0 ∷ []);
      p = 0 ∷ 22 ∷ 443 ∷ 444 ∷ 977 ∷ 1024 ∷ 2001 ∷ 7056 ∷ 7058 ∷ 8080 ∷ 8082 ∷ 64512 ∷ [];
      q = standing_ports ++ (443 ∷ 444 ∷ []);
    })
    ≡ true

-- two prefix lists
abbrev pub two_lists : List PrefixList
two_lists = record { id = codes "pl-1"; entries = block (v4 52 0 0 0) 8 ∷ block (v4 54 0 0 0) 8 ∷ [] } ∷ record { id = codes "pl-2"; entries = block (v4 56 0 0 0) 8 ∷ [] } ∷ []

-- the edges of their entries
abbrev pub entry_cuts : List ℕ
entry_cuts = v4 52 0 0 0 ∷ v4 53 0 0 0 ∷ v4 54 0 0 0 ∷ v4 55 0 0 0 ∷ v4 56 0 0 0 ∷ v4 57 0 0 0 ∷ []

-- a network with them, where a rule names these lists and the table has these routes
abbrev pub with_lists : List (List ℕ) → List Route → Description
with_lists by_rule routes = record cut_apart {
  tables = main_table (codes "rtb-1") (codes "vpc-1") routes ∷ [];
  lists = two_lists;
  groups = group (codes "sg-a") (codes "vpc-1") (record (https_from (block (v4 10 9 0 0) 16)) { lists = by_rule } ∷ []) [] ∷ [];
}

-- which of those edges are cuts
abbrev pub entries_cut : CutLists → List Bool
entries_cut c = map (is_in c.addr) entry_cuts

-- the entries of prefix lists are cuts of the description, also where nothing names the list; at a place those of the lists that its
-- rules or routes name are cuts, and standing cuts are none
abbrev pub PrefixListsCut : Type 0
PrefixListsCut =
    let none : List Bool = false ∷ false ∷ false ∷ false ∷ false ∷ false ∷ [] in
    let first : List Bool = true ∷ true ∷ true ∷ true ∷ false ∷ false ∷ [] in
    let second : List Bool = false ∷ false ∷ false ∷ false ∷ true ∷ true ∷ [] in
    let both : List Bool = true ∷ true ∷ true ∷ true ∷ true ∷ true ∷ [] in
    let named : Description = with_lists (codes "pl-1" ∷ []) (list_route (codes "pl-2") (targets.Other (codes "vpce-1")) ∷ []) in
    let alone : CutLists = cuts_of (record (bare [] []) { lists = two_lists }) in
    (entries_cut (cuts_of (with_lists [] [])) ≡ both)
    × ((have_same alone.addr (unroutable_cuts ++ entry_cuts) ≡ true)
    × ((entries_cut (cuts_of named) ≡ both)
    × ((entries_cut (cuts_at named (places.OutOf (eni 0))) ≡ first)
    × ((entries_cut (cuts_at named (places.Into (eni 0))) ≡ first)
    × ((entries_cut (cuts_at named (places.Router (subnet 0) (from.Host (eni 0)))) ≡ second)
    × (entries_cut (standing_cuts named) ≡ none))))))
