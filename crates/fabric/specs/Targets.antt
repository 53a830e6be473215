-- What routes lead to, by its number.
use Rattle.std.specs.Prelude.{List, map, slice_index_or, ℕ}
use Rattle.vpc_laws.specs.Types.{Description, Route, RouteTable, TableNo, Target}
use Rattle.vpc_model.specs.Lookup.{eni_no, igw_no, nat_no, peer_no, table_at}
use Rattle.vpc_model.specs.Step.Router.{no_route}
use Rattle.vpc_model.specs.declared.rows.Target.TheVariants as targets

-- a route of a table
abbrev pub route_at : Description → TableNo → ℕ → Route
route_at d t k = let table = table_at d t in slice_index_or table.routes k no_route

-- the number of the internet gateway, NAT gateway, peering or interface that a target names; 0 for the others
abbrev pub target_number : Description → Target → ℕ
target_number d targets.Local = 0
target_number d (targets.Internet id) = let g = igw_no d id in g.0
target_number d (targets.Nat id) = let n = nat_no d id in n.0
target_number d (targets.Peer id) = let x = peer_no d id in x.0
target_number d (targets.Transit id) = 0
target_number d (targets.Interface id) = let i = eni_no d id in i.0
target_number d (targets.Other id) = 0

-- of each route of a table
abbrev pub targets_of : Description → RouteTable → List ℕ
targets_of d t = map (λ r. target_number d r.target) t.routes

-- of each route of each table
abbrev pub targets_in : Description → List (List ℕ)
targets_in d = map (targets_of d) d.tables
