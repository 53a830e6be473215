-- Ids that rows name, with the numbers of the rows.
use Rattle.std.specs.Prelude.{◌∷◌, ◌++◌, ◌+◌, ◌≡◌, [], if◌then◌else◌, List, Option, bytes_eq, find, map, option_map, position, ℕ}
use Rattle.reference_check.specs.FirstNumbers.{number_in}
use Rattle.vpc_laws.specs.Types.{Appliance, RouteTable}
use Rattle.vpc_model.specs.Firewalls.{is_behind_endpoint}
use Rattle.fabric.specs.declared.named.Named.{Named}

-- the numbers are the places of the first rows of their ids
abbrev pub ArePlaces : List Named → List (List ℕ × ℕ) → Type 0
ArePlaces rows places = (id : List ℕ) → number_in places id ≡ position (λ r. bytes_eq r.id id) rows

-- the number beside the first row with an id
abbrev pub number_beside : List Named → List ℕ → Option ℕ
number_beside rows id = option_map (λ r. r.number) (find (λ r. bytes_eq r.id id) rows)

-- an id that the row with a number names
abbrev pub named_by : ℕ → List ℕ → Named
named_by k id = record { id = id; number = k }

-- what rows name that are numbered from a number on
abbrev pub named_from : {X : Type 0} → (ℕ → X → List Named) → ℕ → List X → List Named
named_from f k [] = []
named_from f k (x ∷ xs) = f k x ++ named_from f (k + 1) xs

-- the gateways that a route table is associated with (EC2 API, DescribeRouteTables)
abbrev pub by_gateways : ℕ → RouteTable → List Named
by_gateways k t = map (named_by k) t.gateways

-- the endpoint that an appliance stands behind, if it does
abbrev pub by_endpoint : ℕ → Appliance → List Named
by_endpoint k a = if is_behind_endpoint a.at then named_by k a.id ∷ [] else []
