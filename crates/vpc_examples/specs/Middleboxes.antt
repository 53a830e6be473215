-- An appliance between two subnets.
use Rattle.std.specs.Prelude.{◌∷◌, ◌≡◌, [], List, codes, false, true, ℕ}
use Rattle.vpc_laws.specs.Types.{ApplianceKind, Description, Outcome, RouteTable}
use Rattle.vpc_model.specs.declared.places.End.TheVariants as ends
use Rattle.vpc_model.specs.declared.rows.ApplianceKind.TheVariants as forwards
use Rattle.vpc_base.specs.declared.headers.Label.TheVariants as labels
use Rattle.vpc_model.specs.declared.outcomes.Outcome.TheVariants as outcomes
use Rattle.vpc_model.specs.declared.places.Place.TheVariants as places
use Rattle.vpc_model.specs.declared.stops.Stop.TheVariants as stops
use Rattle.vpc_model.specs.declared.rows.Target.TheVariants as targets
use Rattle.vpc_examples.specs.Examples.{eni, first_walk, outcome_of, tcp, walk_after}
use Rattle.vpc_examples.specs.Networks.{acl, allow_all, appliance, block, group, host, https_from, local_1, main_table, open_rows, route, subnet_row, subnet_table, two_subnets, v4}
use Rattle.vpc_examples.specs.Stops.{eni_a, eni_b, open_from_a}
use Rattle.vpc_model.specs.Appliances.{boxes_of_kind, passes}
use Rattle.vpc_model.specs.Walk.{Walk}

abbrev pub with_appliance : ApplianceKind → List RouteTable → Description
with_appliance kind tables = record (two_subnets (acl (codes "acl-1") (codes "subnet-a" ∷ codes "subnet-b" ∷ codes "subnet-f" ∷ []) open_rows ∷ [])) {
  subnets = subnet_row (codes "subnet-a") (codes "vpc-1") (codes "us-east-1a") ∷ subnet_row (codes "subnet-b") (codes "vpc-1") (codes "us-east-1a") ∷ subnet_row (codes "subnet-f") (codes "vpc-1") (codes "us-east-1a") ∷ [];
  interfaces = eni_a ∷ eni_b ∷ record (host (codes "eni-f") (codes "subnet-f") (v4 10 0 4 4) (codes "sg-b")) { groups = []; checked = false } ∷ [];
  tables = main_table (codes "rtb-1") (codes "vpc-1") (local_1 ∷ []) ∷ subnet_table (codes "rtb-a") (codes "vpc-1") (codes "subnet-a") (local_1 ∷ route (block (v4 10 0 2 0) 24) (targets.Interface (codes "eni-f")) ∷ []) ∷ tables;
  groups = group (codes "sg-a") (codes "vpc-1") [] (allow_all ∷ []) ∷ group (codes "sg-b") (codes "vpc-1") (https_from (block (v4 10 0 1 0) 24) ∷ []) [] ∷ [];
  appliances = appliance (codes "eni-f") kind ∷ [];
}

abbrev pub service : ℕ → Description
service port = with_appliance (forwards.Service port port) []

abbrev pub over_appliance : Description → Walk
over_appliance d = first_walk d labels.Opening (places.OutOf (eni 0)) (tcp (v4 10 0 1 10) (v4 10 0 2 20) 5000 443)

abbrev pub over_appliance_back : Description → Walk
over_appliance_back d = walk_after d labels.Answer (over_appliance d) (places.OutOf (eni 1)) (tcp (v4 10 0 2 20) (v4 10 0 1 10) 443 5000)

-- each kind of appliance: all, nothing, from and to a port by TCP or UDP, from and to a block; what is for its own address arrives
abbrev pub AppliancesForward : Type 0
AppliancesForward =
    let h = tcp (v4 10 0 1 10) (v4 10 0 2 20) 5000 443 in
    let over : ApplianceKind → Outcome = (λ kind. outcome_of (over_appliance (with_appliance kind []))) in
    let arrived : Outcome = outcomes.Arrived (ends.Interface (eni 1)) h in
    let dropped : Outcome = outcomes.Stopped (stops.ApplianceDrop (eni 2)) in
    (over forwards.All ≡ arrived)
    × ((over forwards.Nothing ≡ dropped)
    × ((over (forwards.Service 5000 5000) ≡ arrived)
    × ((over (forwards.Service 444 4999) ≡ dropped)
    × ((over (forwards.Peer (block (v4 10 0 1 0) 24)) ≡ arrived)
    × ((over (forwards.Peer (block (v4 10 0 2 0) 24)) ≡ arrived)
    × ((over (forwards.Peer (block (v4 10 0 3 0) 24)) ≡ dropped)
    × ((passes (boxes_of_kind (forwards.Service 443 443)) (record h { proto = 17 }) ≡ true)
    × ((passes (boxes_of_kind (forwards.Service 443 443)) (record h { proto = 1 }) ≡ false)
    × (open_from_a (with_appliance forwards.Nothing []) (record h { dst = v4 10 0 4 4 }) ≡ outcomes.Arrived (ends.Interface (eni 2)) (record h { dst = v4 10 0 4 4 }))))))))))
