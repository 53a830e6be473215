-- What changes of worked networks open and close.
use Rattle.std.specs.Prelude.{◌≡◌, ◌++◌, ◌∷◌, [], Err, None, Ok, Option, Some, codes, map, ℕ}
use Rattle.block_report.specs.Words.{line_end}
use Rattle.journey_changes.specs.Fates.{Fate}
use Rattle.journey_changes.specs.declared.changes.Change.{Change}
use Rattle.journey_changes.specs.declared.changes.Change.TheVariants as changes
use Rattle.journey_changes.specs.declared.fates.Barrier.TheVariants as barriers
use Rattle.vpc_examples.specs.Examples.{eni, tcp}
use Rattle.vpc_examples.specs.Networks.{high_ports_only, v4}
use Rattle.vpc_laws.specs.Types.{Box5, End, Header, Stop}
use Rattle.vpc_model.specs.declared.outcomes.Phase.TheVariants as phases
use Rattle.vpc_model.specs.declared.places.End.TheVariants as ends
use Rattle.vpc_model.specs.declared.stops.Stop.TheVariants as stops
use Rattle.change_examples.specs.Networks.{change_for, change_toward, fates_for, gone_from, in_other_order, new_at, numbered_in, plain, routed_both_ways, routed_one_way, second_made_anew, unrouted, with_a_range, with_a_range_in_two, with_a_third_host, with_port_80}
use Rattle.changed_ends.specs.Asked.{hosts_of_either, own_sources}
use Rattle.listing_text.specs.Sides.{alone}
use Rattle.change_report.specs.Texts.{row_line}

-- TCP from the first host to the second
abbrev pub to_b : ℕ → ℕ → Header
to_b p q = tcp (v4 10 0 1 10) (v4 10 0 2 20) p q

abbrev pub first : End
first = ends.Interface (eni 0)

abbrev pub second : End
second = ends.Interface (eni 1)

-- the box of TCP from a host to the second one, by ranges of ports
abbrev pub box_to_b : ℕ → ℕ × ℕ → ℕ × ℕ → Box5
box_to_b src p q = record { proto = (6, 6); src = (src, src); dst = (v4 10 0 2 20, v4 10 0 2 20); p = p; q = q }

-- ---- rules

-- a rule that is added opens its port, and other ports stay as they were
abbrev pub RuleOpens : Type 0
RuleOpens =
    let told : Change = changes.Opened second (barriers.Stopped phases.Request (stops.GroupsIn (eni 1))) in
    (change_for plain with_port_80 (numbered_in 0 0) (to_b 5000 80) ≡ Some told)
    × ((change_for plain with_port_80 (numbered_in 0 0) (to_b 5000 443) ≡ None)
    × ((change_for plain with_port_80 (numbered_in 0 0) (to_b 5000 81) ≡ None)
    × (row_line plain with_port_80 1 (codes "eni-a") (record { word = told; part = box_to_b (v4 10 0 1 10) (0, 65535) (80, 80) })
    ≡ codes "row 1 eni-a opened eni-b request GroupsIn eni-b - 6-6 10.0.1.10-10.0.1.10 10.0.2.20-10.0.2.20 0-65535 80-80" ++ line_end)))

-- a rule that is taken out closes its port
abbrev pub RuleCloses : Type 0
RuleCloses =
    let told : Change = changes.Closed second (barriers.Stopped phases.Request (stops.GroupsIn (eni 1))) in
    (change_for with_port_80 plain (numbered_in 0 0) (to_b 5000 80) ≡ Some told)
    × (row_line with_port_80 plain 1 (codes "eni-a") (record { word = told; part = box_to_b (v4 10 0 1 10) (0, 65535) (80, 80) })
    ≡ codes "row 1 eni-a closed eni-b request GroupsIn eni-b - 6-6 10.0.1.10-10.0.1.10 10.0.2.20-10.0.2.20 0-65535 80-80" ++ line_end)

-- a rule that is split in two changes nothing: what reached the second host does so still, and what was stopped still is
abbrev pub SplitChangesNothing : Type 0
SplitChangesNothing =
    let reaches : Fate = Ok second in
    let stops_at : Fate = Err (barriers.Stopped phases.Request (stops.GroupsIn (eni 1))) in
    let changed : ℕ → Option Change = (λ q. change_for with_a_range with_a_range_in_two (numbered_in 0 0) (to_b 5000 q)) in
    let fates : ℕ → Fate × Fate = (λ q. fates_for with_a_range with_a_range_in_two (numbered_in 0 0) (to_b 5000 q)) in
    (map changed (79 ∷ 80 ∷ 199 ∷ 200 ∷ 443 ∷ 444 ∷ []) ≡ None ∷ None ∷ None ∷ None ∷ None ∷ None ∷ [])
    × ((map fates (80 ∷ 199 ∷ 200 ∷ 443 ∷ []) ≡ (reaches, reaches) ∷ (reaches, reaches) ∷ (reaches, reaches) ∷ (reaches, reaches) ∷ [])
    × (map fates (79 ∷ 444 ∷ []) ≡ (stops_at, stops_at) ∷ (stops_at, stops_at) ∷ []))

-- an ACL that refuses replies to low ports closes what is sent from these
abbrev pub AclCloses : Type 0
AclCloses =
    let told : Change = changes.Closed second (barriers.Stopped phases.Reply (stops.AclOut (record { 0 = 1 }) 32767)) in
    (change_for plain high_ports_only (numbered_in 0 0) (to_b 32767 443) ≡ Some told)
    × ((change_for plain high_ports_only (numbered_in 0 0) (to_b 32768 443) ≡ None)
    × (row_line plain high_ports_only 1 (codes "eni-a") (record { word = told; part = box_to_b (v4 10 0 1 10) (0, 32767) (443, 443) })
    ≡ codes "row 1 eni-a closed eni-b reply AclOut acl-b 32767 6-6 10.0.1.10-10.0.1.10 10.0.2.20-10.0.2.20 0-32767 443-443" ++ line_end))

-- ---- routes

-- a request from the host of the first VPC to that of the second
abbrev pub to_peer : Header
to_peer = tcp (v4 10 1 1 10) (v4 10 2 1 10) 5000 443

-- a request from the host of the second VPC to that of the first
abbrev pub from_peer : Header
from_peer = tcp (v4 10 2 1 10) (v4 10 1 1 10) 5000 443

-- the stops where the table of the first or the second VPC has no route
abbrev pub no_route_of_a : Stop
no_route_of_a = stops.NoRoute (record { 0 = 0 })

abbrev pub no_route_of_b : Stop
no_route_of_b = stops.NoRoute (record { 0 = 1 })

-- a route one way over a peering opens nothing, since replies have none; nor does it close anything when it is taken out
abbrev pub OneWayChangesNothing : Type 0
OneWayChangesNothing =
    (change_for unrouted routed_one_way (numbered_in 0 0) to_peer ≡ None)
    × ((change_for unrouted routed_one_way (numbered_in 1 1) from_peer ≡ None)
    × ((change_for routed_one_way unrouted (numbered_in 0 0) to_peer ≡ None)
    × ((fates_for unrouted routed_one_way (numbered_in 0 0) to_peer ≡ (Err (barriers.Stopped phases.Request no_route_of_a), Err (barriers.Stopped phases.Reply no_route_of_b)))
    × (fates_for unrouted routed_one_way (numbered_in 1 1) from_peer ≡ (Err (barriers.Stopped phases.Request no_route_of_b), Err (barriers.Stopped phases.Request no_route_of_b))))))

-- routes both ways over a peering open requests from either side
abbrev pub BothWaysOpen : Type 0
BothWaysOpen =
    (change_for unrouted routed_both_ways (numbered_in 0 0) to_peer ≡ Some (changes.Opened second (barriers.Stopped phases.Request no_route_of_a)))
    × (change_for unrouted routed_both_ways (numbered_in 1 1) from_peer ≡ Some (changes.Opened first (barriers.Stopped phases.Request no_route_of_b)))

-- where there was a route one way over a peering, the route back opens requests from either side: it was missing for the replies to the
-- one and for the requests of the other
abbrev pub WayBackOpens : Type 0
WayBackOpens =
    let of_a : Change = changes.Opened second (barriers.Stopped phases.Reply no_route_of_b) in
    let of_b : Change = changes.Opened first (barriers.Stopped phases.Request no_route_of_b) in
    let box : ℕ → ℕ → Box5 = (λ src dst. record { proto = (6, 6); src = (src, src); dst = (dst, dst); p = (0, 65535); q = (443, 443) }) in
    (change_for routed_one_way routed_both_ways (numbered_in 0 0) to_peer ≡ Some of_a)
    × ((change_for routed_one_way routed_both_ways (numbered_in 1 1) from_peer ≡ Some of_b)
    × ((row_line routed_one_way routed_both_ways 1 (codes "eni-a") (record { word = of_a; part = box (v4 10 1 1 10) (v4 10 2 1 10) })
    ≡ codes "row 1 eni-a opened eni-b reply NoRoute rtb-b - 6-6 10.1.1.10-10.1.1.10 10.2.1.10-10.2.1.10 0-65535 443-443" ++ line_end)
    × (row_line routed_one_way routed_both_ways 2 (codes "eni-b") (record { word = of_b; part = box (v4 10 2 1 10) (v4 10 1 1 10) })
    ≡ codes "row 2 eni-b opened eni-a request NoRoute rtb-b - 6-6 10.2.1.10-10.2.1.10 10.1.1.10-10.1.1.10 0-65535 443-443" ++ line_end)))

-- ---- hosts

-- a host that is added opens what it sends, where it was no start before
abbrev pub NewHostOpens : Type 0
NewHostOpens =
    let told : Change = changes.Opened second barriers.Absent in
    (change_for plain with_a_third_host (new_at 2) (tcp (v4 10 0 1 30) (v4 10 0 2 20) 5000 443) ≡ Some told)
    × ((hosts_of_either plain with_a_third_host ≡ numbered_in 0 0 ∷ numbered_in 1 1 ∷ new_at 2 ∷ [])
    × (row_line plain with_a_third_host 1 (codes "eni-c") (record { word = told; part = box_to_b (v4 10 0 1 30) (0, 65535) (443, 443) })
    ≡ codes "row 1 eni-c opened eni-b request Absent eni-c - 6-6 10.0.1.30-10.0.1.30 10.0.2.20-10.0.2.20 0-65535 443-443" ++ line_end))

-- a host that is taken out closes what it sent, since it is no start afterwards
abbrev pub GoneHostCloses : Type 0
GoneHostCloses =
    let told : Change = changes.Closed second barriers.Absent in
    (change_for with_a_third_host plain (gone_from 2) (tcp (v4 10 0 1 30) (v4 10 0 2 20) 5000 443) ≡ Some told)
    × (row_line with_a_third_host plain 1 (codes "eni-c") (record { word = told; part = box_to_b (v4 10 0 1 30) (0, 65535) (443, 443) })
    ≡ codes "row 1 eni-c closed eni-b request Absent eni-c - 6-6 10.0.1.30-10.0.1.30 10.0.2.20-10.0.2.20 0-65535 443-443" ++ line_end)

-- a host that is made anew under another id with the same address is another end; toward the host that is gone it is a wrong place
abbrev pub HostIsMoved : Type 0
HostIsMoved =
    let told : Change = changes.Moved second second in
    let gone : Change = changes.Closed second (barriers.Stopped phases.Request (stops.WrongPlace second)) in
    (change_for plain second_made_anew (numbered_in 0 0) (to_b 5000 443) ≡ Some told)
    × ((change_toward plain second_made_anew (gone_from 1) (numbered_in 0 0) (to_b 5000 443) ≡ Some gone)
    × ((row_line plain second_made_anew 1 (codes "eni-a") (record { word = told; part = box_to_b (v4 10 0 1 10) (0, 65535) (443, 443) })
    ≡ codes "row 1 eni-a moved eni-b eni-b2 6-6 10.0.1.10-10.0.1.10 10.0.2.20-10.0.2.20 0-65535 443-443" ++ line_end)
    × (row_line plain second_made_anew 1 (codes "eni-a") (record { word = gone; part = box_to_b (v4 10 0 1 10) (0, 65535) (443, 443) })
    ≡ codes "row 1 eni-a closed eni-b request WrongPlace eni-b2 - 6-6 10.0.1.10-10.0.1.10 10.0.2.20-10.0.2.20 0-65535 443-443" ++ line_end)))

-- hosts are known by their ids, in whatever order they are described
abbrev pub OrderChangesNothing : Type 0
OrderChangesNothing =
    (change_for plain in_other_order (numbered_in 0 1) (to_b 5000 443) ≡ None)
    × ((fates_for plain in_other_order (numbered_in 0 1) (to_b 5000 443) ≡ (Ok second, Ok first))
    × (hosts_of_either plain in_other_order ≡ numbered_in 0 1 ∷ numbered_in 1 0 ∷ []))

-- a start of one network alone sends from the address that it has there
abbrev pub SourcesOfEither : Type 0
SourcesOfEither =
    (own_sources plain with_a_third_host (new_at 2) ≡ alone (v4 10 0 1 30) ∷ [])
    × ((own_sources plain with_a_third_host (numbered_in 0 0) ≡ alone (v4 10 0 1 10) ∷ [])
    × (own_sources plain with_a_third_host (numbered_in 0 2) ≡ alone (v4 10 0 1 10) ∷ alone (v4 10 0 1 30) ∷ []))
