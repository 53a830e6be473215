-- What is printed of queries in small networks.
use Rattle.std.specs.Prelude.{◌∷◌, ◌≡◌, [], List, None, Option, Some, codes, option_map, ℕ}
use Rattle.vpc_laws.specs.Types.{Box5, Description, End, StopText, Verdict}
use Rattle.vpc_model.specs.declared.places.End.TheVariants as ends
use Rattle.vpc_model.specs.declared.stops.StopName.TheVariants as names
use Rattle.vpc_model.specs.declared.outcomes.Phase.TheVariants as phases
use Rattle.vpc_examples.specs.Examples.{a_to_c, eni, tcp, verdict_in}
use Rattle.vpc_examples.specs.Networks.{acl_1, high_ports_only, two_subnets, v4}
use Rattle.report_examples.specs.Printed.{lines}
use Rattle.vpc_model.specs.Report.{ending_of}
use Rattle.block_report.specs.Reports.{more_text, reachable_text, report_text}
use Rattle.block_report.specs.Walks.{told_text}

-- TCP from eni-a to eni-b, from these source ports to these ports
abbrev pub a_to_b : ℕ × ℕ → ℕ × ℕ → Box5
a_to_b p q = record { proto = (6, 6); src = (v4 10 0 1 10, v4 10 0 1 10); dst = (v4 10 0 2 20, v4 10 0 2 20); p = p; q = q }

abbrev pub from_a : End
from_a = ends.Interface (eni 0)

abbrev pub to_b : End
to_b = ends.Interface (eni 1)

-- a request that arrives and whose reply returns
abbrev pub PrintsReachable : Type 0
PrintsReachable =
    reachable_text (two_subnets (acl_1 ∷ [])) [] from_a to_b (a_to_c 0)
    ≡ lines (codes "reachable"
    ∷ codes "packet tcp 10.0.1.10 10.0.2.20 0 443"
    ∷ codes "request"
    ∷ codes "hop 1 out eni-a tcp 10.0.1.10 10.0.2.20 0 443 by sg-a out 1"
    ∷ codes "hop 2 router subnet-a tcp 10.0.1.10 10.0.2.20 0 443"
    ∷ codes "hop 3 in eni-b tcp 10.0.1.10 10.0.2.20 0 443 by sg-b in 1"
    ∷ codes "arrived eni-b"
    ∷ codes "reply"
    ∷ codes "hop 1 out eni-b tcp 10.0.2.20 10.0.1.10 443 0 by tracked"
    ∷ codes "hop 2 router subnet-b tcp 10.0.2.20 10.0.1.10 443 0"
    ∷ codes "hop 3 in eni-a tcp 10.0.2.20 10.0.1.10 443 0 by tracked"
    ∷ codes "arrived eni-a"
    ∷ [])

-- what is printed of a verdict
abbrev pub ending_told : Description → Verdict → Option (List ℕ)
ending_told d v = option_map told_text (ending_of d v)

-- a request to a port that no rule opens, and a reply to a port that the ACL closes
abbrev pub StopsAreTold : Type 0
StopsAreTold =
    (ending_told (two_subnets (acl_1 ∷ [])) (verdict_in (two_subnets (acl_1 ∷ [])) from_a to_b (tcp (v4 10 0 1 10) (v4 10 0 2 20) 0 80))
    ≡ Some (codes "request GroupsIn eni-b -"))
    × (ending_told high_ports_only (verdict_in high_ports_only from_a to_b (a_to_c 1023))
    ≡ Some (codes "reply AclOut acl-b 32767"))
    × (ending_told (two_subnets (acl_1 ∷ [])) (verdict_in (two_subnets (acl_1 ∷ [])) from_a to_b (a_to_c 0)) ≡ None)

-- a report of one row
abbrev pub PrintsReport : Type 0
PrintsReport =
    report_text (two_subnets (acl_1 ∷ [])) from_a to_b (a_to_b (0, 65535) (80, 80)) (record { word = record { phase = phases.Request; name = names.GroupsIn; id = codes "eni-b"; rule = codes "-" }; part = a_to_b (0, 65535) (80, 80) } ∷ [])
    ≡ lines (codes "vpc-report 1"
    ∷ codes "query from eni-a to eni-b"
    ∷ codes "box 6-6 10.0.1.10-10.0.1.10 10.0.2.20-10.0.2.20 0-65535 80-80"
    ∷ codes "row 1 request GroupsIn eni-b - 6-6 10.0.1.10-10.0.1.10 10.0.2.20-10.0.2.20 0-65535 80-80"
    ∷ codes "end 1"
    ∷ [])

-- rows that leave a header out
abbrev pub PrintsMore : Type 0
PrintsMore =
    more_text (two_subnets (acl_1 ∷ [])) from_a to_b (a_to_b (5000, 5000) (0, 65535))
    (record { word = record { phase = phases.Request; name = names.GroupsIn; id = codes "eni-b"; rule = codes "-" }; part = a_to_b (5000, 5000) (0, 21) }
    ∷ record { word = record { phase = phases.Request; name = names.AclIn; id = codes "acl-1"; rule = codes "80" }; part = a_to_b (5000, 5000) (22, 22) }
    ∷ []) (tcp (v4 10 0 1 10) (v4 10 0 2 20) 5000 23) 7
    ≡ lines (codes "more boxes"
    ∷ codes "query from eni-a to eni-b"
    ∷ codes "box 6-6 10.0.1.10-10.0.1.10 10.0.2.20-10.0.2.20 5000-5000 0-65535"
    ∷ codes "row 1 request GroupsIn eni-b - 6-6 10.0.1.10-10.0.1.10 10.0.2.20-10.0.2.20 5000-5000 0-21"
    ∷ codes "row 2 request AclIn acl-1 80 6-6 10.0.1.10-10.0.1.10 10.0.2.20-10.0.2.20 5000-5000 22-22"
    ∷ codes "next tcp 10.0.1.10 10.0.2.20 5000 23"
    ∷ codes "cells 7"
    ∷ [])

-- a report of two rows whose replies are stopped
abbrev pub PrintsReplies : Type 0
PrintsReplies =
    let told : StopText = record { phase = phases.Reply; name = names.AclOut; id = codes "acl-b"; rule = codes "32767" } in
    report_text high_ports_only from_a to_b (a_to_b (0, 32767) (443, 443))
    (record { word = told; part = a_to_b (0, 1023) (443, 443) } ∷ record { word = told; part = a_to_b (1024, 32767) (443, 443) } ∷ [])
    ≡ lines (codes "vpc-report 1"
    ∷ codes "query from eni-a to eni-b"
    ∷ codes "box 6-6 10.0.1.10-10.0.1.10 10.0.2.20-10.0.2.20 0-32767 443-443"
    ∷ codes "row 1 reply AclOut acl-b 32767 6-6 10.0.1.10-10.0.1.10 10.0.2.20-10.0.2.20 0-1023 443-443"
    ∷ codes "row 2 reply AclOut acl-b 32767 6-6 10.0.1.10-10.0.1.10 10.0.2.20-10.0.2.20 1024-32767 443-443"
    ∷ codes "end 2"
    ∷ [])
