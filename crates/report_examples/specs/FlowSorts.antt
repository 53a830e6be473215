-- What becomes of lines in small networks.
use Rattle.std.specs.Prelude.{◌++◌, ◌∷◌, ◌≡◌, [], List, None, Option, Some, codes, false, map, option_map, ℕ}
use Rattle.flow_check.specs.Records.{record_of}
use Rattle.flow_check.specs.Sorts.{sort_of}
use Rattle.flow_check.specs.declared.kinds.FlowKind.TheVariants as kinds
use Rattle.flow_check.specs.declared.sorts.Sort.{Sort}
use Rattle.flow_check.specs.declared.sorts.Sort.TheVariants as sorts
use Rattle.report_examples.specs.FlowLogs.{hosts, printed, rejected}
use Rattle.command_job.specs.declared.status.Status.TheVariants as ends
use Rattle.report_examples.specs.Printed.{lines}
use Rattle.vpc_base.specs.declared.headers.Dir.TheVariants as dirs
use Rattle.vpc_examples.specs.Networks.{acl, allow_all, behind_nat, group, high_ports_only, host, https_from_group, open_rows, two_subnets, v4}
use Rattle.vpc_laws.specs.Types.{Description}
use Rattle.vpc_model.specs.declared.outcomes.By.TheVariants as bys
use Rattle.vpc_model.specs.declared.rows.InterfaceKind.TheVariants as interfaces
use Rattle.vpc_model.specs.declared.stops.Stop.TheVariants as stops

-- what becomes of each line
abbrev pub become : Description → List (List ℕ) → List (Option Sort)
become d texts = map (λ l. option_map (sort_of d) (record_of l)) texts

-- a line of TCP by its interface, its addresses, its ports and its action
abbrev pub tcp_line : List ℕ → List ℕ → List ℕ → List ℕ
tcp_line eni between action = codes "2 123456789012 " ++ eni ++ codes " " ++ between ++ codes " 6 10 840 1 2 " ++ action ++ codes " OK"

-- ---- lines that aren't judged

-- neither IPv6, nor ICMP, nor addresses of others is looked at
abbrev pub LinesAreUnknown : Type 0
LinesAreUnknown =
    become hosts (codes "2 123456789012 eni-z 10.0.1.10 10.0.2.20 5000 443 6 10 840 1 2 ACCEPT OK"
    ∷ codes "2 123456789012 eni-z 2001:db8::1 2001:db8::2 5000 443 6 10 840 1 2 ACCEPT OK"
    ∷ codes "2 123456789012 eni-z 10.0.1.10 10.0.2.20 - - 1 10 840 1 2 ACCEPT OK"
    ∷ codes "2 123456789012 eni-z 10.9.9.9 10.9.9.9 5000 443 6 10 840 1 2 REJECT OK"
    ∷ codes "2 123456789012 eni-z - - - - - - - 1 2 - SKIPDATA"
    ∷ [])
    ≡ Some sorts.Unknown ∷ Some sorts.Unknown ∷ Some sorts.Unknown ∷ Some sorts.Unknown ∷ Some sorts.SkipData ∷ []

-- two hosts, the first of which has a second address, 10.0.1.11
abbrev pub two_addresses : Description
two_addresses = record hosts {
  interfaces = record { id = codes "eni-a"; subnet = codes "subnet-a"; primary = Some (v4 10 0 1 10); addresses = (v4 10 0 1 10, None) ∷ (v4 10 0 1 11, None) ∷ []; prefixes = []; groups = codes "sg-a" ∷ []; checked = false; idle = false; kind = interfaces.Host }
      ∷ host (codes "eni-b") (codes "subnet-b") (v4 10 0 2 20) (codes "sg-b") ∷ [];
}

-- a NAT gateway's interface, ICMP, IPv6, an interface that sends to itself, and one that forwards
abbrev pub LinesAreSkipped : Type 0
LinesAreSkipped =
    (become (behind_nat open_rows) (tcp_line (codes "eni-n") (codes "10.0.3.5 198.51.100.7 1024 443") (codes "ACCEPT") ∷ []) ≡ Some sorts.Skipped ∷ [])
    × (become two_addresses (codes "2 123456789012 eni-b 10.0.1.10 10.0.2.20 0 0 1 10 840 1 2 ACCEPT OK"
    ∷ codes "2 123456789012 eni-b 2001:db8::1 10.0.2.20 5000 443 6 10 840 1 2 ACCEPT OK"
    ∷ codes "2 123456789012 eni-b 10.0.1.10 2001:db8::2 5000 443 6 10 840 1 2 ACCEPT OK"
    ∷ tcp_line (codes "eni-a") (codes "10.0.1.10 10.0.1.11 5000 443") (codes "ACCEPT")
    ∷ tcp_line (codes "eni-b") (codes "10.0.1.10 10.0.1.11 5000 443") (codes "ACCEPT")
    ∷ [])
    ≡ Some sorts.Skipped ∷ Some sorts.Skipped ∷ Some sorts.Skipped ∷ Some sorts.Skipped ∷ Some sorts.Skipped ∷ [])

-- ---- directions

-- at the second host: a request to an open port, and one to another; what it sends by itself; and the same lines at the first host
abbrev pub DirectionIsByTheOwnAddress : Type 0
DirectionIsByTheOwnAddress =
    become two_addresses (tcp_line (codes "eni-b") (codes "10.0.1.10 10.0.2.20 5000 443") (codes "ACCEPT")
    ∷ tcp_line (codes "eni-b") (codes "10.0.1.10 10.0.2.20 5000 22") (codes "ACCEPT")
    ∷ tcp_line (codes "eni-b") (codes "10.0.2.20 10.0.1.10 50000 22") (codes "ACCEPT")
    ∷ tcp_line (codes "eni-a") (codes "10.0.1.11 10.0.2.20 5000 22") (codes "ACCEPT")
    ∷ tcp_line (codes "eni-a") (codes "10.0.1.11 10.0.2.20 5000 22") (codes "REJECT")
    ∷ tcp_line (codes "eni-b") (codes "10.0.1.11 10.0.2.20 5000 443") (codes "REJECT")
    ∷ [])
    ≡ Some sorts.Agrees
    ∷ Some (sorts.Differs (kinds.Accepted (stops.GroupsIn (record { 0 = 1 }))))
    ∷ Some (sorts.Differs (kinds.Accepted (stops.GroupsOut (record { 0 = 1 }))))
    ∷ Some sorts.Agrees
    ∷ Some (sorts.Differs (kinds.Rejected (bys.Rule (record { group = record { 0 = 0 }; dir = dirs.Outward; number = 1 }))))
    ∷ Some (sorts.Differs (kinds.Rejected (bys.Rule (record { group = record { 0 = 1 }; dir = dirs.Inward; number = 1 }))))
    ∷ []

-- ---- connections

-- answers at both hosts, for which neither has a rule
abbrev pub answers : List ℕ → List (List ℕ)
answers action =
    tcp_line (codes "eni-b") (codes "10.0.2.20 10.0.1.10 443 5000") action ∷ tcp_line (codes "eni-a") (codes "10.0.2.20 10.0.1.10 443 5000") action ∷ []

abbrev pub GroupsAreConnected : Type 0
GroupsAreConnected = become hosts (answers (codes "ACCEPT")) ≡ Some sorts.Agrees ∷ Some sorts.Agrees ∷ []

abbrev pub RejectedAnswersAgree : Type 0
RejectedAnswersAgree = become hosts (answers (codes "REJECT")) ≡ Some sorts.Agrees ∷ Some sorts.Agrees ∷ []

-- ---- ACLs

-- both hosts and a third one, 10.0.1.30, which is a neighbour of the first; the ACL lets nothing pass
abbrev pub closed_subnets : Description
closed_subnets = record (two_subnets (acl (codes "acl-1") (codes "subnet-a" ∷ codes "subnet-b" ∷ []) [] ∷ [])) {
  interfaces = host (codes "eni-a") (codes "subnet-a") (v4 10 0 1 10) (codes "sg-a") ∷ host (codes "eni-b") (codes "subnet-b") (v4 10 0 2 20) (codes "sg-b")
      ∷ host (codes "eni-c") (codes "subnet-a") (v4 10 0 1 30) (codes "sg-a") ∷ [];
}

-- to a neighbour, and from one; to another subnet, and to an address of the same block that no interface has
abbrev pub AclIsNotAskedInside : Type 0
AclIsNotAskedInside =
    become closed_subnets (tcp_line (codes "eni-a") (codes "10.0.1.10 10.0.1.30 5000 443") (codes "ACCEPT")
    ∷ tcp_line (codes "eni-a") (codes "10.0.1.30 10.0.1.10 443 5000") (codes "ACCEPT")
    ∷ tcp_line (codes "eni-a") (codes "10.0.1.10 10.0.1.30 5000 443") (codes "REJECT")
    ∷ tcp_line (codes "eni-a") (codes "10.0.1.10 10.0.2.20 5000 443") (codes "ACCEPT")
    ∷ tcp_line (codes "eni-a") (codes "10.0.1.10 10.0.1.99 5000 443") (codes "ACCEPT")
    ∷ tcp_line (codes "eni-a") (codes "10.0.1.10 10.0.2.20 5000 443") (codes "REJECT")
    ∷ [])
    ≡ Some sorts.Agrees
    ∷ Some sorts.Agrees
    ∷ Some (sorts.Differs (kinds.Rejected (bys.Rule (record { group = record { 0 = 0 }; dir = dirs.Outward; number = 1 }))))
    ∷ Some (sorts.Differs (kinds.Accepted (stops.AclOut (record { 0 = 0 }) 32767)))
    ∷ Some (sorts.Differs (kinds.Accepted (stops.AclOut (record { 0 = 0 }) 32767)))
    ∷ Some sorts.Agrees
    ∷ []

-- an answer to a low port, which the ACL doesn't let out, and one to a high port
abbrev pub AclKnowsNoConnections : Type 0
AclKnowsNoConnections =
    become high_ports_only (tcp_line (codes "eni-b") (codes "10.0.2.20 10.0.1.10 443 5000") (codes "ACCEPT")
    ∷ tcp_line (codes "eni-b") (codes "10.0.2.20 10.0.1.10 443 40000") (codes "ACCEPT")
    ∷ tcp_line (codes "eni-b") (codes "10.0.2.20 10.0.1.10 443 5000") (codes "REJECT")
    ∷ [])
    ≡ Some (sorts.Differs (kinds.Accepted (stops.AclOut (record { 0 = 1 }) 32767))) ∷ Some sorts.Agrees ∷ Some sorts.Agrees ∷ []

-- a request and a packet of its own that both the groups and the ACL of the second host refuse
abbrev pub MetFirstIsTold : Type 0
MetFirstIsTold =
    become closed_subnets (tcp_line (codes "eni-b") (codes "10.0.1.10 10.0.2.20 5000 22") (codes "ACCEPT")
    ∷ tcp_line (codes "eni-b") (codes "10.0.2.20 10.0.1.10 50000 22") (codes "ACCEPT")
    ∷ [])
    ≡ Some (sorts.Differs (kinds.Accepted (stops.AclIn (record { 0 = 0 }) 32767)))
    ∷ Some (sorts.Differs (kinds.Accepted (stops.GroupsOut (record { 0 = 1 }))))
    ∷ []

-- ---- groups

-- the second host without its group
abbrev pub without_groups : Description
without_groups = record hosts {
  interfaces = host (codes "eni-a") (codes "subnet-a") (v4 10 0 1 10) (codes "sg-a")
      ∷ record (host (codes "eni-b") (codes "subnet-b") (v4 10 0 2 20) []) { groups = [] } ∷ [];
}

abbrev pub NoGroupsLetPass : Type 0
NoGroupsLetPass =
    printed without_groups (lines (tcp_line (codes "eni-b") (codes "10.0.1.10 10.0.2.20 5000 22") (codes "ACCEPT") ∷ tcp_line (codes "eni-b") (codes "10.0.1.10 10.0.2.20 5000 22") (codes "REJECT") ∷ []))
    ≡ (lines (codes "line 2 REJECT by none" ∷ codes "ok 1 differ 1 nodata 0 skipdata 0 unknown 0 skipped 0" ∷ []), ends.No)

-- the second host's rule has the id sgr-1
abbrev pub with_rule_ids : Description
with_rule_ids = record hosts {
  groups = group (codes "sg-a") (codes "vpc-1") [] (allow_all ∷ []) ∷ group (codes "sg-b") (codes "vpc-1") (record (https_from_group (codes "sg-a")) { id = Some (codes "sgr-1") } ∷ []) [] ∷ [];
}

abbrev pub RulesHaveIds : Type 0
RulesHaveIds = printed with_rule_ids (lines (rejected ∷ [])) ≡ (lines (codes "line 1 REJECT by sg-b in sgr-1" ∷ codes "ok 0 differ 1 nodata 0 skipdata 0 unknown 0 skipped 0" ∷ []), ends.No)
