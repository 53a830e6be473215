-- Whole logs of the network of two subnets: the hosts are 10.0.1.10 and 10.0.2.20, and the second lets in HTTPS from the first.
use Rattle.std.specs.Prelude.{◌++◌, ◌∷◌, ◌≡◌, [], Err, List, Ok, Result, codes, decimal, ℕ}
use Rattle.flow_check.specs.Answers.{flows_status, log_refusal_line}
use Rattle.flow_check.specs.Flows.{FlowList, flows_of}
use Rattle.flow_check.specs.Texts.{flows_text}
use Rattle.command_job.specs.declared.status.Status.{Status}
use Rattle.command_job.specs.declared.status.Status.TheVariants as ends
use Rattle.report_examples.specs.Printed.{lines}
use Rattle.vpc_examples.specs.Networks.{acl_1, two_subnets}
use Rattle.vpc_laws.specs.Types.{Description}

-- what is printed of a log, and how the command ends
abbrev pub printed_of : Description → Result FlowList ℕ → List ℕ × Status
printed_of d (Ok flows) = (flows_text d flows, flows_status flows)
printed_of d (Err number) = (log_refusal_line (decimal number), ends.Query)

abbrev pub printed : Description → List ℕ → List ℕ × Status
printed d log = printed_of d (flows_of d log)

abbrev pub hosts : Description
hosts = two_subnets (acl_1 ∷ [])

-- a request to a port that is open, its answer, a request to another port, a request that was rejected, and an interval without packets
abbrev pub request : List ℕ
request = codes "2 123456789012 eni-b 10.0.1.10 10.0.2.20 5000 443 6 10 840 1 2 ACCEPT OK"

abbrev pub answer : List ℕ
answer = codes "2 123456789012 eni-b 10.0.2.20 10.0.1.10 443 5000 6 10 840 1 2 ACCEPT OK"

abbrev pub other_port : List ℕ
other_port = codes "2 123456789012 eni-b 10.0.1.10 10.0.2.20 5000 80 6 1 40 1 2 ACCEPT OK"

abbrev pub rejected : List ℕ
rejected = codes "2 123456789012 eni-b 10.0.1.10 10.0.2.20 5000 443 6 1 40 1 2 REJECT OK"

abbrev pub nothing_came : List ℕ
nothing_came = codes "2 123456789012 eni-b - - - - - - - 1 2 - NODATA"

abbrev pub LogIsTold : Type 0
LogIsTold =
    printed hosts (lines (request ∷ answer ∷ other_port ∷ rejected ∷ nothing_came ∷ []))
    ≡ (
      lines (codes "line 3 ACCEPT GroupsIn eni-b -" ∷ codes "line 4 REJECT by sg-b in 1" ∷ codes "ok 2 differ 2 nodata 1 skipdata 0 unknown 0 skipped 0" ∷ []),
      ends.No,
    )

abbrev pub EmptyLogIsTold : Type 0
EmptyLogIsTold = printed hosts [] ≡ (lines (codes "ok 0 differ 0 nodata 0 skipdata 0 unknown 0 skipped 0" ∷ []), ends.Yes)

-- a line that lacks its last word
abbrev pub cut_short : List ℕ
cut_short = codes "2 123456789012 eni-b 10.0.1.10 10.0.2.20 5000 443 6 10 840 1 2 ACCEPT"

abbrev pub FirstBadLineIsTold : Type 0
FirstBadLineIsTold =
    (printed hosts (lines (cut_short ∷ answer ∷ other_port ∷ rejected ∷ nothing_came ∷ [])) ≡ (lines (codes "refused log 1" ∷ []), ends.Query))
    × ((printed hosts (lines (other_port ∷ rejected ∷ cut_short ∷ request ∷ cut_short ∷ [])) ≡ (lines (codes "refused log 3" ∷ []), ends.Query))
    × (printed hosts (lines (request ∷ [] ∷ [])) ≡ (lines (codes "refused log 2" ∷ []), ends.Query)))

-- the first line of a log in S3
abbrev pub names : List ℕ
names = codes "version account-id interface-id srcaddr dstaddr srcport dstport protocol packets bytes start end action log-status"

abbrev pub NamesArePassedOver : Type 0
NamesArePassedOver =
    (printed hosts (lines (names ∷ other_port ∷ []))
    ≡ (lines (codes "line 2 ACCEPT GroupsIn eni-b -" ∷ codes "ok 0 differ 1 nodata 0 skipdata 0 unknown 0 skipped 0" ∷ []), ends.No))
    × ((printed hosts (lines (codes "version" ∷ request ∷ [])) ≡ (lines (codes "ok 1 differ 0 nodata 0 skipdata 0 unknown 0 skipped 0" ∷ []), ends.Yes))
    × ((printed hosts (lines (request ∷ names ∷ [])) ≡ (lines (codes "refused log 2" ∷ []), ends.Query))
    × (printed hosts (lines (names ∷ names ∷ [])) ≡ (lines (codes "refused log 2" ∷ []), ends.Query))))

abbrev pub LinesAreNumbered : Type 0
LinesAreNumbered =
    printed hosts (lines (request ∷ []) ++ other_port)
    ≡ (lines (codes "line 2 ACCEPT GroupsIn eni-b -" ∷ codes "ok 1 differ 1 nodata 0 skipdata 0 unknown 0 skipped 0" ∷ []), ends.No)
