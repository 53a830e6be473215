-- What is known of an answer to a flow log.
use Rattle.std.proofs.Common.{◌≡◌, ◌∙◌, ◌∷◌, [], List, Ok, ap, refl, ℕ}
use Rattle.command_job.proofs.Devices.{no_device, no_is_none, query_is_none, yes_is_none}
use Rattle.command_job.specs.Status.{IsOfDevice}
use Rattle.command_job.specs.declared.status.Status.{Status}
use Rattle.command_job.specs.declared.status.Status.TheVariants as ends
use Rattle.vpc_laws.specs.Types.{Description}
use Rattle.flow_check.specs.Answers.{AreFlowsDecided, AreFlowsJudged, IsFlowsDecided, flows_status, status_by}
use Rattle.flow_check.specs.Answers as answers
use Rattle.flow_check.specs.Flows.{FlowList, flows_of}
use Rattle.flow_check.specs.declared.kinds.FlowLine.{FlowLine}

no-if-some : (lines : List FlowLine) → (lines ≡ [] → ⊥) → status_by lines ≡ ends.No
no-if-some [] some = absurd (some refl)
no-if-some (l ∷ ls) some = refl

-- a log of the grammar is answered yes or no
pub flows_are_decided : (d : Description) (bytes : List ℕ) (flows : FlowList) (status : Status) (text : List ℕ)
    → AreFlowsJudged d bytes status text → flows_of d bytes ≡ Ok flows → AreFlowsDecided flows status
flows_are_decided d bytes flows status text (answers.bad_line number bad ends_so says) good = absurd (cc)
flows_are_decided d bytes flows status text (answers.judged found is ends_so says) good =
    let same : found ≡ flows = cc in
    let by : status ≡ flows_status flows = ends_so ∙ ap flows_status same in
    record { yes = λ none. by ∙ ap status_by none; no = λ some. by ∙ no-if-some flows.differing some }

pub flows_is_decided : (d : Description) (bytes : List ℕ) (status : Status) (text : List ℕ) → AreFlowsJudged d bytes status text → IsFlowsDecided d bytes status
flows_is_decided d bytes status text answer flows good = flows_are_decided d bytes flows status text answer good

status_by-none : (lines : List FlowLine) → IsOfDevice (status_by lines) → ⊥
status_by-none [] = yes_is_none
status_by-none (l ∷ ls) = no_is_none

-- no answer tells of a device
pub flows_tell_of_no_device : (d : Description) (bytes : List ℕ) (status : Status) (text : List ℕ) → AreFlowsJudged d bytes status text → IsOfDevice status → ⊥
flows_tell_of_no_device d bytes status text (answers.bad_line number bad ends_so says) = no_device status ends.Query ends_so query_is_none
flows_tell_of_no_device d bytes status text (answers.judged flows is ends_so says) = no_device status (flows_status flows) ends_so (status_by-none flows.differing)
