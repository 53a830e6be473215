-- What `flows` answers to a flow log, in a described network.
use Rattle.std.specs.Prelude.{◌∷◌, ◌≡◌, [], Err, List, Ok, codes, decimal, ℕ}
use Rattle.command_job.specs.Lines.{file_refusal_line}
use Rattle.command_job.specs.declared.status.Status.{Status}
use Rattle.command_job.specs.declared.status.Status.TheVariants as ends
use Rattle.vpc_laws.specs.Types.{Description}
use Rattle.flow_check.specs.Flows.{FlowList, flows_of}
use Rattle.flow_check.specs.Texts.{flows_text}
use Rattle.flow_check.specs.declared.kinds.FlowLine.{FlowLine}

-- the line of a refusal of the log
abbrev pub log_refusal_line : List ℕ → List ℕ
log_refusal_line cause = file_refusal_line (codes "log") cause

-- yes where no line differs
abbrev pub status_by : List FlowLine → Status
status_by [] = ends.Yes
status_by (_ ∷ _) = ends.No

abbrev pub flows_status : FlowList → Status
flows_status a = status_by a.differing

-- what is answered to the bytes of a log: the first line that is outside the grammar, or the lines that differ
pub data AreFlowsJudged (d : Description) (bytes : List ℕ) (status : Status) (text : List ℕ) : Type 0 where
  bad_line : (number : ℕ) → flows_of d bytes ≡ Err number → status ≡ ends.Query → text ≡ log_refusal_line (decimal number)
      → AreFlowsJudged d bytes status text
  judged : (flows : FlowList) → flows_of d bytes ≡ Ok flows → status ≡ flows_status flows → text ≡ flows_text d flows
      → AreFlowsJudged d bytes status text

-- yes exactly where no line differs, and else no
pub record AreFlowsDecided (a : FlowList) (status : Status) : Type 0 where
  pub yes : a.differing ≡ [] → status ≡ ends.Yes
  pub no : ¬ (a.differing ≡ []) → status ≡ ends.No

-- where the bytes are a flow log, it is decided
abbrev pub IsFlowsDecided : Description → List ℕ → Status → Type 0
IsFlowsDecided d bytes status = (flows : FlowList) → flows_of d bytes ≡ Ok flows → AreFlowsDecided flows status
