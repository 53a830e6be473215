-- What `expect` answers to a policy, in a described network.
use Rattle.std.specs.Prelude.{◌++◌, ◌+◌, ◌↔◌, ◌≡◌, if◌then◌else◌, All, Bool, Err, List, Ok, codes, count_by, decimal, false, map, nat_lt, true, ℕ}
use Rattle.std.specs.List.{Contains, flat_map}
use Rattle.block_report.specs.Words.{word}
use Rattle.command_job.specs.Lines.{file_refusal_line, line}
use Rattle.command_job.specs.Status.{IsOfDevice}
use Rattle.command_job.specs.declared.status.Status.{Status}
use Rattle.command_job.specs.declared.status.Status.TheVariants as ends
use Rattle.vpc_laws.specs.Types.{Description}
use Rattle.policy_check.specs.Judged.{Fails, Holds, IsFound, IsUndecided, finding_line}
use Rattle.policy_check.specs.Rules.{rules_of}
use Rattle.policy_check.specs.declared.judging.Finding.{Finding}
use Rattle.policy_check.specs.declared.judging.Finding.TheVariants as findings
use Rattle.policy_check.specs.declared.rules.PolicyRule.{PolicyRule}
use Rattle.policy_check.specs.declared.counts.Tally.{Tally}

-- ---- rules that were judged

-- a rule with what is found of it
pub record Judged : Type 0 where
  pub rule : PolicyRule
  pub found : Finding

abbrev pub IsJudged : Description → Judged → Type 0
IsJudged d j = IsFound d j.rule.wanted j.rule.query j.found

abbrev pub is_held : Finding → Bool
is_held findings.Held = true
is_held _ = false

abbrev pub is_failed : Finding → Bool
is_failed (findings.Failed failure) = true
is_failed _ = false

abbrev pub is_unknown : Finding → Bool
is_unknown (findings.NotKnown halt) = true
is_unknown _ = false

-- its line, unless it holds
abbrev pub judged_line : Description → Judged → List ℕ
judged_line d j = finding_line d j.rule.line j.found

-- how many rules hold, how many fail, and of how many it isn't known
abbrev pub tally_of : List Judged → Tally
tally_of judged = record {
  hold = count_by (λ j. is_held j.found) judged;
  fail = count_by (λ j. is_failed j.found) judged;
  unknown = count_by (λ j. is_unknown j.found) judged;
}

-- with one rule more
abbrev pub with_one : Tally → Finding → Tally
with_one t findings.Held = record t { hold = t.hold + 1 }
with_one t (findings.Failed failure) = record t { fail = t.fail + 1 }
with_one t (findings.NotKnown halt) = record t { unknown = t.unknown + 1 }

abbrev pub count_text : List ℕ → ℕ → List ℕ
count_text name count = name ++ word (decimal count)

abbrev pub tally_line : Tally → List ℕ
tally_line t = line (count_text (codes "ok") t.hold ++ count_text (codes " fail") t.fail ++ count_text (codes " unknown") t.unknown)

-- no where one fails, unknown where none does and one isn't known, else yes
abbrev pub status_of : Tally → Status
status_of t = if nat_lt 0 t.fail then ends.No else (if nat_lt 0 t.unknown then ends.Unknown else ends.Yes)

-- a rule was judged, and its line added unless it holds
pub record AddsLine (d : Description) (rule : PolicyRule) (old new : List ℕ) (found : Finding) : Type 0 where
  pub is_found : IsFound d rule.wanted rule.query found
  pub text_is : new ≡ old ++ finding_line d rule.line found

-- rules were judged, the lines of those that don't hold added, and all counted
pub record AddsLines (d : Description) (rules : List PolicyRule) (old new : List ℕ) (tally : Tally) : Type 0 where
  pub judged : List Judged
  pub of_rules : map (λ j. j.rule) judged ≡ rules
  pub each : All (IsJudged d) judged
  pub text_is : new ≡ old ++ flat_map (judged_line d) judged
  pub tally_is : tally ≡ tally_of judged

-- what is answered to rules: a line for each that fails or isn't known, in their order, and then how many of each kind there are
pub record AreJudged (d : Description) (rules : List PolicyRule) (status : Status) (text : List ℕ) : Type 0 where
  pub judged : List Judged
  pub of_rules : map (λ j. j.rule) judged ≡ rules
  pub each : All (IsJudged d) judged
  pub status_is : status ≡ status_of (tally_of judged)
  pub text_is : text ≡ flat_map (judged_line d) judged ++ tally_line (tally_of judged)

-- ---- answers

-- the line of a refusal of the rules
abbrev pub rules_refusal_line : List ℕ → List ℕ
rules_refusal_line cause = file_refusal_line (codes "rules") cause

-- what is answered to the bytes of a policy: the first line that is neither passed over nor a rule, or what is found of its rules
pub data ArePoliciesJudged (d : Description) (bytes : List ℕ) (status : Status) (text : List ℕ) : Type 0 where
  bad_line : (number : ℕ) → rules_of d bytes ≡ Err number → status ≡ ends.Query → text ≡ rules_refusal_line (decimal number) → ArePoliciesJudged d bytes status text
  judged : (rules : List PolicyRule) → rules_of d bytes ≡ Ok rules → AreJudged d rules status text → ArePoliciesJudged d bytes status text

-- ---- completeness

abbrev pub RuleHolds : Description → PolicyRule → Type 0
RuleHolds d rule = Holds d rule.wanted rule.query

abbrev pub RuleFails : Description → PolicyRule → Type 0
RuleFails d rule = Fails d rule.wanted rule.query

abbrev pub RuleIsUndecided : Description → PolicyRule → Type 0
RuleIsUndecided d rule = IsUndecided d rule.wanted rule.query

-- one of the rules fails
pub record SomeFails (d : Description) (rules : List PolicyRule) : Type 0 where
  pub rule : PolicyRule
  pub among : Contains rules rule
  pub fails : RuleFails d rule

-- none fails, and of one it isn't known whether it holds
pub record SomeUndecided (d : Description) (rules : List PolicyRule) : Type 0 where
  pub none_fails : All (λ rule. ¬ (RuleFails d rule)) rules
  pub rule : PolicyRule
  pub among : Contains rules rule
  pub undecided : RuleIsUndecided d rule

-- yes exactly where all rules hold, no exactly where one fails, and unknown exactly where none fails and one isn't known
pub record IsPolicyDecided (d : Description) (rules : List PolicyRule) (status : Status) : Type 0 where
  pub yes : (status ≡ ends.Yes) ↔ All (RuleHolds d) rules
  pub no : (status ≡ ends.No) ↔ SomeFails d rules
  pub unknown : (status ≡ ends.Unknown) ↔ SomeUndecided d rules

-- every answer to a policy decides its rules
abbrev pub PoliciesAreDecided : Type 0
PoliciesAreDecided =
    (d : Description) (bytes : List ℕ) (rules : List PolicyRule) (status : Status) (text : List ℕ) → rules_of d bytes ≡ Ok rules
    → ArePoliciesJudged d bytes status text → IsPolicyDecided d rules status

-- and none tells of a device
abbrev pub PoliciesAreOfNoDevice : Type 0
PoliciesAreOfNoDevice =
    (d : Description) (bytes : List ℕ) (status : Status) (text : List ℕ) → ArePoliciesJudged d bytes status text → ¬ (IsOfDevice status)

-- where the bytes are a policy, it is decided
abbrev pub IsExpectDecided : Description → List ℕ → Status → Type 0
IsExpectDecided d bytes status = (rules : List PolicyRule) → rules_of d bytes ≡ Ok rules → IsPolicyDecided d rules status
