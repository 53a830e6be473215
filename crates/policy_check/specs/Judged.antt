-- Whether a rule of a policy holds in a described network, and what is told where it doesn't.
use Rattle.std.specs.Prelude.{◌++◌, ◌≡◌, [], List, None, Option, Some, codes, decimal, true, ℕ}
use Rattle.block_report.specs.Walks.{told_text}
use Rattle.block_report.specs.Words.{header_text, word}
use Rattle.command_job.specs.Lines.{line}
use Rattle.header_boxes.specs.Boxes.{holds}
use Rattle.header_boxes.specs.Rows.{IsFirstThrough}
use Rattle.network_reach.specs.Reached.{meaning_in}
use Rattle.query_words.specs.declared.queries.Query.{Query}
use Rattle.vpc_base.specs.Header.{IsBefore}
use Rattle.vpc_laws.specs.Types.{Description, Header, StopName}
use Rattle.vpc_model.specs.Appliances.{appliances_of}
use Rattle.vpc_model.specs.Sound.{has_text}
use Rattle.vpc_model.specs.Told.{name_of, told_stop}
use Rattle.vpc_model.specs.Verdict.{verdict_of}
use Rattle.vpc_model.specs.declared.outcomes.Verdict.{Verdict}
use Rattle.vpc_model.specs.declared.outcomes.Verdict.TheVariants as verdicts
use Rattle.vpc_model.specs.declared.stops.StopName.TheVariants as names
use Rattle.policy_check.specs.declared.certainties.Certainty.{Certainty}
use Rattle.policy_check.specs.declared.certainties.Certainty.TheVariants as certainties
use Rattle.policy_check.specs.declared.halts.Halt.{Halt}
use Rattle.policy_check.specs.declared.judging.Failure.{Failure}
use Rattle.policy_check.specs.declared.judging.Failure.TheVariants as failures
use Rattle.policy_check.specs.declared.judging.Finding.{Finding}
use Rattle.policy_check.specs.declared.judging.Finding.TheVariants as findings
use Rattle.policy_check.specs.declared.rules.Wanted.{Wanted}
use Rattle.policy_check.specs.declared.rules.Wanted.TheVariants as wants

-- what becomes of a query's request, with the described appliances
abbrev pub verdict_in : Description → Query → Header → Verdict
verdict_in d query h = verdict_of d (appliances_of d) query.start query.goal h

-- ---- requests that get through

-- a request gets through, and so does its reply
abbrev pub GetsThrough : Description → Query → Header → Type 0
GetsThrough d query h = verdict_in d query h ≡ verdicts.Through

-- one of the query does
pub record SomeThrough (d : Description) (query : Query) : Type 0 where
  pub header : Header
  pub inside : holds header query.sides ≡ true
  pub through : GetsThrough d query header

-- none does
abbrev pub NoneThrough : Description → Query → Type 0
NoneThrough d query = (h : Header) → holds h query.sides ≡ true → ¬ (GetsThrough d query h)

-- all do
abbrev pub AllThrough : Description → Query → Type 0
AllThrough d query = (h : Header) → holds h query.sides ≡ true → GetsThrough d query h

-- ---- requests that don't

-- what stops a packet is known, unless by its name the packet leaves what is described
abbrev pub certainty_of : StopName → Certainty
certainty_of names.Unmodelled = certainties.Unknown
certainty_of _ = certainties.Known

-- a request is stopped in this way, or its reply, and so much is known of that
pub record IsHalted (d : Description) (query : Query) (certainty : Certainty) (halt : Halt) : Type 0 where
  pub stopped : verdict_in d query halt.header ≡ verdicts.Stopped halt.phase halt.stop
  pub certainty_is : certainty_of (name_of halt.stop) ≡ certainty

-- one of the query is
pub record SomeHalted (d : Description) (query : Query) (certainty : Certainty) : Type 0 where
  pub halt : Halt
  pub inside : holds halt.header query.sides ≡ true
  pub halted : IsHalted d query certainty halt

-- none is
abbrev pub NoneHalted : Description → Query → Certainty → Type 0
NoneHalted d query certainty = (halt : Halt) → holds halt.header query.sides ≡ true → ¬ (IsHalted d query certainty halt)

-- the first that is
pub record IsFirstHalted (d : Description) (query : Query) (certainty : Certainty) (halt : Halt) : Type 0 where
  pub inside : holds halt.header query.sides ≡ true
  pub halted : IsHalted d query certainty halt
  pub first : (other : Halt) → holds other.header query.sides ≡ true → IsBefore other.header halt.header → ¬ (IsHalted d query certainty other)

-- the first that is, or that none is
abbrev pub IsFirstHalt : Description → Query → Certainty → Option Halt → Type 0
IsFirstHalt d query certainty None = NoneHalted d query certainty
IsFirstHalt d query certainty (Some halt) = IsFirstHalted d query certainty halt

-- of those that something known stops, and of those of which it isn't known whether they get through
abbrev pub SomeStopped : Description → Query → Type 0
SomeStopped d query = SomeHalted d query certainties.Known

abbrev pub NoneStopped : Description → Query → Type 0
NoneStopped d query = NoneHalted d query certainties.Known

abbrev pub SomeUnknown : Description → Query → Type 0
SomeUnknown d query = SomeHalted d query certainties.Unknown

abbrev pub NoneUnknown : Description → Query → Type 0
NoneUnknown d query = NoneHalted d query certainties.Unknown

-- ---- rules

-- what a rule wants of its query is so
abbrev pub Holds : Description → Wanted → Query → Type 0
Holds d wants.Reachable query = SomeThrough d query
Holds d wants.Blocked query = NoneThrough d query × NoneUnknown d query
Holds d wants.Open query = AllThrough d query

-- it isn't so
abbrev pub Fails : Description → Wanted → Query → Type 0
Fails d wants.Reachable query = NoneThrough d query × NoneUnknown d query
Fails d wants.Blocked query = SomeThrough d query
Fails d wants.Open query = SomeStopped d query

-- no request of which all is known decides it
abbrev pub NothingDecides : Description → Wanted → Query → Type 0
NothingDecides d wants.Reachable query = NoneThrough d query
NothingDecides d wants.Blocked query = NoneThrough d query
NothingDecides d wants.Open query = NoneStopped d query

-- it isn't known whether it is so
abbrev pub IsUndecided : Description → Wanted → Query → Type 0
IsUndecided d wanted query = NothingDecides d wanted query × SomeUnknown d query

-- ---- what is found of a rule

-- why it fails: none gets through; or the first that does, as `ask` tells it; or the first that something known stops
abbrev pub FailsBy : Description → Wanted → Query → Failure → Type 0
FailsBy d wants.Reachable query failures.NoneThrough = NoneThrough d query × NoneUnknown d query
FailsBy d wants.Blocked query (failures.Through h) = IsFirstThrough (meaning_in d query) query.sides h
FailsBy d wants.Open query (failures.Stopped halt) = IsFirstHalted d query certainties.Known halt
FailsBy d _ query _ = ⊥

-- that it holds; why it fails; or that it isn't known, by the first request that isn't
abbrev pub IsFound : Description → Wanted → Query → Finding → Type 0
IsFound d wanted query findings.Held = Holds d wanted query
IsFound d wanted query (findings.Failed failure) = FailsBy d wanted query failure
IsFound d wanted query (findings.NotKnown halt) = NothingDecides d wanted query × IsFirstHalted d query certainties.Unknown halt

-- ---- lines

-- what stops the request, or its reply, has a text
abbrev pub HasText : Description → Halt → Type 0
HasText d halt = has_text d halt.stop ≡ true

abbrev pub IsFailureTold : Description → Failure → Type 0
IsFailureTold d failures.NoneThrough = Unit {0}
IsFailureTold d (failures.Through h) = Unit {0}
IsFailureTold d (failures.Stopped halt) = HasText d halt

abbrev pub CanBeTold : Description → Finding → Type 0
CanBeTold d findings.Held = Unit {0}
CanBeTold d (findings.Failed failure) = IsFailureTold d failure
CanBeTold d (findings.NotKnown halt) = HasText d halt

-- what stops it, and its header
abbrev pub halt_text : Description → Halt → List ℕ
halt_text d halt = told_text (told_stop d halt.phase halt.stop) ++ word (header_text halt.header)

abbrev pub failure_text : Description → Failure → List ℕ
failure_text d failures.NoneThrough = codes "blocked"
failure_text d (failures.Through h) = codes "reachable" ++ word (header_text h)
failure_text d (failures.Stopped halt) = halt_text d halt

unfoldable pub unknown_text : Description → Halt → List ℕ
unknown_text d halt = codes "unknown" ++ word (halt_text d halt)

-- `line N` and why the rule of that line fails
abbrev pub failure_line : Description → ℕ → Failure → List ℕ
failure_line d number failure = line (codes "line" ++ word (decimal number) ++ word (failure_text d failure))

-- `line N`, and that the rule of that line isn't known
abbrev pub unknown_line : Description → ℕ → Halt → List ℕ
unknown_line d number halt = line (codes "line" ++ word (decimal number) ++ word (unknown_text d halt))

-- the line of a rule: none where it holds
abbrev pub finding_line : Description → ℕ → Finding → List ℕ
finding_line d number findings.Held = []
finding_line d number (findings.Failed failure) = failure_line d number failure
finding_line d number (findings.NotKnown halt) = unknown_line d number halt
