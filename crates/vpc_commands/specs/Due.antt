-- The answers that are due: pairs of a status and a text.
use Rattle.std.specs.Prelude.{ℕ, ◌≡◌, ◌++◌, List, Option, Err, Ok, codes, decimal}
use Rattle.block_report.specs.Words.{word}
use Rattle.vpc_io.specs.Sink.{with_text, AddsProperPrefix}
use Rattle.command_job.specs.Lines.{line}
use Rattle.command_job.specs.declared.status.Status.{Status}
use Rattle.command_job.specs.declared.status.Status.TheVariants as ends
use Rattle.packet_trace.specs.Traced.{IsTraced}
use Rattle.walk_reasons.specs.Explained.{IsWhyAnswered}
use Rattle.network_reach.specs.Asked.{IsAsked}
use Rattle.report_check.specs.Certified.{report_refusal_line}
use Rattle.diff_check.specs.Diffs.{IsDiffChecked}
use Rattle.reach_check.specs.Texts.{IsTextChecked}
use Rattle.replay_log.specs.Replayed.{IsReplayedFrom, events_refusal_line}
use Rattle.made_reach.specs.Made.{IsMade}
use Rattle.policy_check.specs.Policy.{ArePoliciesJudged, rules_refusal_line}
use Rattle.flow_check.specs.Answers.{AreFlowsJudged, log_refusal_line}
use Rattle.reach_matrix.specs.Answered.{IsMatrixAnswered}
use Rattle.end_reach.specs.Answered.{IsReachAnswered}
use Rattle.change_report.specs.Answered.{IsDiffAnswered}
use Rattle.vpc_commands.specs.Files.{IsAnsweredAfter, IsAnsweredIn, IsAnsweredTo, second_fault, third_fault}
use Rattle.unused_rules.specs.Answered.{IsUnusedAnswered}
use Rattle.vpc_commands.specs.Words.{command_of, file_name, second_name, third_name}
use Rattle.vpc_commands.specs.declared.words.Command.{Command}
use Rattle.vpc_commands.specs.declared.words.Command.TheVariants as commands
use Rattle.vpc_commands.specs.declared.words.WordsRefusal.{WordsRefusal}

-- ---- texts

abbrev pub words_text : WordsRefusal → List ℕ
words_text refusal = line (codes "refused words" ++ word (decimal refusal.word))

abbrev pub memory_text : List ℕ
memory_text = line (codes "want of memory")

-- ---- what is due

-- what a command answers to its words, by what the shelf tells of files and which of them failed in this call
abbrev pub IsAnswered : Command → List (List ℕ) → (List ℕ → Option (List ℕ)) → (List ℕ → Type 0) → Status → List ℕ → Type 0
IsAnswered commands.Trace words told failed = IsAnsweredIn told failed (file_name words) (λ d. IsTraced d words)
IsAnswered commands.Why words told failed = IsAnsweredIn told failed (file_name words) (λ d. IsWhyAnswered d words)
IsAnswered commands.Ask words told failed = IsAnsweredIn told failed (file_name words) (λ d. IsAsked d words)
IsAnswered commands.Check words told failed =
    IsAnsweredIn told failed (file_name words) (λ d. IsAnsweredTo second_fault told failed (second_name words) report_refusal_line (IsTextChecked d))
IsAnswered commands.CheckDiff words told failed =
    IsAnsweredIn told failed (file_name words) (λ before. IsAnsweredAfter told failed (second_name words)
    (λ after. IsAnsweredTo third_fault told failed (third_name words) report_refusal_line (IsDiffChecked before after)))
IsAnswered commands.Replay words told failed =
    IsAnsweredIn told failed (file_name words) (λ d. IsAnsweredTo second_fault told failed (second_name words) events_refusal_line (IsReplayedFrom d))
IsAnswered commands.Make words told failed = IsMade words
IsAnswered commands.Expect words told failed =
    IsAnsweredIn told failed (file_name words) (λ d. IsAnsweredTo second_fault told failed (second_name words) rules_refusal_line (ArePoliciesJudged d))
IsAnswered commands.Flows words told failed =
    IsAnsweredIn told failed (file_name words) (λ d. IsAnsweredTo second_fault told failed (second_name words) log_refusal_line (AreFlowsJudged d))
IsAnswered commands.Matrix words told failed = IsAnsweredIn told failed (file_name words) (λ d. IsMatrixAnswered d words)
IsAnswered commands.Reach words told failed = IsAnsweredIn told failed (file_name words) (λ d. IsReachAnswered d words)
IsAnswered commands.Diff words told failed =
    IsAnsweredIn told failed (file_name words) (λ before. IsAnsweredAfter told failed (second_name words) (λ after. IsDiffAnswered before after words))
IsAnswered commands.Unused words told failed = IsAnsweredIn told failed (file_name words) (λ d. IsUnusedAnswered d words)

-- the pairs that are due for these words: the refusal of a wrong word, what the command answers, or that memory was wanting
pub data IsDue (words : List (List ℕ)) (told : List ℕ → Option (List ℕ)) (failed : List ℕ → Type 0) (status : Status) (text : List ℕ) : Type 0 where
  not_words : (refusal : WordsRefusal) → command_of words ≡ Err refusal → status ≡ ends.Words → text ≡ words_text refusal → IsDue words told failed status text
  answered : (command : Command) → command_of words ≡ Ok command → IsAnswered command words told failed status text → IsDue words told failed status text
  no_memory : status ≡ ends.Memory → text ≡ memory_text → IsDue words told failed status text

-- one pair of a status and a text, and no other
abbrev pub only : Status → List ℕ → Status → List ℕ → Type 0
only status text s t = (s ≡ status) × (t ≡ text)

-- the whole text of a due pair with this status was added, or writing failed after a proper prefix of a due text
pub data IsAnswer (due : Status → List ℕ → Type 0) (old new : Option (List ℕ)) (failed : Type 0) (status : Status) : Type 0 where
  whole : (text : List ℕ) → due status text → new ≡ with_text old text → IsAnswer due old new failed status
  cut_short : (other : Status) (text : List ℕ) → due other text → AddsProperPrefix old new text → failed → status ≡ ends.Write → IsAnswer due old new failed status
