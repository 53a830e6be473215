-- What is known of the command, and of a report.
use Rattle.std.proofs.Common.{◌≡◌, ◌∙◌, ◌≤◌, ◌⊎◌, ℕ, List, Option, Err, Ok, inl, inr, length, subst, sym}
use Rattle.query_words.specs.declared.queries.Query.{Query}
use Rattle.report_reader.specs.Reports.{report_of_text}
use Rattle.report_reader.specs.declared.report.Report.{Report}
use Rattle.vpc_laws.specs.Types.{Description}
use Rattle.command_job.specs.Files.{file_limit}
use Rattle.command_job.specs.declared.status.Status.{Status}
use Rattle.command_job.specs.declared.status.Status.TheVariants as ends
use Rattle.network_reach.specs.Asked.{IsAnswerTo, IsAsked, report_about, tree_about}
use Rattle.network_reach.specs.Asked as asks
use Rattle.report_check.specs.Checked.{IsReportTrue}
use Rattle.vpc_commands.specs.Terms.{Command, IsAnswered, IsDue, IsFault, command_of}
use Rattle.vpc_commands.specs.Due as due

-- ---- the command

same_command : (words : List (List ℕ)) (a b : Command) → command_of words ≡ Ok a → command_of words ≡ Ok b → a ≡ b
same_command words a b is other = let same : Ok a ≡ Ok b = sym is ∙ other in cc

-- a fault, or what the command answers
pub known_of : (command : Command) (words : List (List ℕ)) (told : List ℕ → Option (List ℕ)) (failed : List ℕ → Type 0) (status : Status) (text : List ℕ)
    → IsDue words told failed status text → command_of words ≡ Ok command → IsFault status ⊎ IsAnswered command words told failed status text
known_of command words told failed status text (due.not_words refusal is status_is says) named = let same : Err refusal ≡ Ok command = sym is ∙ named in cc
known_of command words told failed status text (due.answered other is so) named =
    inr (subst (λ (c : Command). IsAnswered c words told failed status text) (same_command words other command is named) so)
known_of command words told failed status text (due.no_memory status_is says) named = inl (inr (inr status_is))

-- ---- reports that `ask` answers

-- a text that is read as a true report
pub record IsTrueText (d : Description) (text : List ℕ) : Type 0 where
  pub report : Report
  pub reads : report_of_text d text ≡ Ok report
  pub short : length text ≤ file_limit
  pub true_of : IsReportTrue d report

answer_is_true : (d : Description) (query : Query) (text : List ℕ) → IsAnswerTo d query ends.No text → IsTrueText d text
answer_is_true d query text (asks.through status_is answer) = absurd (cc)
answer_is_true d query text (asks.blocked status_is answer) =
    record { report = report_about query answer.rows; reads = answer.reads; short = answer.short; true_of = answer.report.report }
answer_is_true d query text (asks.treed status_is answer) =
    record { report = tree_about query answer.nodes; reads = answer.reads; short = answer.short; true_of = answer.tree.report }
answer_is_true d query text (asks.more status_is answer) = absurd (cc)

pub reported_is_true : (d : Description) (asked : List (List ℕ)) (text : List ℕ) → IsAsked d asked ends.No text → IsTrueText d text
reported_is_true d asked text (asks.refused refusal is status_is text_is) = absurd (cc)
reported_is_true d asked text (asks.answered query is answer) = answer_is_true d query text answer
