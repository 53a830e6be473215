-- Which answers come, where no device and no memory is wanting; and which files had failed where reading did.
use Rattle.std.specs.Prelude.{ℕ, ◌≡◌, ◌==◌, ◌⊎◌, List, Ok, Option, Some, codes, false, true}
use Rattle.std.specs.List.{list_any}
use Rattle.query_words.specs.Words.{word_at}
use Rattle.vpc_model.specs.Lookup.{has_interface}
use Rattle.vpc_model.specs.declared.rows.Description.{Description}
use Rattle.command_job.specs.declared.status.Status.{Status}
use Rattle.command_job.specs.declared.status.Status.TheVariants as ends
use Rattle.packet_trace.specs.Traced.{IsTraceDecided}
use Rattle.network_reach.specs.Asked.{IsAskDecided, IsAsked}
use Rattle.diff_check.specs.Diffs.{IsDiffListingDecided}
use Rattle.reach_check.specs.Texts.{IsTextDecided}
use Rattle.replay_log.specs.Replayed.{IsReplayDecided}
use Rattle.made_reach.specs.Made.{IsMakeDecided}
use Rattle.policy_check.specs.Policy.{IsExpectDecided}
use Rattle.flow_check.specs.Answers.{IsFlowsDecided}
use Rattle.reach_matrix.specs.Answered.{IsMatrixDecided}
use Rattle.end_reach.specs.Answered.{IsReachDecided}
use Rattle.change_report.specs.Answered.{IsDiffDecided}
use Rattle.unused_rules.specs.Answered.{IsUnusedDecided}
use Rattle.listing_laws.specs.DiffTexts.{IsDiffText}
use Rattle.listing_laws.specs.ReachTexts.{IsReachText}
use Rattle.vpc_commands.specs.Files.{AreToldBytes, IsToldNetwork}
use Rattle.vpc_commands.specs.Words.{command_of, file_name, files_of, second_name, third_name}
use Rattle.vpc_commands.specs.declared.words.Command.{Command}
use Rattle.vpc_commands.specs.declared.words.Command.TheVariants as commands

-- a command that could not read, could not write or wanted memory
abbrev pub IsFault : Status → Type 0
IsFault status = (status ≡ ends.Read) ⊎ ((status ≡ ends.Write) ⊎ (status ≡ ends.Memory))

-- no interface is called `internet`, which in a listing means the internet
abbrev pub InternetIsNoInterface : Description → Type 0
InternetIsNoInterface d = has_interface d (codes "internet") ≡ false

-- what each command's status tells, where the told files may be taken and describe a network
pub record IsComplete (words : List (List ℕ)) (told : List ℕ → Option (List ℕ)) (status : Status) : Type 0 where
  pub trace : (d : Description) → command_of words ≡ Ok commands.Trace → IsToldNetwork told (file_name words) d
      → IsFault status ⊎ IsTraceDecided d words status
  pub why : (d : Description) → command_of words ≡ Ok commands.Why → IsToldNetwork told (file_name words) d
      → IsFault status ⊎ IsTraceDecided d words status
  pub ask : (d : Description) → command_of words ≡ Ok commands.Ask → IsToldNetwork told (file_name words) d
      → IsFault status ⊎ IsAskDecided d words status
  pub check : (d : Description) (text : List ℕ) → command_of words ≡ Ok commands.Check → IsToldNetwork told (file_name words) d
      → AreToldBytes told (second_name words) text → IsFault status ⊎ IsTextDecided d text status
  pub check_diff : (before after : Description) (text : List ℕ) → command_of words ≡ Ok commands.CheckDiff → IsToldNetwork told (file_name words) before
      → IsToldNetwork told (second_name words) after → AreToldBytes told (third_name words) text → IsFault status ⊎ IsDiffListingDecided before after text status
  -- each report that is due for `ask` in the network gets a yes
  pub certified : (d : Description) (text : List ℕ) (asked : List (List ℕ)) → command_of words ≡ Ok commands.Check → IsToldNetwork told (file_name words) d
      → told (second_name words) ≡ Some text → IsAsked d asked ends.No text → IsFault status ⊎ (status ≡ ends.Yes)
  -- so does all that is due for `reach` in it, unless an interface is called `internet`
  pub certified_reach : (d : Description) (text : List ℕ) (asked : List (List ℕ)) → command_of words ≡ Ok commands.Check → IsToldNetwork told (file_name words) d
      → told (second_name words) ≡ Some text → InternetIsNoInterface d → IsReachText d asked text → IsFault status ⊎ (status ≡ ends.Yes)
  -- and all that is due for `diff` in two networks, unless an interface of either is
  pub certified_diff : (before after : Description) (text : List ℕ) (asked : List (List ℕ)) → command_of words ≡ Ok commands.CheckDiff
      → IsToldNetwork told (file_name words) before → IsToldNetwork told (second_name words) after → told (third_name words) ≡ Some text
      → InternetIsNoInterface before → InternetIsNoInterface after → IsDiffText before after asked text → IsFault status ⊎ (status ≡ ends.Yes)
  pub replay : (d : Description) (text : List ℕ) → command_of words ≡ Ok commands.Replay → IsToldNetwork told (file_name words) d
      → AreToldBytes told (second_name words) text → IsFault status ⊎ IsReplayDecided d text status
  pub make : command_of words ≡ Ok commands.Make → IsFault status ⊎ IsMakeDecided words status
  pub expect : (d : Description) (text : List ℕ) → command_of words ≡ Ok commands.Expect → IsToldNetwork told (file_name words) d
      → AreToldBytes told (second_name words) text → IsFault status ⊎ IsExpectDecided d text status
  pub flows : (d : Description) (text : List ℕ) → command_of words ≡ Ok commands.Flows → IsToldNetwork told (file_name words) d
      → AreToldBytes told (second_name words) text → IsFault status ⊎ IsFlowsDecided d text status
  pub matrix : (d : Description) → command_of words ≡ Ok commands.Matrix → IsToldNetwork told (file_name words) d
      → IsFault status ⊎ IsMatrixDecided d words status
  pub reach : (d : Description) → command_of words ≡ Ok commands.Reach → IsToldNetwork told (file_name words) d
      → IsFault status ⊎ IsReachDecided d words status
  pub diff : (before after : Description) → command_of words ≡ Ok commands.Diff → IsToldNetwork told (file_name words) before
      → IsToldNetwork told (second_name words) after → IsFault status ⊎ IsDiffDecided before after words status
  pub unused : (d : Description) → command_of words ≡ Ok commands.Unused → IsToldNetwork told (file_name words) d
      → IsFault status ⊎ IsUnusedDecided d words status

-- ---- failed reads

-- a file that the command's words name failed in this call
pub record ReadFailed (words : List (List ℕ)) (failed : List ℕ → Type 0) : Type 0 where
  pub command : Command
  pub command_is : command_of words ≡ Ok command
  pub number : ℕ
  pub names : list_any (λ k. k == number) (files_of command) ≡ true
  pub is_failed : failed (word_at words number)
