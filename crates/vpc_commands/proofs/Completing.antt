-- What is due decides the status, where the files are told.
use Rattle.std.proofs.Common.{◌≡◌, ◌⊎◌, ℕ, List, Option, Ok}
use Rattle.vpc_commands.specs.Terms.{AreToldBytes, InternetIsNoInterface, IsComplete, IsDiffListingDecided, IsDue, IsFault, IsTextDecided, IsToldNetwork, Status, command_of, file_name, second_fault, second_name, third_fault, third_name}
use Rattle.vpc_laws.specs.Types.{Description}
use Rattle.packet_trace.proofs.Decided.{trace_is_decided}
use Rattle.walk_reasons.proofs.Decided.{why_is_decided}
use Rattle.network_reach.proofs.Decided.{ask_is_decided}
use Rattle.reach_check.proofs.Decided.{text_is_decided}
use Rattle.diff_check.proofs.Decided.{diff_check_is_decided}
use Rattle.reach_check.proofs.FirstLines.{no_listing}
use Rattle.replay_log.proofs.Decided.{replay_is_decided}
use Rattle.made_reach.proofs.Decided.{make_is_decided}
use Rattle.reach_matrix.proofs.AnswerLemmas.{matrix_is_decided}
use Rattle.end_reach.proofs.Decided.{reach_is_decided}
use Rattle.change_report.proofs.Decided.{diff_is_decided}
use Rattle.unused_rules.proofs.Decided.{unused_is_decided}
use Rattle.flow_check.proofs.Decided.{flows_is_decided}
use Rattle.policy_check.proofs.Decided.{expect_is_decided}
use Rattle.listing_laws.proofs.DiffTruths.{diff_texts_fit, diff_texts_pass}
use Rattle.listing_laws.proofs.ReachAnswers.{reach_texts_fit, reach_texts_pass}
use Rattle.listing_laws.proofs.ReadNetworks.{bundles_can_be_listed}
use Rattle.listing_laws.specs.Networks.{CanBeListed}
use Rattle.vpc_commands.specs.declared.words.Command.TheVariants as commands
use Rattle.vpc_commands.proofs.ToldFiles.{known_in, known_to, or_either, or_known, told_is_accepted}
use Rattle.vpc_commands.proofs.Known.{known_of, reported_is_true}

module _ (words : List (List ℕ)) (told : List ℕ → Option (List ℕ)) (failed : List ℕ → Type 0) (status : Status) (text : List ℕ) (answer : IsDue words told failed status text) where
  -- `check` decides a told text
  text_known : (d : Description) (bytes : List ℕ) → command_of words ≡ Ok commands.Check → IsToldNetwork told (file_name words) d
      → AreToldBytes told (second_name words) bytes → IsFault status ⊎ IsTextDecided d bytes status
  text_known d bytes named at there =
      or_known (text_is_decided d bytes status text)
      (or_either (known_to second_fault told failed (second_name words) _ _ bytes status text there)
      (or_either (known_in told failed (file_name words) _ d status text at) (known_of commands.Check words told failed status text answer named)))

  -- and one about two networks
  diff_known : (before after : Description) (bytes : List ℕ) → command_of words ≡ Ok commands.CheckDiff → IsToldNetwork told (file_name words) before
      → IsToldNetwork told (second_name words) after → AreToldBytes told (third_name words) bytes → IsFault status ⊎ IsDiffListingDecided before after bytes status
  diff_known before after bytes named one other there =
      or_known (diff_check_is_decided before after bytes status text (told_is_accepted told (file_name words) before one) (told_is_accepted told (second_name words) after other))
      (or_either (known_to third_fault told failed (third_name words) _ _ bytes status text there)
      (or_either (known_in told failed (second_name words) _ after status text other)
      (or_either (known_in told failed (file_name words) _ before status text one) (known_of commands.CheckDiff words told failed status text answer named))))

-- a told network without such an interface
can_be_listed : (told : List ℕ → Option (List ℕ)) (file : List ℕ) (d : Description) → IsToldNetwork told file d → InternetIsNoInterface d → CanBeListed d
can_be_listed told file d at apart = bundles_can_be_listed at.describes.value d at.describes.accepted apart

pub complete_if_due : (words : List (List ℕ)) (told : List ℕ → Option (List ℕ)) (failed : List ℕ → Type 0) (status : Status) (text : List ℕ)
    → IsDue words told failed status text → IsComplete words told status
complete_if_due words told failed status text answer = record {
  trace = λ d named at.
      or_known (trace_is_decided d words status text)
      (or_either (known_in told failed (file_name words) _ d status text at) (known_of commands.Trace words told failed status text answer named));
  why = λ d named at.
      or_known (why_is_decided d words status text)
      (or_either (known_in told failed (file_name words) _ d status text at) (known_of commands.Why words told failed status text answer named));
  ask = λ d named at.
      or_known (ask_is_decided d words status text)
      (or_either (known_in told failed (file_name words) _ d status text at) (known_of commands.Ask words told failed status text answer named));
  check = text_known words told failed status text answer;
  check_diff = diff_known words told failed status text answer;
  certified = λ d bytes asked named at there reported.
      let of_ask = reported_is_true d asked bytes reported in
      or_known (λ decided. let of_report = decided.report (no_listing d bytes of_ask.report of_ask.reads) of_ask.report of_ask.reads in of_report.yes of_ask.true_of)
      (text_known words told failed status text answer d bytes named at (record { told_so = there; few = of_ask.short }));
  certified_reach = λ d bytes asked named at there apart listed.
      let can = can_be_listed told (file_name words) d at apart in
      or_known (reach_texts_pass d asked bytes status can listed)
      (text_known words told failed status text answer d bytes named at (record { told_so = there; few = reach_texts_fit d asked bytes can listed }));
  certified_diff = λ before after bytes asked named one other there first second listed.
      let can = can_be_listed told (file_name words) before one first in
      let can_after = can_be_listed told (second_name words) after other second in
      or_known (diff_texts_pass before after asked bytes status can can_after listed)
      (diff_known words told failed status text answer before after bytes named one other (record { told_so = there; few = diff_texts_fit before after asked bytes can can_after listed }));
  replay = λ d bytes named at there.
      or_known (replay_is_decided d bytes status text)
      (or_either (known_to second_fault told failed (second_name words) _ _ bytes status text there)
      (or_either (known_in told failed (file_name words) _ d status text at) (known_of commands.Replay words told failed status text answer named)));
  expect = λ d bytes named at there.
      or_known (expect_is_decided d bytes status text)
      (or_either (known_to second_fault told failed (second_name words) _ _ bytes status text there)
      (or_either (known_in told failed (file_name words) _ d status text at) (known_of commands.Expect words told failed status text answer named)));
  flows = λ d bytes named at there.
      or_known (flows_is_decided d bytes status text)
      (or_either (known_to second_fault told failed (second_name words) _ _ bytes status text there)
      (or_either (known_in told failed (file_name words) _ d status text at) (known_of commands.Flows words told failed status text answer named)));
  matrix = λ d named at.
      or_known (matrix_is_decided d words status text)
      (or_either (known_in told failed (file_name words) _ d status text at) (known_of commands.Matrix words told failed status text answer named));
  reach = λ d named at.
      or_known (reach_is_decided d words status text)
      (or_either (known_in told failed (file_name words) _ d status text at) (known_of commands.Reach words told failed status text answer named));
  diff = λ before after named one other.
      or_known (diff_is_decided before after words status text)
      (or_either (known_in told failed (second_name words) _ after status text other)
      (or_either (known_in told failed (file_name words) _ before status text one) (known_of commands.Diff words told failed status text answer named)));
  unused = λ d named at.
      or_known (unused_is_decided d words status text)
      (or_either (known_in told failed (file_name words) _ d status text at) (known_of commands.Unused words told failed status text answer named));
  make = λ named. or_known (make_is_decided words status text) (known_of commands.Make words told failed status text answer named);
}
