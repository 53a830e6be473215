-- What is due tells of a device only where it failed.
use Rattle.std.proofs.Common.{◌≡◌, ◌∙◌, ◌==◌, ℕ, List, Ok, Option, inl, inr, refl, sym, true}
use Rattle.std.specs.List.{list_any}
use Rattle.vpc_commands.specs.Terms.{Command, IsAnswered, IsDue, IsOfDevice, ReadFailed, Status, command_of, file_name, files_of, second_fault, second_name, third_fault, third_name, word_at}
use Rattle.command_job.specs.declared.status.Status.TheVariants as ends
use Rattle.command_job.proofs.Devices.{memory_is_none, no_device, words_are_none}
use Rattle.packet_trace.proofs.Decided.{trace_is_none}
use Rattle.walk_reasons.proofs.Decided.{why_is_none}
use Rattle.network_reach.proofs.Decided.{ask_is_none}
use Rattle.reach_check.proofs.Decided.{text_is_none}
use Rattle.diff_check.proofs.Decided.{diff_check_is_none}
use Rattle.replay_log.proofs.Decided.{replay_is_none}
use Rattle.made_reach.proofs.Decided.{make_is_none}
use Rattle.reach_matrix.proofs.AnswerLemmas.{matrix_tells_of_no_device}
use Rattle.end_reach.proofs.Decided.{reach_is_none}
use Rattle.change_report.proofs.Decided.{diff_is_none}
use Rattle.unused_rules.proofs.Decided.{unused_tells_of_no_device}
use Rattle.flow_check.proofs.Decided.{flows_tell_of_no_device}
use Rattle.policy_check.proofs.Decided.{policies_are_of_no_device}
use Rattle.vpc_commands.specs.Due as due
use Rattle.vpc_commands.specs.declared.words.Command.TheVariants as commands
use Rattle.vpc_commands.proofs.ToldDevices.{IsRead, in_is_read, to_is_read}

failed_at : (words : List (List ℕ)) (failed : List ℕ → Type 0) (command : Command) (number : ℕ) → command_of words ≡ Ok command
    → list_any (λ k. k == number) (files_of command) ≡ true → failed (word_at words number) → ReadFailed words failed
failed_at words failed command number is names failure = record { command = command; command_is = is; number = number; names = names; is_failed = failure }

answer_is_read : (command : Command) (words : List (List ℕ)) (told : List ℕ → Option (List ℕ)) (failed : List ℕ → Type 0) (status : Status) (text : List ℕ)
    → command_of words ≡ Ok command → IsAnswered command words told failed status text → IsOfDevice status → IsRead status (ReadFailed words failed)
answer_is_read commands.Trace words told failed status text is answer h =
    in_is_read told failed (file_name words) _ (ReadFailed words failed) status text (failed_at words failed commands.Trace 2 is refl)
    (λ d so device. absurd (trace_is_none d words status text so device)) answer h
answer_is_read commands.Why words told failed status text is answer h =
    in_is_read told failed (file_name words) _ (ReadFailed words failed) status text (failed_at words failed commands.Why 2 is refl)
    (λ d so device. absurd (why_is_none d words status text so device)) answer h
answer_is_read commands.Ask words told failed status text is answer h =
    in_is_read told failed (file_name words) _ (ReadFailed words failed) status text (failed_at words failed commands.Ask 2 is refl)
    (λ d so device. absurd (ask_is_none d words status text so device)) answer h
answer_is_read commands.Check words told failed status text is answer h =
    in_is_read told failed (file_name words) _ (ReadFailed words failed) status text (failed_at words failed commands.Check 2 is refl)
    (λ d so device. to_is_read second_fault told failed (second_name words) _ _ (ReadFailed words failed) status text (failed_at words failed commands.Check 3 is refl)
    (λ bytes. text_is_none d bytes status text) so device) answer h
answer_is_read commands.CheckDiff words told failed status text is answer h =
    in_is_read told failed (file_name words) _ (ReadFailed words failed) status text (failed_at words failed commands.CheckDiff 2 is refl)
    (λ before so device.
    in_is_read told failed (second_name words) _ (ReadFailed words failed) status text (failed_at words failed commands.CheckDiff 3 is refl)
    (λ after told_so also.
    to_is_read third_fault told failed (third_name words) _ _ (ReadFailed words failed) status text (failed_at words failed commands.CheckDiff 4 is refl)
    (λ bytes. diff_check_is_none before after bytes status text) told_so also) so device) answer h
answer_is_read commands.Replay words told failed status text is answer h =
    in_is_read told failed (file_name words) _ (ReadFailed words failed) status text (failed_at words failed commands.Replay 2 is refl)
    (λ d so device. to_is_read second_fault told failed (second_name words) _ _ (ReadFailed words failed) status text (failed_at words failed commands.Replay 3 is refl)
    (λ bytes. replay_is_none d bytes status text) so device) answer h
answer_is_read commands.Expect words told failed status text is answer h =
    in_is_read told failed (file_name words) _ (ReadFailed words failed) status text (failed_at words failed commands.Expect 2 is refl)
    (λ d so device. to_is_read second_fault told failed (second_name words) _ _ (ReadFailed words failed) status text (failed_at words failed commands.Expect 3 is refl)
    (λ bytes. policies_are_of_no_device d bytes status text) so device) answer h
answer_is_read commands.Flows words told failed status text is answer h =
    in_is_read told failed (file_name words) _ (ReadFailed words failed) status text (failed_at words failed commands.Flows 2 is refl)
    (λ d so device. to_is_read second_fault told failed (second_name words) _ _ (ReadFailed words failed) status text (failed_at words failed commands.Flows 3 is refl)
    (λ bytes. flows_tell_of_no_device d bytes status text) so device) answer h
answer_is_read commands.Matrix words told failed status text is answer h =
    in_is_read told failed (file_name words) _ (ReadFailed words failed) status text (failed_at words failed commands.Matrix 2 is refl)
    (λ d so device. absurd (matrix_tells_of_no_device d words status text so device)) answer h
answer_is_read commands.Reach words told failed status text is answer h =
    in_is_read told failed (file_name words) _ (ReadFailed words failed) status text (failed_at words failed commands.Reach 2 is refl)
    (λ d so device. absurd (reach_is_none d words status text so device)) answer h
answer_is_read commands.Diff words told failed status text is answer h =
    in_is_read told failed (file_name words) _ (ReadFailed words failed) status text (failed_at words failed commands.Diff 2 is refl)
    (λ before so device.
    in_is_read told failed (second_name words) _ (ReadFailed words failed) status text (failed_at words failed commands.Diff 3 is refl)
    (λ after told_so also. absurd (diff_is_none before after words status text told_so also)) so device) answer h
answer_is_read commands.Unused words told failed status text is answer h =
    in_is_read told failed (file_name words) _ (ReadFailed words failed) status text (failed_at words failed commands.Unused 2 is refl)
    (λ d so device. absurd (unused_tells_of_no_device d words status text so device)) answer h
answer_is_read commands.Make words told failed status text is answer h = absurd (make_is_none words status text answer h)

-- a device is told of where reading failed, and of reading alone
device_is_read : (words : List (List ℕ)) (told : List ℕ → Option (List ℕ)) (failed : List ℕ → Type 0) (status : Status) (text : List ℕ)
    → IsDue words told failed status text → IsOfDevice status → IsRead status (ReadFailed words failed)
device_is_read words told failed status text (due.not_words refusal is status_is says) h = absurd (no_device status ends.Words status_is words_are_none h)
device_is_read words told failed status text (due.answered command is so) h = answer_is_read command words told failed status text is so h
device_is_read words told failed status text (due.no_memory status_is says) h = absurd (no_device status ends.Memory status_is memory_is_none h)

-- an answer that tells of a failed read is due where a read failed
pub failed_if_read : (words : List (List ℕ)) (told : List ℕ → Option (List ℕ)) (failed : List ℕ → Type 0) (status : Status) (text : List ℕ)
    → IsDue words told failed status text → status ≡ ends.Read → ReadFailed words failed
failed_if_read words told failed status text answer is = let read = device_is_read words told failed status text answer (inl is) in read.1

-- none that is due tells of a failed write
pub never_write : (words : List (List ℕ)) (told : List ℕ → Option (List ℕ)) (failed : List ℕ → Type 0) (status : Status) (text : List ℕ)
    → IsDue words told failed status text → status ≡ ends.Write → ⊥
never_write words told failed status text answer is =
    let read = device_is_read words told failed status text answer (inr is) in
    let same : ends.Read ≡ ends.Write = sym read.0 ∙ is in
    cc
