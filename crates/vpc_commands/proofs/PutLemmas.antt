-- What follows from a due answer that was written, or a part of it.
use Rattle.std.proofs.Common.{◌∙◌, inl, inr, subst, sym}
use Rattle.std.specs.Prelude.{ℕ, ◌≡◌, List, Option}
use Rattle.vpc_commands.specs.Due as due
use Rattle.vpc_commands.specs.Complete.{IsComplete, IsFault, ReadFailed}
use Rattle.vpc_commands.specs.Due.{IsAnswer, IsDue, only}
use Rattle.command_job.specs.declared.status.Status.{Status}
use Rattle.command_job.specs.declared.status.Status.TheVariants as ends
use Rattle.vpc_commands.proofs.Devices.{failed_if_read, never_write}
use Rattle.vpc_commands.proofs.Completing.{complete_if_due}

-- a due pair in place of an equal one
due_as : (words : List (List ℕ)) (told : List ℕ → Option (List ℕ)) (failed : List ℕ → Type 0) (status s : Status) (text t : List ℕ)
    → IsDue words told failed status text → only status text s t → IsDue words told failed s t
due_as words told failed status s text t answer same =
    subst (λ (s : Status). IsDue words told failed s t) (sym same.0) (subst (λ (t : List ℕ). IsDue words told failed status t) (sym same.1) answer)

pub due_if_put : (words : List (List ℕ)) (told : List ℕ → Option (List ℕ)) (failed : List ℕ → Type 0) (status : Status) (text : List ℕ) (old new : Option (List ℕ)) (rose : Type 0) (end : Status)
    → IsDue words told failed status text → IsAnswer (only status text) old new rose end → IsAnswer (IsDue words told failed) old new rose end
due_if_put words told failed status text old new rose end answer (due.whole t same added) = due.whole t (due_as words told failed status end text t answer same) added
due_if_put words told failed status text old new rose end answer (due.cut_short other t same part failure is) =
    due.cut_short other t (due_as words told failed status other text t answer same) part failure is

complete_if_fault : (words : List (List ℕ)) (told : List ℕ → Option (List ℕ)) (status : Status) → IsFault status → IsComplete words told status
complete_if_fault words told status fault = record {
  trace = λ d named at. inl fault;
  why = λ d named at. inl fault;
  ask = λ d named at. inl fault;
  check = λ d bytes named at there. inl fault;
  check_diff = λ before after bytes named one other there. inl fault;
  certified = λ d bytes asked named at there reported. inl fault;
  certified_reach = λ d bytes asked named at there apart listed. inl fault;
  certified_diff = λ before after bytes asked named one other there first second listed. inl fault;
  replay = λ d bytes named at there. inl fault;
  make = λ named. inl fault;
  matrix = λ d named at. inl fault;
  reach = λ d named at. inl fault;
  diff = λ before after named one other. inl fault;
  unused = λ d named at. inl fault;
  flows = λ d bytes named at there. inl fault;
  expect = λ d bytes named at there. inl fault;
}

pub complete_if_put : (words : List (List ℕ)) (told : List ℕ → Option (List ℕ)) (failed : List ℕ → Type 0) (status : Status) (text : List ℕ) (old new : Option (List ℕ)) (rose : Type 0) (end : Status)
    → IsDue words told failed status text → IsAnswer (only status text) old new rose end → IsComplete words told end
complete_if_put words told failed status text old new rose end answer (due.whole t same added) =
    subst (λ (s : Status). IsComplete words told s) (sym same.0) (complete_if_due words told failed status text answer)
complete_if_put words told failed status text old new rose end answer (due.cut_short other t same part failure is) = complete_if_fault words told end (inr (inl is))

write_is_no_read : (end : Status) → end ≡ ends.Write → end ≡ ends.Read → ⊥
write_is_no_read end is other = let same : ends.Read ≡ ends.Write = sym other ∙ is in cc

pub read_if_put : (words : List (List ℕ)) (told : List ℕ → Option (List ℕ)) (failed : List ℕ → Type 0) (status : Status) (text : List ℕ) (old new : Option (List ℕ)) (rose : Type 0) (end : Status)
    → IsDue words told failed status text → IsAnswer (only status text) old new rose end → end ≡ ends.Read → ReadFailed words failed
read_if_put words told failed status text old new rose end answer (due.whole t same added) is = failed_if_read words told failed status text answer (sym same.0 ∙ is)
read_if_put words told failed status text old new rose end answer (due.cut_short other t same part failure ended) is = absurd (write_is_no_read end ended is)

pub rose_if_put : (words : List (List ℕ)) (told : List ℕ → Option (List ℕ)) (failed : List ℕ → Type 0) (status : Status) (text : List ℕ) (old new : Option (List ℕ)) (rose : Type 0) (end : Status)
    → IsDue words told failed status text → IsAnswer (only status text) old new rose end → end ≡ ends.Write → rose
rose_if_put words told failed status text old new rose end answer (due.whole t same added) is = absurd (never_write words told failed status text answer (sym same.0 ∙ is))
rose_if_put words told failed status text old new rose end answer (due.cut_short other t same part failure ended) is = failure
