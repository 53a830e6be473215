-- Answers that tell all: yes or no.
use Rattle.std.proofs.Common.{◌≡◌, ◌⊎◌, ◌∙◌, inl, inr, sym}
use Rattle.command_job.specs.declared.status.Status.{Status}
use Rattle.command_job.specs.declared.status.Status.TheVariants as ends

another : (status other : Status) → status ≡ other → (other ≡ ends.Yes → ⊥) → (other ≡ ends.No → ⊥)
    → (status ≡ ends.Yes) ⊎ (status ≡ ends.No) → ⊥
another status other is not_yes not_no (inl whole) = not_yes (sym is ∙ whole)
another status other is not_yes not_no (inr whole) = not_no (sym is ∙ whole)

-- a refusal tells nothing
pub query_is_not_all : (status : Status) → status ≡ ends.Query → (status ≡ ends.Yes) ⊎ (status ≡ ends.No) → ⊥
query_is_not_all status is whole = another status ends.Query is (λ same. cc) (λ same. cc) whole

-- nor does a part tell all
pub more_is_not_all : (status : Status) → status ≡ ends.More → (status ≡ ends.Yes) ⊎ (status ≡ ends.No) → ⊥
more_is_not_all status is whole = another status ends.More is (λ same. cc) (λ same. cc) whole
