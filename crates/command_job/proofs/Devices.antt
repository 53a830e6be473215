-- No other status tells of a device.
use Rattle.std.proofs.Common.{◌≡◌, subst, inl, inr}
use Rattle.command_job.specs.Status.{IsOfDevice}
use Rattle.command_job.specs.declared.status.Status.{Status}
use Rattle.command_job.specs.declared.status.Status.TheVariants as ends

-- what ends in no status of a device tells of none
pub no_device : (status end : Status) → status ≡ end → (IsOfDevice end → ⊥) → IsOfDevice status → ⊥
no_device status end is not h = not (subst IsOfDevice is h)

-- what is neither of the two
neither : (status : Status) → (status ≡ ends.Read → ⊥) → (status ≡ ends.Write → ⊥) → IsOfDevice status → ⊥
neither status read write (inl e) = read e
neither status read write (inr e) = write e

pub words_are_none : IsOfDevice ends.Words → ⊥
words_are_none = neither ends.Words (λ e. cc) (λ e. cc)

pub memory_is_none : IsOfDevice ends.Memory → ⊥
memory_is_none = neither ends.Memory (λ e. cc) (λ e. cc)

pub description_is_none : IsOfDevice ends.Description → ⊥
description_is_none = neither ends.Description (λ e. cc) (λ e. cc)

pub query_is_none : IsOfDevice ends.Query → ⊥
query_is_none = neither ends.Query (λ e. cc) (λ e. cc)

pub yes_is_none : IsOfDevice ends.Yes → ⊥
yes_is_none = neither ends.Yes (λ e. cc) (λ e. cc)

pub no_is_none : IsOfDevice ends.No → ⊥
no_is_none = neither ends.No (λ e. cc) (λ e. cc)

pub more_is_none : IsOfDevice ends.More → ⊥
more_is_none = neither ends.More (λ e. cc) (λ e. cc)

pub unknown_is_none : IsOfDevice ends.Unknown → ⊥
unknown_is_none = neither ends.Unknown (λ e. cc) (λ e. cc)
