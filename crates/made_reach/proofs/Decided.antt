-- What `make` answers is decided by its number, and tells of no device.
use Rattle.std.proofs.Common.{◌≡◌, ◌∙◌, List, None, Some, sym, ℕ}
use Rattle.command_job.specs.Status.{IsOfDevice}
use Rattle.command_job.specs.declared.status.Status.{Status}
use Rattle.command_job.specs.declared.status.Status.TheVariants as ends
use Rattle.command_job.proofs.Devices.{no_device, query_is_none, yes_is_none}
use Rattle.made_reach.specs.Made.{IsMade, IsMakeDecided, made_count}
use Rattle.made_reach.specs.Made as makes

pub make_is_decided : (words : List (List ℕ)) (status : Status) (text : List ℕ) → IsMade words status text → IsMakeDecided words status
make_is_decided words status text (makes.refused none status_is text_is) n meant = let same : None ≡ Some n = sym none ∙ meant in cc
make_is_decided words status text (makes.surveyed m is survey) n meant = survey.status_is

pub make_is_none : (words : List (List ℕ)) (status : Status) (text : List ℕ) → IsMade words status text → IsOfDevice status → ⊥
make_is_none words status text (makes.refused none status_is text_is) h = no_device status ends.Query status_is query_is_none h
make_is_none words status text (makes.surveyed n is survey) h = no_device status ends.Yes survey.status_is yes_is_none h
