-- A device is told of only where it failed.
use Rattle.std.proofs.Common.{◌≡◌, ℕ, List, Option}
use Rattle.vpc_laws.specs.Types.{Description}
use Rattle.command_job.specs.Status.{IsOfDevice}
use Rattle.command_job.specs.declared.status.Status.{Status}
use Rattle.command_job.specs.declared.status.Status.TheVariants as ends
use Rattle.command_job.proofs.Devices.{description_is_none, no_device, query_is_none}
use Rattle.vpc_commands.specs.Terms.{IsAnsweredBy, IsAnsweredTo, IsNoNetwork, Which}
use Rattle.vpc_commands.specs.Files as files

-- what an answer that tells of a device says: that reading failed, of a file
abbrev pub IsRead : Status → Type 0 → Type 0
IsRead status failure = (status ≡ ends.Read) × failure

-- ---- the file that describes the network

no_network_is_read : {which : Which} (told : List ℕ → Option (List ℕ)) (failed : List ℕ → Type 0) (file : List ℕ) (status : Status) (text : List ℕ)
    → IsNoNetwork which told failed file status text → IsOfDevice status → IsRead status (failed file)
no_network_is_read told failed file status text (files.not_read failure status_is says) h = (status_is, failure)
no_network_is_read told failed file status text (files.too_big bytes read long status_is says) h = absurd (no_device status ends.Description status_is description_is_none h)
no_network_is_read told failed file status text (files.refused bytes read few refused) h = absurd (no_device status ends.Description refused.status_is description_is_none h)

-- the file failed, or the answer tells of a device
pub in_is_read : {which : Which} (told : List ℕ → Option (List ℕ)) (failed : List ℕ → Type 0) (file : List ℕ) (answer : Description → Status → List ℕ → Type 0) (F : Type 0) (status : Status) (text : List ℕ)
    → (failed file → F) → ((d : Description) → answer d status text → IsOfDevice status → IsRead status F)
    → IsAnsweredBy which told failed file answer status text → IsOfDevice status → IsRead status F
in_is_read told failed file answer F status text of_file of_answer (files.no_network none) h =
    let read = no_network_is_read told failed file status text none h in (read.0, of_file read.1)
in_is_read told failed file answer F status text of_file of_answer (files.answered d is so) h = of_answer d so h

-- ---- the file of a text

pub to_is_read : (fault : List ℕ) (told : List ℕ → Option (List ℕ)) (failed : List ℕ → Type 0) (file : List ℕ) (refusal : List ℕ → List ℕ) (answer : List ℕ → Status → List ℕ → Type 0) (F : Type 0) (status : Status) (text : List ℕ)
    → (failed file → F) → ((bytes : List ℕ) → answer bytes status text → IsOfDevice status → ⊥)
    → IsAnsweredTo fault told failed file refusal answer status text → IsOfDevice status → IsRead status F
to_is_read fault told failed file refusal answer F status text of_file none (files.not_read failure status_is says) h = (status_is, of_file failure)
to_is_read fault told failed file refusal answer F status text of_file none (files.too_big bytes read long status_is says) h = absurd (no_device status ends.Query status_is query_is_none h)
to_is_read fault told failed file refusal answer F status text of_file none (files.answered bytes read few so) h = absurd (none bytes so h)
