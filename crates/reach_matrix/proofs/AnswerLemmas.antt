-- What is answered, and that it is complete.
use Rattle.std.proofs.Common.{Err, List, Ok, sym, ℕ, ◌∙◌, ◌≡◌}
use Rattle.vpc_base.proofs.Numbers.{few-or-many}
use Rattle.command_job.proofs.Devices.{no_device, query_is_none, yes_is_none}
use Rattle.command_job.specs.Status.{IsOfDevice}
use Rattle.command_job.specs.declared.status.Status.{Status}
use Rattle.command_job.specs.declared.status.Status.TheVariants as ends
use Rattle.vpc_laws.specs.Types.{Description}
use Rattle.reach_matrix.specs.Answered.{IsMatrixAnswered, IsMatrixDecided, host_limit}
use Rattle.reach_matrix.specs.Answered as matrix
use Rattle.described_hosts.specs.Hosts.{host_count}
use Rattle.reach_matrix.specs.Words.{ports_asked}

same-ports : (words : List (List ℕ)) (p q : ℕ × ℕ) → ports_asked words ≡ Ok p → ports_asked words ≡ Ok q → p ≡ q
same-ports words p q a b = let same : Ok p ≡ Ok q = sym a ∙ b in cc

-- where the words are right and the hosts few enough, it ends well
pub matrix_is_decided : (d : Description) (words : List (List ℕ)) (status : Status) (text : List ℕ) → IsMatrixAnswered d words status text → IsMatrixDecided d words status
matrix_is_decided d words status text (matrix.refused refusal is status_is text_is) =
    record { yes = λ ports right few. let same : Err refusal ≡ Ok ports = sym is ∙ right in absurd cc }
matrix_is_decided d words status text (matrix.answered ports is (matrix.too_many many status_is text_is)) =
    record { yes = λ others right few. absurd (few-or-many (host_count d) host_limit many few) }
matrix_is_decided d words status text (matrix.answered ports is (matrix.told few mapped)) = record { yes = λ others right fewer. mapped.status_is }

-- no answer tells of a device
pub matrix_tells_of_no_device : (d : Description) (words : List (List ℕ)) (status : Status) (text : List ℕ) → IsMatrixAnswered d words status text → IsOfDevice status → ⊥
matrix_tells_of_no_device d words status text (matrix.refused refusal is status_is text_is) = no_device status ends.Query status_is query_is_none
matrix_tells_of_no_device d words status text (matrix.answered ports is (matrix.too_many many status_is text_is)) = no_device status ends.Query status_is query_is_none
matrix_tells_of_no_device d words status text (matrix.answered ports is (matrix.told few mapped)) = no_device status ends.Yes mapped.status_is yes_is_none
