-- What `matrix` answers in a described network.
use Rattle.std.specs.Prelude.{◌<◌, ◌≡◌, ◌≤◌, Err, List, Ok, codes, ℕ}
use Rattle.command_job.specs.Lines.{line, query_refusal_line}
use Rattle.command_job.specs.declared.status.Status.{Status}
use Rattle.command_job.specs.declared.status.Status.TheVariants as ends
use Rattle.query_words.specs.declared.refusal.QueryRefusal.{QueryRefusal}
use Rattle.vpc_laws.specs.Types.{Description}
use Rattle.described_hosts.specs.Hosts.{host_count}
use Rattle.reach_matrix.specs.Matrix.{IsMatrix}
use Rattle.reach_matrix.specs.Words.{ports_asked}

-- of how many hosts a matrix tells at most
abbrev pub host_limit : ℕ
host_limit = 500

-- the line of the refusal of a network with more
abbrev pub too_many_line : List ℕ
too_many_line = line (codes "refused matrix TooManyInterfaces")

-- the matrix of these ports
pub record IsMapped (d : Description) (ports : ℕ × ℕ) (status : Status) (text : List ℕ) : Type 0 where
  pub status_is : status ≡ ends.Yes
  pub matrix : IsMatrix d ports text

-- that there are too many hosts, or the matrix
pub data IsMatrixOf (d : Description) (ports : ℕ × ℕ) (status : Status) (text : List ℕ) : Type 0 where
  too_many : host_limit < host_count d → status ≡ ends.Query → text ≡ too_many_line → IsMatrixOf d ports status text
  told : host_count d ≤ host_limit → IsMapped d ports status text → IsMatrixOf d ports status text

-- what `matrix` answers to its words: why they can't be taken, or what is answered for the ports that they ask for
pub data IsMatrixAnswered (d : Description) (words : List (List ℕ)) (status : Status) (text : List ℕ) : Type 0 where
  refused : (refusal : QueryRefusal) → ports_asked words ≡ Err refusal → status ≡ ends.Query → text ≡ query_refusal_line refusal → IsMatrixAnswered d words status text
  answered : (ports : ℕ × ℕ) → ports_asked words ≡ Ok ports → IsMatrixOf d ports status text → IsMatrixAnswered d words status text

-- ---- completeness

-- where the words are right and the hosts few enough, the matrix is told
pub record IsMatrixDecided (d : Description) (words : List (List ℕ)) (status : Status) : Type 0 where
  pub yes : (ports : ℕ × ℕ) → ports_asked words ≡ Ok ports → host_count d ≤ host_limit → status ≡ ends.Yes
