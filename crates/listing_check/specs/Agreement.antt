-- Whether what is told of a request is what is wanted of it.
use Rattle.std.specs.Prelude.{if◌then◌else◌, List, None, Option, Some, bytes_eq, ℕ}
use Rattle.vpc_laws.specs.Types.{Header}

-- a word where both are one text, or neither is there
abbrev pub agreed : Option (List ℕ) → Option (List ℕ) → Option (Unit {0})
agreed None None = Some tt
agreed None (Some told) = None
agreed (Some wanted) None = None
agreed (Some wanted) (Some told) = if bytes_eq wanted told then Some tt else None

-- a word for a request of which is told what is wanted; where nothing is wanted, for one of which nothing is
unfoldable pub agreement_of : (Header → Option (List ℕ)) → Option (List ℕ) → Header → Option (Unit {0})
agreement_of told wanted h = agreed wanted (told h)
