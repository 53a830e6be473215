-- Ranges of which no number is told.
use Rattle.std.proofs.Common.{◌≡◌, ℕ, List, Ok, refl}
use Rattle.serde_json.specs.Data.{null}
use Rattle.read_filters.specs.Ranges.{range_of, every_q}
use Rattle.read_filters.specs.declared.ranges.QKind.{QKind}
use Rattle.read_filters.specs.declared.ranges.QKind.TheVariants.{Ports, Messages, Anything}

-- where no number is told, the range is every q
pub range_of-null : (kind : QKind) (path first last : List ℕ) → range_of kind null path first last ≡ Ok every_q
range_of-null Ports path first last = refl
range_of-null Messages path first last = refl
range_of-null Anything path first last = refl

pub ruleset untold = (range_of-null)
