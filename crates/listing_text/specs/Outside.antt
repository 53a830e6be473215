-- The networks that aren't described from which requests start, in the order of their ids.
use Rattle.std.specs.Cmp.Lexicographic.{slice_cmp}
use Rattle.std.specs.List.{range_with_len}
use Rattle.std.specs.List.Sorted.{IsPermutation}
use Rattle.std.specs.Ordering.{nat_cmp}
use Rattle.std.specs.declared.cmp.Ordering.TheVariants.{Less}
use Rattle.std.specs.Prelude.{◌≡◌, ◌==◌, ◌&&◌, AllPairs, Bool, List, None, Option, Some, bytes_eq, codes, false, filter, length, map, not, ℕ}
use Rattle.described_hosts.specs.Outside.{far_id}
use Rattle.query_words.specs.Ends.{is_service}
use Rattle.vpc_laws.specs.Types.{Description, FarNo}
use Rattle.vpc_model.specs.Far.{far_end_of_id}
use Rattle.vpc_model.specs.Lookup.{has_interface}
use Rattle.vpc_model.specs.declared.places.End.TheVariants as ends

-- the network with this number
abbrev pub numbered : ℕ → FarNo
numbered k = record { 0 = k }

-- it is this network
abbrev pub is_same : FarNo → Option FarNo → Bool
is_same k None = false
is_same k (Some l) = k.0 == l.0

-- its id names it as an end: it isn't the word for the internet, and no interface and no earlier network has it
abbrev pub is_meant : Description → FarNo → Bool
is_meant d k = let id = far_id d k in not (bytes_eq id (codes "internet")) && (not (has_interface d id) && is_same k (far_end_of_id d id))

-- its id names it, and connections are opened from there
abbrev pub is_source : Description → FarNo → Bool
is_source d k = is_meant d k && not (is_service d (ends.Far k))

-- all such, in the order of the description
abbrev pub sources_of : Description → List FarNo
sources_of d = filter (is_source d) (map numbered (range_with_len 0 (length d.fars)))

-- the id of the first comes before that of the second, by the first byte in which they differ
abbrev pub ComesBefore : Description → FarNo → FarNo → Type 0
ComesBefore d k l = slice_cmp nat_cmp (far_id d k) (far_id d l) ≡ Less

-- they, each once, in the order of their ids
pub record AreSourcesById (d : Description) (sources : List FarNo) : Type 0 where
  pub all : IsPermutation (sources_of d) sources
  pub ascending : AllPairs (ComesBefore d) sources
