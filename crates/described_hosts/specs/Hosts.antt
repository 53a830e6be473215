-- The interfaces that belong to no gateway, in the order of their ids.
use Rattle.std.specs.Cmp.Lexicographic.{slice_cmp}
use Rattle.std.specs.List.{range_with_len}
use Rattle.std.specs.List.Sorted.{IsPermutation}
use Rattle.std.specs.Ordering.{nat_cmp}
use Rattle.std.specs.declared.cmp.Ordering.TheVariants.{Less}
use Rattle.std.specs.Prelude.{◌≡◌, AllPairs, Bool, List, count_by, filter, length, map, not, ℕ}
use Rattle.vpc_laws.specs.Types.{Description, EniNo, Interface}
use Rattle.vpc_model.specs.Lookup.{interface_at}
use Rattle.vpc_model.specs.Step.Crossing.{is_gateway}

-- the interface belongs to no gateway; it may be attached to nothing
abbrev pub is_host : Interface → Bool
is_host e = not (is_gateway e.kind)

-- how many there are
abbrev pub host_count : Description → ℕ
host_count d = count_by is_host d.interfaces

-- the interface with this number
abbrev pub numbered : ℕ → EniNo
numbered k = record { 0 = k }

-- they, in the order of the description
abbrev pub hosts_of : Description → List EniNo
hosts_of d = filter (λ i. is_host (interface_at d i)) (map numbered (range_with_len 0 (length d.interfaces)))

-- the NetworkInterfaceId of an interface
abbrev pub id_of : Description → EniNo → List ℕ
id_of d i = let e = interface_at d i in e.id

-- the id of the first comes before that of the second, by the first byte in which they differ
abbrev pub ComesBefore : Description → EniNo → EniNo → Type 0
ComesBefore d i j = slice_cmp nat_cmp (id_of d i) (id_of d j) ≡ Less

-- all of them, each once, in the order of their ids
pub record AreHostsById (d : Description) (hosts : List EniNo) : Type 0 where
  pub all : IsPermutation (hosts_of d) hosts
  pub ascending : AllPairs (ComesBefore d) hosts
