-- What is chosen among rows.
use Rattle.std.specs.Prelude.{◌≡◌, ◌<◌, ◌≤◌, ◌⊎◌, ℕ, Bool, Contains, IsPermutation, IsSortedByKey, List, None, Option, Some, false, find, nat_lt, option_and_then, slice_get, true, unwrap_or}
use Rattle.std.specs.List.Sorted.{IsStableByKey}
use Rattle.std.specs.Ordering.{nat_cmp}
use Rattle.prefix_text.specs.Block.{holds}
use Rattle.vpc_laws.specs.Types.{AclRow, Block, Description, Dir, Header, Route, TgwRoute}
use Rattle.vpc_model.specs.declared.rows.Reach.TheVariants as reaches
use Rattle.vpc_model.specs.Acls.{acl_matches, acl_verdict, verdict_of_row}
use Rattle.vpc_model.specs.Choice.{chosen_number}
use Rattle.vpc_model.specs.Lookup.{entries_of}
use Rattle.vpc_model.specs.Routes.{chosen_route, is_candidate, kind_of, match_length, matches}
use Rattle.vpc_model.specs.Transit.{chosen_tgw_route}

-- ---- choices among any rows

-- the row with this number is a candidate, to which every other candidate yields
abbrev pub IsChoice : {X : Type 0} → (X → Bool) → (ℕ → X → ℕ → X → Type 0) → List X → ℕ → Type 0
IsChoice {X = X} candidate Yields rows k =
    (x : X) × (slice_get rows k ≡ Some x) × (candidate x ≡ true)
    × ((j : ℕ) (y : X) → slice_get rows j ≡ Some y → candidate y ≡ true → (j ≡ k) ⊎ Yields j y k x)

-- the number of such a row, or none where there is no candidate
abbrev pub Chooses : {X : Type 0} → (X → Bool) → (ℕ → X → ℕ → X → Type 0) → List X → Option ℕ → Type 0
Chooses {X = X} candidate Yields rows None = (j : ℕ) (y : X) → slice_get rows j ≡ Some y → candidate y ≡ false
Chooses {X = X} candidate Yields rows (Some k) = IsChoice candidate Yields rows k

-- ---- routes

-- the length with which a route matches the address
abbrev pub length_of : Description → ℕ → Route → ℕ
length_of d a r = unwrap_or (match_length d a r.reach) 0

-- a smaller length, or the same length and a greater kind, or both the same and a later number
abbrev pub RouteYields : Description → ℕ → ℕ → Route → ℕ → Route → Type 0
RouteYields d a j s k r =
    (length_of d a s < length_of d a r)
    ⊎ ((length_of d a s ≡ length_of d a r) × ((kind_of r < kind_of s) ⊎ ((kind_of s ≡ kind_of r) × (k < j))))

-- a table chooses the candidate to which every other one yields
abbrev pub RoutesAreChosen : Type 0
RoutesAreChosen =
    (d : Description) (routes : List Route) (a : ℕ)
    → Chooses (is_candidate d routes a) (RouteYields d a) routes (chosen_route d routes a)

-- so none is chosen only where none matches: a local route that keeps propagated ones back is a candidate itself
abbrev pub UnroutedMatchNothing : Type 0
UnroutedMatchNothing =
    (d : Description) (routes : List Route) (a : ℕ) → chosen_route d routes a ≡ None
    → (j : ℕ) (r : Route) → slice_get routes j ≡ Some r → matches d a r ≡ false

-- the length of an entry that holds the address, where every other one that does is as long or shorter;
-- none where no entry does
abbrev pub IsLongest : ℕ → List Block → Option ℕ → Type 0
IsLongest a entries None = (b : Block) → Contains entries b → holds a b ≡ false
IsLongest a entries (Some n) =
    ((b : Block) × Contains entries b × (holds a b ≡ true) × (b.length ≡ n))
    × ((b : Block) → Contains entries b → holds a b ≡ true → b.length ≤ n)

-- a prefix list matches by the longest of its entries
abbrev pub ListsMatchByLongest : Type 0
ListsMatchByLongest =
    (d : Description) (a : ℕ) (id : List ℕ)
    → IsLongest a (entries_of d id) (match_length d a (reaches.List id))

-- ---- transit routes

-- shorter, or as long and propagated beside a static one, or alike in both and of a later number
abbrev pub TgwRouteYields : ℕ → TgwRoute → ℕ → TgwRoute → Type 0
TgwRouteYields j s k r =
    (s.block.length < r.block.length)
    ⊎ ((s.block.length ≡ r.block.length)
    × (((r.propagated ≡ false) × (s.propagated ≡ true)) ⊎ ((s.propagated ≡ r.propagated) × (k < j))))

-- a transit gateway table chooses, of the routes whose block holds the address, the one to which every
-- other yields
abbrev pub TgwRoutesAreChosen : Type 0
TgwRoutesAreChosen =
    (routes : List TgwRoute) (a : ℕ)
    → Chooses (λ r. holds a r.block) TgwRouteYields routes (chosen_tgw_route routes a)

-- ---- ACL rows

-- a greater number, or the same number and a later place in the list
abbrev pub AclRowYields : ℕ → AclRow → ℕ → AclRow → Type 0
AclRowYields j s k r = (r.number < s.number) ⊎ ((s.number ≡ r.number) × (k < j))

-- the row of an ACL that counts, by its place in the list
abbrev pub chosen_acl_row : List AclRow → Dir → Header → Option ℕ
chosen_acl_row rows dir h = chosen_number (acl_matches dir h) (λ r s. nat_lt r.number s.number) rows

-- the verdict of an ACL is that of the matching row to which every other yields, or no where none matches
abbrev pub AclRowsAreChosen : Type 0
AclRowsAreChosen =
    (rows : List AclRow) (dir : Dir) (h : Header)
    → Chooses (acl_matches dir h) AclRowYields rows (chosen_acl_row rows dir h)
    × (acl_verdict rows dir h ≡ verdict_of_row (option_and_then (slice_get rows) (chosen_acl_row rows dir h)))

-- and that of the first row that matches, once the rows are sorted by number, rows of one number in the
-- order in which they stood
abbrev pub AclRowsMayBeSorted : Type 0
AclRowsMayBeSorted =
    (rows sorted : List AclRow) (dir : Dir) (h : Header)
    → IsPermutation rows sorted → IsSortedByKey (λ r. r.number) nat_cmp sorted
    → IsStableByKey (λ r. r.number) nat_cmp rows sorted
    → acl_verdict rows dir h ≡ verdict_of_row (find (acl_matches dir h) sorted)
