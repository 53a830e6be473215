-- The blocks of routes tell the route that the table chooses.
use Rattle.std.proofs.Common.{All, Bool, Contains, List, None, Option, Some, [], ap, arith, false, filter, flat_map, if◌then◌else◌, inl, inr, is_some, length, map, nat_le, not, option_map, refl, slice_get, subst, suc, sym, true, unwrap_or, zero, ℕ, ◌&&◌, ◌*◌, ◌++◌, ◌+◌, ◌-◌, ◌<◌, ◌^◌, ◌∙◌, ◌∷◌, ◌≡◌, ◌≤◌, ◌⊎◌}
use Rattle.std.specs.List.{list_any}
use Rattle.vpc_base.proofs.Lemmas.{All-contains, Any-from_list_any, Contains-append_cases, Contains-append_left, Contains-append_right, Contains-cases, Contains-filter, Contains-flat_map, Contains-here, Contains-map, Contains-none, and_cases, and_from, and_left, and_parts, and_right, both_ways, cases_Bool, cases_lt, cond_both, false_from_ne_true, filter-member, flat_map-member, get_or_from_slice_get, le-leb, leb-true, length-filter-le, length-map, list_any-fails, map-member, not-false, not_from_false, not_from_true, slice_get-get_or, slice_get_within}
use Rattle.prefix_text.specs.Block.{Block, IsBlock, holds, last_of}
use Rattle.piece_table.specs.Pieces.{PieceLists, told_at}
use Rattle.vpc_laws.specs.Choice.{Chooses, IsLongest, RouteYields, length_of}
use Rattle.vpc_laws.specs.Types.{Description, Reach, Route}
use Rattle.vpc_laws.proofs.Rows.{lists_match_by_longest, routes_are_chosen, unrouted_match_nothing}
use Rattle.vpc_model.specs.declared.rows.Reach.TheVariants as reaches
use Rattle.vpc_model.specs.Terms.{all_cuts, block_cuts, blocks_of_reach, chosen_route, cuts_of_route, entries_of, is_candidate, is_local, kind_of, kind_of_reach, match_length, matches}
use Rattle.block_pieces.specs.declared.rows.BlockRow.{BlockRow}
use Rattle.block_pieces.specs.Terms.{IsAsGood, borders_of, told_by}
use Rattle.block_pieces.proofs.Borders.{told-best, told-nothing}
use Rattle.block_pieces.proofs.Nested.{nested}
use Rattle.block_pieces.proofs.ToldLemmas.{best_is_told, none_is_told}
use Rattle.route_tables.specs.Rows.{AreBlocks, counted_rows, counted_rows_of, is_covered, length_row, local_rows, local_rows_of, row_of}

-- ---- by which block a route matches

-- the block of the route that matches an address is one of those with the greatest length
record MatchesBy (d : Description) (a : ℕ) (r : Reach) (n : ℕ) : Type 0 where
  pub block : Block
  pub listed : Contains (blocks_of_reach d r) block
  pub here : holds a block ≡ true
  pub long : block.length ≡ n

Contains-one : {X : Type 0} (x y : X) → Contains (x ∷ []) y → x ≡ y
Contains-one x y h = elim (Contains-cases x y [] h) [ inl same ↦ same | inr none ↦ absurd (Contains-none y none) ]

block-here : (a : ℕ) (b : Block) (n : ℕ) → (if holds a b then Some b.length else None) ≡ Some n → (holds a b ≡ true) × (b.length ≡ n)
block-here a b n e = elim (cases_Bool (holds a b)) [ inl here ↦ let some = rw here at e in (here, cc) | inr out ↦ let none = rw out at e in cc ]

-- where a route matches with a length, one of its blocks has that length and holds the address
matches_by : (d : Description) (a : ℕ) (r : Reach) (n : ℕ) → match_length d a r ≡ Some n → MatchesBy d a r n
matches_by d a (reaches.Block b) n e = let is = block-here a b n e in record { block = b; listed = Contains-here b []; here = is.0; long = is.1 }
matches_by d a (reaches.List id) n e =
    let longest = subst (IsLongest a (entries_of d id)) e (lists_match_by_longest d a id) in
    record { block = longest.0.0; listed = longest.0.1; here = longest.0.2; long = longest.0.3 }

-- a block of a route that holds an address is no longer than the length with which the route matches
record MatchesAs (d : Description) (a : ℕ) (r : Reach) (b : Block) : Type 0 where
  pub matches : is_some (match_length d a r) ≡ true
  pub short : b.length ≤ unwrap_or (match_length d a r) 0

of_longest : (a : ℕ) (entries : List Block) (b : Block) → Contains entries b → holds a b ≡ true → (o : Option ℕ) → IsLongest a entries o → (is_some o ≡ true) × (b.length ≤ unwrap_or o 0)
of_longest a entries b listed here None none = absurd (both_ways (holds a b) (none b listed) here)
of_longest a entries b listed here (Some n) is = (refl, is.1 b listed here)

matches_as : (d : Description) (a : ℕ) (r : Reach) (b : Block) → Contains (blocks_of_reach d r) b → holds a b ≡ true → MatchesAs d a r b
matches_as d a (reaches.Block c) b listed here =
    let same : c ≡ b = Contains-one c b listed in
    let held : holds a c ≡ true = ap (holds a) same ∙ here in
    let is : match_length d a (reaches.Block c) ≡ Some c.length = ap (λ t. if t then Some c.length else None) held in
    record { matches = ap is_some is; short = subst (λ (o : Option ℕ). b.length ≤ unwrap_or o 0) (sym is) (let e = ap (λ (x : Block). x.length) same in omega arith) }
matches_as d a (reaches.List id) b listed here =
    let is = of_longest a (entries_of d id) b listed here (match_length d a (reaches.List id)) (lists_match_by_longest d a id) in
    record { matches = is.0; short = is.1 }

-- ---- members of the rows

-- a row of a route
pub record IsRowOf (d : Description) (number : ℕ) (r : Route) (y : BlockRow) : Type 0 where
  pub listed : Contains (blocks_of_reach d r.reach) y.block
  pub rank : y.rank ≡ (32 - y.block.length) * 4 + kind_of r
  pub row : y.row ≡ number

row_of-member : (d : Description) (number : ℕ) (r : Route) (y : BlockRow) → Contains (map (row_of (kind_of r) number) (blocks_of_reach d r.reach)) y → IsRowOf d number r y
row_of-member d number r y h =
    let of = map-member (row_of (kind_of r) number) (blocks_of_reach d r.reach) y h in
    subst (IsRowOf d number r) of.2 (record { listed = of.1; rank = refl; row = refl })

-- whether a route is kept back by local ones
abbrev pub is_kept_back : Route → Bool
is_kept_back r = r.propagated && not (is_local r.target)

pub counted-member : (d : Description) (p : PieceLists) (number : ℕ) (r : Route) (y : BlockRow) → Contains (counted_rows_of d p number r) y → IsRowOf d number r y × (is_kept_back r ≡ true → is_covered p y.block ≡ false)
counted-member d p number r y h =
    let rows = map (row_of (kind_of r) number) (blocks_of_reach d r.reach) in
    elim (cases_Bool (is_kept_back r)) [
      | inl back ↦
          let some : Contains (filter (λ (x : BlockRow). not (is_covered p x.block)) rows) y = rw back at h in
          (row_of-member d number r y ((filter-member (λ (x : BlockRow). not (is_covered p x.block)) rows y some).1), λ _. not-true-of (is_covered p y.block) ((filter-member (λ (x : BlockRow). not (is_covered p x.block)) rows y some).0))
      | inr free ↦ let all : Contains rows y = rw free at h in (row_of-member d number r y all, λ back. absurd (both_ways (is_kept_back r) free back))
    ]
  where
    not-true-of : (b : Bool) → not b ≡ true → b ≡ false
    not-true-of true e = cc
    not-true-of false e = refl

-- a block of a route that isn't covered, or isn't kept back, has a row
pub counted-listed : (d : Description) (p : PieceLists) (number : ℕ) (r : Route) (b : Block) → Contains (blocks_of_reach d r.reach) b → (is_kept_back r ≡ true → is_covered p b ≡ false) → Contains (counted_rows_of d p number r) (row_of (kind_of r) number b)
counted-listed d p number r b listed free =
    let rows = map (row_of (kind_of r) number) (blocks_of_reach d r.reach) in
    let all : Contains rows (row_of (kind_of r) number b) = Contains-map (row_of (kind_of r) number) (blocks_of_reach d r.reach) b listed in
    cond_both (is_kept_back r) (filter (λ (x : BlockRow). not (is_covered p x.block)) rows) rows (λ l. Contains l (row_of (kind_of r) number b))
    (λ back. Contains-filter (λ (x : BlockRow). not (is_covered p x.block)) rows (row_of (kind_of r) number b) all (not_from_false (is_covered p b) (free back)))
    (λ _. all)

-- each row is one of a route's, and each of a route's is a row
pub counted_rows-member : (d : Description) (p : PieceLists) (number : ℕ) (routes : List Route) (y : BlockRow) → Contains (counted_rows d p number routes) y
    → (j : ℕ) × (r : Route) × (slice_get routes j ≡ Some r) × Contains (counted_rows_of d p (number + j) r) y
counted_rows-member d p number [] y h = absurd (Contains-none y h)
counted_rows-member d p number (r ∷ rs) y h =
    elim (Contains-append_cases (counted_rows_of d p number r) (counted_rows d p (number + 1) rs) y h) [
      | inl here ↦ (0, r, refl, subst (λ k. Contains (counted_rows_of d p k r) y) (let e : number ≡ number + 0 = omega arith in e) here)
      | inr later ↦
          let rest = counted_rows-member d p (number + 1) rs y later in
          (suc rest.0, rest.1, rest.2, subst (λ k. Contains (counted_rows_of d p k rest.1) y) (let e : number + 1 + rest.0 ≡ number + suc rest.0 = omega arith in e) rest.3)
    ]

pub counted_rows-listed : (d : Description) (p : PieceLists) (number : ℕ) (routes : List Route) (j : ℕ) (r : Route) (y : BlockRow) → slice_get routes j ≡ Some r → Contains (counted_rows_of d p (number + j) r) y → Contains (counted_rows d p number routes) y
counted_rows-listed d p number [] j r y at h = cc
counted_rows-listed d p number (x ∷ rs) zero r y at h =
    let same : x ≡ r = cc in
    Contains-append_left (counted_rows_of d p number x) (counted_rows d p (number + 1) rs) y
    (subst (λ z. Contains (counted_rows_of d p number z) y) (sym same) (subst (λ k. Contains (counted_rows_of d p k r) y) (let e : number + 0 ≡ number = omega arith in e) h))
counted_rows-listed d p number (x ∷ rs) (suc j) r y at h =
    Contains-append_right (counted_rows_of d p number x) (counted_rows d p (number + 1) rs) y
    (counted_rows-listed d p (number + 1) rs j r y at (subst (λ k. Contains (counted_rows_of d p k r) y) (let e : number + suc j ≡ number + 1 + j = omega arith in e) h))

-- ---- local routes

-- a local block of a route
record IsLocalBlock (d : Description) (routes : List Route) (b : Block) : Type 0 where
  pub route : Route
  pub listed : Contains routes route
  pub local : is_local route.target ≡ true
  pub of : Contains (blocks_of_reach d route.reach) b

local_rows-member : (d : Description) (routes : List Route) (y : BlockRow) → Contains (local_rows d routes) y → (y ≡ length_row y.block) × IsLocalBlock d routes y.block
local_rows-member d routes y h =
    let found = flat_map-member (local_rows_of d) routes y h in
    let r : Route = found.0 in
    elim (cases_Bool (is_local r.target)) [
      | inl local ↦
          let some : Contains (map length_row (blocks_of_reach d r.reach)) y = rw local at found.2 in
          let of = map-member length_row (blocks_of_reach d r.reach) y some in
          subst (λ (z : BlockRow). (z ≡ length_row z.block) × IsLocalBlock d routes z.block) of.2 (refl, record { route = r; listed = found.1; local = local; of = of.1 })
      | inr other ↦ absurd (Contains-none y (rw other at found.2))
    ]

local_rows-listed : (d : Description) (routes : List Route) (r : Route) (b : Block) → Contains routes r → is_local r.target ≡ true → Contains (blocks_of_reach d r.reach) b → Contains (local_rows d routes) (length_row b)
local_rows-listed d routes r b listed local of =
    Contains-flat_map (local_rows_of d) routes r (length_row b) listed (rw local (Contains-map length_row (blocks_of_reach d r.reach) b of))

-- pieces that tell the shortest local block
pub record AreLocals (d : Description) (routes : List Route) (p : PieceLists) : Type 0 where
  pub told : (a : ℕ) → a < 2 ^ 32 → told_at p a ≡ told_by (local_rows d routes) a

blocks-at : (d : Description) (routes : List Route) (r : Route) (b : Block) → AreBlocks d routes → Contains routes r → Contains (blocks_of_reach d r.reach) b → IsBlock b
blocks-at d routes r b blocks listed of =
    All-contains IsBlock (blocks_of_reach d r.reach) b (All-contains (λ (r : Route). All IsBlock (blocks_of_reach d r.reach)) routes r blocks listed) of

-- a covered block lies in a local block
covered-in : (d : Description) (routes : List Route) (p : PieceLists) (b : Block) (a : ℕ) → AreLocals d routes p → AreBlocks d routes → IsBlock b → is_covered p b ≡ true → holds a b ≡ true → (l : Block) × IsLocalBlock d routes l × (holds a l ≡ true)
covered-in d routes p b a locals blocks is covered here = by (told_by (local_rows d routes) b.first) refl
  where
    fits : b.first < 2 ^ 32
    fits = omega (arith, is.fits)

    by : (o : Option ℕ) → told_by (local_rows d routes) b.first ≡ o → (l : Block) × IsLocalBlock d routes l × (holds a l ≡ true)
    by None none = let e : is_covered p b ≡ false = ap (λ o. unwrap_or (option_map (λ l. nat_le l b.length) o) false) (locals.told b.first fits ∙ none) in absurd (both_ways (is_covered p b) e covered)
    by (Some k) some =
        let e : is_covered p b ≡ nat_le k b.length = ap (λ o. unwrap_or (option_map (λ l. nat_le l b.length) o) false) (locals.told b.first fits ∙ some) in
        let le = leb-true k b.length (sym e ∙ covered) in
        let best = told-best (local_rows d routes) b.first k some in
        let member = local_rows-member d routes best.row best.listed in
        let l : Block = best.row.block in
        let number = ap (λ (z : BlockRow). z.row) member.0 in
        let short : l.length ≤ b.length = omega (arith, best.number) in
        let is_l = blocks-at d routes member.1.route l blocks member.1.listed member.1.of in
        let own : holds b.first b ≡ true = and_from (nat_le b.first b.first) (nat_le b.first (last_of b)) (le-leb b.first b.first (omega arith)) (le-leb b.first (last_of b) (omega arith)) in
        let inside = nested l b b.first is_l is best.here own short in
        let parts = and_parts (nat_le b.first a) (nat_le a (last_of b)) here in
        let from = leb-true b.first a parts.0 in
        let upto = leb-true a (last_of b) parts.1 in
        (l, member.1, and_from (nat_le l.first a) (nat_le a (last_of l)) (le-leb l.first a (omega (arith, inside.0))) (le-leb a (last_of l) (omega (arith, inside.1))))

-- a block that isn't covered is shorter than each local one that shares an address with it
uncovered-shorter : (d : Description) (routes : List Route) (p : PieceLists) (b l : Block) (a : ℕ) → AreLocals d routes p → AreBlocks d routes → IsBlock b → is_covered p b ≡ false → holds a b ≡ true → IsLocalBlock d routes l → holds a l ≡ true → b.length < l.length
uncovered-shorter d routes p b l a locals blocks is free here local in_l =
    elim (cases_lt b.length l.length) [ inl shorter ↦ shorter | inr longer ↦ absurd (both_ways (is_covered p b) free (covered longer)) ]
  where
    is_l : IsBlock l
    is_l = blocks-at d routes local.route l blocks local.listed local.of

    fits : b.first < 2 ^ 32
    fits = omega (arith, is.fits)

    by : (o : Option ℕ) → told_by (local_rows d routes) b.first ≡ o → l.length ≤ b.length → holds b.first l ≡ true → is_covered p b ≡ true
    by None none le held = absurd (both_ways (holds b.first l) (told-nothing (local_rows d routes) b.first none (length_row l) (local_rows-listed d routes local.route l local.listed local.local local.of)) held)
    by (Some k) some le held =
        let best = told-best (local_rows d routes) b.first k some in
        let member = local_rows-member d routes best.row best.listed in
        let good = best.best (length_row l) (local_rows-listed d routes local.route l local.listed local.local local.of) held in
        let rank = ap (λ (z : BlockRow). z.rank) member.0 in
        let number = ap (λ (z : BlockRow). z.row) member.0 in
        let small : k ≤ l.length = elim good [ inl less ↦ omega (arith, best.number) | inr tied ↦ omega (arith, best.number) ] in
        ap (λ o. unwrap_or (option_map (λ l. nat_le l b.length) o) false) (locals.told b.first fits ∙ some) ∙ le-leb k b.length (omega arith)

    covered : l.length ≤ b.length → is_covered p b ≡ true
    covered le =
        let inside = nested l b a is_l is in_l here le in
        by (told_by (local_rows d routes) b.first) refl le
        (and_from (nat_le l.first b.first) (nat_le b.first (last_of l)) (le-leb l.first b.first inside.0) (le-leb b.first (last_of l) (omega (arith, inside.1))))

-- ---- the route that is chosen

kind_of-few : (r : Route) → kind_of r < 3
kind_of-few r = cond_both r.propagated 2 (kind_of_reach r.reach) (λ n. n < 3) (λ _. omega arith) (λ _. of_reach r.reach)
  where
    of_reach : (reach : Reach) → kind_of_reach reach < 3
    of_reach (reaches.Block b) = omega arith
    of_reach (reaches.List id) = omega arith

some-of : (o : Option ℕ) → is_some o ≡ true → (n : ℕ) × (o ≡ Some n)
some-of None e = cc
some-of (Some n) e = (n, refl)

-- a local route that matches is a candidate
local-candidate : (d : Description) (routes : List Route) (a : ℕ) (l : Route) → is_local l.target ≡ true → matches d a l ≡ true → is_candidate d routes a l ≡ true
local-candidate d routes a l local here =
    let any = list_any (λ (x : Route). is_local x.target && matches d a x) routes in
    let free : (is_kept_back l && any) ≡ false = and_left (is_kept_back l) any (and_right l.propagated (not (is_local l.target)) (not_from_true (is_local l.target) local)) in
    and_from (matches d a l) (not (is_kept_back l && any)) here (not_from_false (is_kept_back l && any) free)

-- no candidate that is kept back has a local route that matches
candidate-free : (d : Description) (routes : List Route) (a : ℕ) (r : Route) → is_candidate d routes a r ≡ true → is_kept_back r ≡ true → list_any (λ (x : Route). is_local x.target && matches d a x) routes ≡ false
candidate-free d routes a r candidate back =
    let any = list_any (λ (x : Route). is_local x.target && matches d a x) routes in
    let parts = and_parts (matches d a r) (not (is_kept_back r && any)) candidate in
    false_from_ne_true any (λ some. both_ways (not (is_kept_back r && any)) (not_from_true (is_kept_back r && any) (and_from (is_kept_back r) any back some)) parts.1)

-- what matches and is no candidate is kept back by a local route that matches
record IsKeptBack (d : Description) (routes : List Route) (a : ℕ) (r : Route) : Type 0 where
  pub back : is_kept_back r ≡ true
  pub number : ℕ
  pub route : Route
  pub at : slice_get routes number ≡ Some route
  pub local : is_local route.target ≡ true
  pub here : matches d a route ≡ true

kept_back : (d : Description) (routes : List Route) (a : ℕ) (r : Route) → matches d a r ≡ true → is_candidate d routes a r ≡ false → IsKeptBack d routes a r
kept_back d routes a r here out_of =
    let any = list_any (λ (x : Route). is_local x.target && matches d a x) routes in
    let held : (is_kept_back r && any) ≡ true = elim (and_cases (matches d a r) (not (is_kept_back r && any)) out_of) [ inl out ↦ absurd (both_ways (matches d a r) out here) | inr not_so ↦ not-false (is_kept_back r && any) not_so ] in
    let parts = and_parts (is_kept_back r) any held in
    let found = Any-from_list_any (λ (x : Route). is_local x.target && matches d a x) routes parts.1 in
    let l : Route = found.1 in
    let both = and_parts (is_local l.target) (matches d a l) found.4 in
    record { back = parts.0; number = found.0; route = l; at = slice_get-get_or routes found.0 l found.2 ∙ ap Some found.3; local = both.0; here = both.1 }

pub member-at : (routes : List Route) (j : ℕ) (r : Route) → slice_get routes j ≡ Some r → Contains routes r
member-at routes j r at = (j, slice_get_within routes j r at, get_or_from_slice_get routes j r r at)

-- the rows of the chosen route's block and of another block that holds the address: lengths m and n of
-- the two blocks, kinds p and q, numbers k and j
worse-rank : (m n p q : ℕ) → m ≤ 32 → p < 3 → n < m → (32 - m) * 4 + p < (32 - n) * 4 + q
worse-rank m n p q short few less = omega arith

-- the block of the chosen route is as good as every row that holds the address
record IsChosenBlock (d : Description) (routes : List Route) (a k : ℕ) (x : Route) (b : Block) : Type 0 where
  pub at : slice_get routes k ≡ Some x
  pub short : b.length ≤ 32
  pub long : b.length ≡ length_of d a x
  pub others : (j : ℕ) (s : Route) → slice_get routes j ≡ Some s → is_candidate d routes a s ≡ true → (j ≡ k) ⊎ RouteYields d a j s k x

good-row : (d : Description) (routes : List Route) (a k j : ℕ) (x s : Route) (b : Block) (y : BlockRow) → IsChosenBlock d routes a k x b → slice_get routes j ≡ Some s → IsRowOf d j s y → y.block.length ≤ length_of d a s → (j ≡ k) ⊎ RouteYields d a j s k x
    → IsAsGood (row_of (kind_of x) k b) y
good-row d routes a k j x s b y chosen at is short (inl same) =
    let route : s ≡ x = (let e = sym at ∙ (ap (slice_get routes) same ∙ chosen.at) in cc) in
    let kind = ap kind_of route in
    let long = ap (length_of d a) route in
    elim (cases_lt y.block.length b.length) [
      | inl less ↦ inl (let w = worse-rank b.length y.block.length (kind_of x) (kind_of s) chosen.short (kind_of-few x) less in omega (arith, is.rank))
      | inr ge ↦ let e : y.block.length ≡ b.length = omega (arith, chosen.long) in inr (sym (is.rank ∙ (ap (λ n. (32 - n) * 4 + kind_of s) e ∙ ap (λ n. (32 - b.length) * 4 + n) kind)), omega (arith, is.row))
    ]
good-row d routes a k j x s b y chosen at is short (inr (inl less)) =
    inl (let w = worse-rank b.length y.block.length (kind_of x) (kind_of s) chosen.short (kind_of-few x) (omega (arith, chosen.long)) in omega (arith, is.rank))
good-row d routes a k j x s b y chosen at is short (inr (inr tied)) =
    elim (cases_lt y.block.length b.length) [
      | inl less ↦ inl (let w = worse-rank b.length y.block.length (kind_of x) (kind_of s) chosen.short (kind_of-few x) less in omega (arith, is.rank))
      | inr ge ↦
          let e : y.block.length ≡ b.length = omega (arith, chosen.long, tied.0) in
          let rank : y.rank ≡ (32 - b.length) * 4 + kind_of s = is.rank ∙ ap (λ n. (32 - n) * 4 + kind_of s) e in
          elim tied.1 [ inl kind ↦ inl (omega arith) | inr later ↦ inr (omega (arith, later.0), omega (arith, later.1, is.row)) ]
    ]

-- so is the row of a route that is kept back
back-row : (d : Description) (routes : List Route) (p : PieceLists) (a k j : ℕ) (x s : Route) (b : Block) (y : BlockRow) → AreLocals d routes p → AreBlocks d routes → IsChosenBlock d routes a k x b → slice_get routes j ≡ Some s → IsRowOf d j s y
    → (is_kept_back s ≡ true → is_covered p y.block ≡ false) → holds a y.block ≡ true → IsKeptBack d routes a s → IsAsGood (row_of (kind_of x) k b) y
back-row d routes p a k j x s b y locals blocks chosen at is free here back =
    let l : Route = back.route in
    let known = some-of (match_length d a l.reach) back.here in
    let m = matches_by d a l.reach known.0 known.1 in
    let local : IsLocalBlock d routes m.block = record { route = l; listed = member-at routes back.number l back.at; local = back.local; of = m.listed } in
    let is_y = blocks-at d routes s y.block blocks (member-at routes j s at) is.listed in
    let shorter = uncovered-shorter d routes p y.block m.block a locals blocks is_y (free back.back) here local m.here in
    let its : length_of d a l ≡ known.0 = ap (λ o. unwrap_or o 0) known.1 in
    let up : length_of d a l ≤ length_of d a x = elim (chosen.others back.number l back.at (local-candidate d routes a l back.local back.here)) [
      | inl same ↦ (let route : l ≡ x = (let e = sym back.at ∙ (ap (slice_get routes) same ∙ chosen.at) in cc) in let e = ap (length_of d a) route in omega arith)
      | inr yields ↦ elim yields [ inl less ↦ omega arith | inr tied ↦ omega (arith, tied.0) ]
    ] in
    inl (let w = worse-rank b.length y.block.length (kind_of x) (kind_of s) chosen.short (kind_of-few x) (omega (arith, chosen.long, m.long)) in omega (arith, is.rank))

-- the rows tell the route that is chosen
pub told_by-counted : (d : Description) (routes : List Route) (p : PieceLists) (a : ℕ) → AreLocals d routes p → AreBlocks d routes → told_by (counted_rows d p 0 routes) a ≡ chosen_route d routes a
told_by-counted d routes p a locals blocks = by (chosen_route d routes a) refl (routes_are_chosen d routes a)
  where
    by : (o : Option ℕ) → chosen_route d routes a ≡ o → Chooses (is_candidate d routes a) (RouteYields d a) routes o → told_by (counted_rows d p 0 routes) a ≡ chosen_route d routes a
    by None none chooses =
        none_is_told (counted_rows d p 0 routes) a
        (λ y listed. false_from_ne_true (holds a y.block)
        (λ here.
        let of = counted_rows-member d p 0 routes y listed in
        let is = counted-member d p (0 + of.0) of.1 y of.3 in
        let m = matches_as d a of.1.reach y.block is.0.listed here in
        both_ways (matches d a of.1) (unrouted_match_nothing d routes a none of.0 of.1 of.2) m.matches))
        ∙ sym none
    by (Some k) some chooses =
        let x : Route = chooses.0 in
        let parts = and_parts (matches d a x) (not (is_kept_back x && list_any (λ (l : Route). is_local l.target && matches d a l) routes)) chooses.2 in
        let known = some-of (match_length d a x.reach) parts.0 in
        let m = matches_by d a x.reach known.0 known.1 in
        let b : Block = m.block in
        let is_b = blocks-at d routes x b blocks (member-at routes k x chooses.1) m.listed in
        let free : is_kept_back x ≡ true → is_covered p b ≡ false = λ back. false_from_ne_true (is_covered p b)
        (λ covered.
        let l = covered-in d routes p b a locals blocks is_b covered m.here in
        let held = matches_as d a l.1.route.reach l.0 l.1.of l.2 in
        both_ways (is_local l.1.route.target && matches d a l.1.route) (list_any-fails (λ (l : Route). is_local l.target && matches d a l) routes l.1.route (candidate-free d routes a x chooses.2 back) l.1.listed) (and_from (is_local l.1.route.target) (matches d a l.1.route) l.1.local held.matches)) in
        let chosen : IsChosenBlock d routes a k x b = record { at = chooses.1; short = is_b.short; long = m.long ∙ sym (ap (λ o. unwrap_or o 0) known.1); others = chooses.3 } in
        let from_zero : 0 + k ≡ k = omega arith in
        best_is_told (counted_rows d p 0 routes) a (row_of (kind_of x) k b)
        (counted_rows-listed d p 0 routes k x (row_of (kind_of x) k b) chooses.1 (subst (λ n. Contains (counted_rows_of d p n x) (row_of (kind_of x) k b)) (sym from_zero) (counted-listed d p k x b m.listed free)))
        m.here
        (λ y listed here.
        let of = counted_rows-member d p 0 routes y listed in
        let j : ℕ = of.0 in
        let s : Route = of.1 in
        let from : 0 + j ≡ j = omega arith in
        let is = counted-member d p j s y (subst (λ n. Contains (counted_rows_of d p n s) y) from of.3) in
        let held = matches_as d a s.reach y.block is.0.listed here in
        elim (cases_Bool (is_candidate d routes a s)) [
          | inl candidate ↦ good-row d routes a k j x s b y chosen of.2 is.0 held.short (chooses.3 j s of.2 candidate)
          | inr unfit ↦ back-row d routes p a k j x s b y locals blocks chosen of.2 is.0 is.1 here (kept_back d routes a s held.matches unfit)
        ])
        ∙ sym some

-- ---- how many rows, and where they begin and end

pub length-counted_rows_of : (d : Description) (p : PieceLists) (k : ℕ) (r : Route) → length (counted_rows_of d p k r) ≤ length (blocks_of_reach d r.reach)
length-counted_rows_of d p k r =
    let rows = map (row_of (kind_of r) k) (blocks_of_reach d r.reach) in
    let all = length-map (blocks_of_reach d r.reach) (row_of (kind_of r) k) in
    cond_both (is_kept_back r) (filter (λ (x : BlockRow). not (is_covered p x.block)) rows) rows (λ l. length l ≤ length (blocks_of_reach d r.reach))
    (λ _. let less = length-filter-le (λ (x : BlockRow). not (is_covered p x.block)) rows in omega arith) (λ _. omega arith)

-- where blocks of routes begin, and where they have ended
abbrev pub route_cuts : Description → List Route → List ℕ
route_cuts d routes = flat_map (λ r. flat_map block_cuts (blocks_of_reach d r.reach)) routes

pub borders-cuts : (d : Description) (p : PieceLists) (routes : List Route) (f : ℕ) → Contains (borders_of (counted_rows d p 0 routes)) f → Contains (route_cuts d routes) f
borders-cuts d p routes f h =
    let found = flat_map-member (λ (r : BlockRow). block_cuts r.block) (counted_rows d p 0 routes) f h in
    let of = counted_rows-member d p 0 routes found.0 found.1 in
    let is = counted-member d p (0 + of.0) of.1 found.0 of.3 in
    Contains-flat_map (λ (r : Route). flat_map block_cuts (blocks_of_reach d r.reach)) routes of.1 f (member-at routes of.0 of.1 of.2)
    (Contains-flat_map block_cuts (blocks_of_reach d of.1.reach) found.0.block f is.0.listed found.2)

pub addr-cuts : (d : Description) (routes : List Route) → (all_cuts (cuts_of_route d) routes).addr ≡ route_cuts d routes
addr-cuts d [] = refl
addr-cuts d (r ∷ rs) = ap (λ l. flat_map block_cuts (blocks_of_reach d r.reach) ++ l) (addr-cuts d rs)

pub first-in_cuts : (d : Description) (p : PieceLists) (routes : List Route) (rows : List BlockRow) (f : ℕ) → rows ≡ counted_rows d p 0 routes → (f ≡ 0) ⊎ Contains (borders_of rows) f → (f ≡ 0) ⊎ Contains (route_cuts d routes) f
first-in_cuts d p routes rows f is (inl none) = inl none
first-in_cuts d p routes rows f is (inr border) = inr (borders-cuts d p routes f (subst (λ l. Contains (borders_of l) f) is border))
