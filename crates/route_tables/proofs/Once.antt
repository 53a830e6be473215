-- Routes that repeat earlier ones change nothing of what is told.
use Rattle.std.proofs.Common.{Contains, List, None, Option, Some, [], ap, arith, if◌then◌else◌, inl, inr, length, length-append, map, not, refl, slice_get, subst, suc, sym, true, zero, ℕ, ◌&&◌, ◌*◌, ◌++◌, ◌+◌, ◌-◌, ◌∙◌, ◌∷◌, ◌≡◌, ◌≤◌, ◌⊎◌}
use Rattle.vpc_base.proofs.Lemmas.{Contains-append_cases, Contains-append_left, Contains-append_right, Contains-cases, Contains-flat_map, Contains-none, cases_Bool, cond_both, flat_map-member, list_any-member, slice_get-get_or}
use Rattle.prefix_text.specs.Block.{holds}
use Rattle.piece_table.specs.Pieces.{PieceLists}
use Rattle.vpc_laws.specs.Types.{Description, Reach, Route}
use Rattle.vpc_model.specs.Terms.{block_cuts, blocks_of_reach, is_local, kind_of, kind_of_reach}
use Rattle.block_pieces.specs.declared.rows.BlockRow.{BlockRow}
use Rattle.block_pieces.specs.Terms.{IsAsGood, borders_of, told_by}
use Rattle.block_pieces.proofs.Borders.{told-best, told-nothing}
use Rattle.block_pieces.proofs.ToldLemmas.{best_is_told, none_is_told}
use Rattle.route_tables.specs.Repeats.{given_once, is_repeat, is_same, use_of}
use Rattle.route_tables.specs.Rows.{blocks_in, counted_rows, counted_rows_of, counted_rows_once, length_row, local_rows, local_rows_of, local_rows_once, row_of}
use Rattle.route_tables.proofs.Counting.{counted-listed, counted-member, counted_rows-listed, counted_rows-member, is_kept_back, length-counted_rows_of, member-at}
use Rattle.route_tables.proofs.Seeing.{AreAlike, alike-same, alike-then, alike-uses}

-- ---- any rows

-- a row of the same block that is as good
pub record IsMatched (rows : List BlockRow) (y : BlockRow) : Type 0 where
  pub row : BlockRow
  pub listed : Contains rows row
  pub block : row.block ≡ y.block
  pub good : IsAsGood row y

good-then : (x y z : BlockRow) → IsAsGood x y → IsAsGood y z → IsAsGood x z
good-then x y z (inl one) (inl two) = inl (omega arith)
good-then x y z (inl one) (inr two) = inl (omega (arith, two.0))
good-then x y z (inr one) (inl two) = inl (omega (arith, one.0))
good-then x y z (inr one) (inr two) = inr (one.0 ∙ two.0, omega (arith, one.1, two.1))

good-both : (x y : BlockRow) → IsAsGood x y → IsAsGood y x → x.row ≡ y.row
good-both x y (inl one) (inl two) = omega arith
good-both x y (inl one) (inr two) = omega (arith, two.0)
good-both x y (inr one) (inl two) = omega (arith, one.0)
good-both x y (inr one) (inr two) = omega (arith, one.1, two.1)

-- some of the rows tell what all of them do, where each has one among the some that has its block and is as good
pub told-some : (all some : List BlockRow) (a : ℕ) → ((y : BlockRow) → Contains some y → Contains all y) → ((y : BlockRow) → Contains all y → IsMatched some y) → told_by some a ≡ told_by all a
told-some all some a part matched = by (told_by all a) refl
  where
    by : (o : Option ℕ) → told_by all a ≡ o → told_by some a ≡ told_by all a
    by None none = none_is_told some a (λ y listed. told-nothing all a none y (part y listed)) ∙ sym none
    by (Some k) is =
        let best = told-best all a k is in
        let its = matched best.row best.listed in
        let here : holds a its.row.block ≡ true = ap (holds a) its.block ∙ best.here in
        let same : its.row.row ≡ best.row.row = good-both its.row best.row its.good (best.best its.row (part its.row its.listed) here) in
        best_is_told some a its.row its.listed here (λ y listed in_y. good-then its.row best.row y its.good (best.best y (part y listed) in_y))
        ∙ (ap Some (same ∙ best.number) ∙ sym is)

-- ---- the rows of routes

given_once-member : (give : ℕ → Route → List BlockRow) (earlier rs : List Route) (y : BlockRow) → Contains (given_once give earlier rs) y → (j : ℕ) × (r : Route) × (slice_get rs j ≡ Some r) × Contains (give (length earlier + j) r) y
given_once-member give earlier [] y h = absurd (Contains-none y h)
given_once-member give earlier (r ∷ rs) y h =
    elim (Contains-append_cases (if is_repeat earlier r then [] else give (length earlier) r) (given_once give (earlier ++ r ∷ []) rs) y h) [
      | inl here ↦
          elim (cases_Bool (is_repeat earlier r)) [
            | inl repeat ↦ absurd (Contains-none y (subst (λ t. Contains (if t then [] else give (length earlier) r) y) repeat here))
            | inr new ↦ (0, r, refl, subst (λ k. Contains (give k r) y) (let e : length earlier ≡ length earlier + 0 = omega arith in e) (subst (λ t. Contains (if t then [] else give (length earlier) r) y) new here))
          ]
      | inr later ↦
          let rest = given_once-member give (earlier ++ r ∷ []) rs y later in
          (suc rest.0, rest.1, rest.2, subst (λ k. Contains (give k rest.1) y) (let e : length (earlier ++ r ∷ []) + rest.0 ≡ length earlier + suc rest.0 = omega (arith, length-append earlier (r ∷ [])) in e) rest.3)
    ]

-- a route that isn't later and is alike gives its rows
record IsGiven (give : ℕ → Route → List BlockRow) (rows : List BlockRow) (rs : List Route) (start j : ℕ) (r : Route) : Type 0 where
  pub number : ℕ
  pub route : Route
  pub at : slice_get rs number ≡ Some route
  pub early : number ≤ j
  pub alike : AreAlike r route
  pub gives : (y : BlockRow) → Contains (give (start + number) route) y → Contains rows y

-- a route that is alike came before
record CameBefore (earlier : List Route) (r : Route) : Type 0 where
  pub route : Route
  pub listed : Contains earlier route
  pub alike : AreAlike r route

given-first : (give : ℕ → Route → List BlockRow) (earlier : List Route) (x : Route) (rs : List Route) (j : ℕ) (r : Route) → AreAlike r x → CameBefore earlier r ⊎ IsGiven give (given_once give earlier (x ∷ rs)) (x ∷ rs) (length earlier) j r
given-first give earlier x rs j r alike =
    elim (cases_Bool (is_repeat earlier x)) [
      | inl repeat ↦ let found = list_any-member (λ (s : Route). is_same (use_of x) (use_of s)) earlier repeat in inl (record { route = found.0; listed = found.1; alike = alike-then r x found.0 alike (alike-uses x found.0 found.2) })
      | inr new ↦
          let start : length earlier + 0 ≡ length earlier = omega arith in
          inr (record {
            number = 0;
            route = x;
            at = refl;
            early = omega arith;
            alike = alike;
            gives = λ y h.
                Contains-append_left (if is_repeat earlier x then [] else give (length earlier) x) (given_once give (earlier ++ x ∷ []) rs) y
                (subst (λ t. Contains (if t then [] else give (length earlier) x) y) (sym new) (subst (λ k. Contains (give k x) y) start h));
          })
    ]

given-later : (give : ℕ → Route → List BlockRow) (earlier : List Route) (x : Route) (rs : List Route) (j : ℕ) (r : Route) → IsGiven give (given_once give (earlier ++ x ∷ []) rs) rs (length (earlier ++ x ∷ [])) j r → IsGiven give (given_once give earlier (x ∷ rs)) (x ∷ rs) (length earlier) (suc j) r
given-later give earlier x rs j r is =
    let start : length earlier + suc is.number ≡ length (earlier ++ x ∷ []) + is.number = omega (arith, length-append earlier (x ∷ [])) in
    record {
      number = suc is.number;
      route = is.route;
      at = is.at;
      early = omega (arith, is.early);
      alike = is.alike;
      gives = λ y h.
          Contains-append_right (if is_repeat earlier x then [] else give (length earlier) x) (given_once give (earlier ++ x ∷ []) rs) y
          (is.gives y (subst (λ k. Contains (give k is.route) y) start h));
    }

given_once-listed : (give : ℕ → Route → List BlockRow) (earlier rs : List Route) (j : ℕ) (r : Route) → slice_get rs j ≡ Some r → CameBefore earlier r ⊎ IsGiven give (given_once give earlier rs) rs (length earlier) j r
given_once-listed give earlier [] j r at = cc
given_once-listed give earlier (x ∷ rs) zero r at = let same : r ≡ x = cc in given-first give earlier x rs 0 r (alike-same r x same)
given_once-listed give earlier (x ∷ rs) (suc j) r at =
    elim (given_once-listed give (earlier ++ x ∷ []) rs j r at) [
      | inl before ↦
          elim (Contains-append_cases earlier (x ∷ []) before.route before.listed) [
            | inl old ↦ inl (record { route = before.route; listed = old; alike = before.alike })
            | inr one ↦
                elim (Contains-cases x before.route [] one) [
                  | inl same ↦ given-first give earlier x rs (suc j) r (alike-then r before.route x before.alike (alike-same before.route x (sym same)))
                  | inr none ↦ absurd (Contains-none before.route none)
                ]
          ]
      | inr given ↦ inr (given-later give earlier x rs j r given)
    ]

given-of : (give : ℕ → Route → List BlockRow) (routes : List Route) (j : ℕ) (r : Route) → slice_get routes j ≡ Some r → IsGiven give (given_once give [] routes) routes 0 j r
given-of give routes j r at = elim (given_once-listed give [] routes j r at) [ inl before ↦ absurd (Contains-none before.route before.listed) | inr given ↦ given ]

length-given_once : (d : Description) (give : ℕ → Route → List BlockRow) → ((k : ℕ) (r : Route) → length (give k r) ≤ length (blocks_of_reach d r.reach)) → (earlier rs : List Route) → length (given_once give earlier rs) ≤ length (blocks_in d rs)
length-given_once d give few earlier [] = omega arith
length-given_once d give few earlier (r ∷ rs) =
    let own : List BlockRow = if is_repeat earlier r then [] else give (length earlier) r in
    let one : length own ≤ length (blocks_of_reach d r.reach) = cond_both (is_repeat earlier r) [] (give (length earlier) r) (λ (l : List BlockRow). length l ≤ length (blocks_of_reach d r.reach)) (λ _. omega arith) (λ _. few (length earlier) r) in
    let rest = length-given_once d give few (earlier ++ r ∷ []) rs in
    omega (arith, length-append own (given_once give (earlier ++ r ∷ []) rs), length-append (blocks_of_reach d r.reach) (blocks_in d rs))

-- ---- the rows of local routes

alike-local_rows_of : (d : Description) (r s : Route) → AreAlike r s → local_rows_of d r ≡ local_rows_of d s
alike-local_rows_of d r s alike =
    ap (λ t. if t then map length_row (blocks_of_reach d r.reach) else []) alike.local
    ∙ ap (λ x. if is_local s.target then map length_row (blocks_of_reach d x) else []) alike.reach

pub told-local_rows_once : (d : Description) (routes : List Route) (a : ℕ) → told_by (local_rows_once d routes) a ≡ told_by (local_rows d routes) a
told-local_rows_once d routes a = told-some (local_rows d routes) (local_rows_once d routes) a part matched
  where
    give : ℕ → Route → List BlockRow
    give k r = local_rows_of d r

    part : (y : BlockRow) → Contains (local_rows_once d routes) y → Contains (local_rows d routes) y
    part y h = let of = given_once-member give [] routes y h in Contains-flat_map (local_rows_of d) routes of.1 y (member-at routes of.0 of.1 of.2) of.3

    matched : (y : BlockRow) → Contains (local_rows d routes) y → IsMatched (local_rows_once d routes) y
    matched y h =
        let found = flat_map-member (local_rows_of d) routes y h in
        let place = found.1 in
        let given = given-of give routes place.0 found.0 (slice_get-get_or routes place.0 found.0 place.1 ∙ ap Some place.2) in
        record {
          row = y;
          listed = given.gives y (subst (λ l. Contains l y) (alike-local_rows_of d found.0 given.route given.alike) found.2);
          block = refl;
          good = inr (refl, omega arith);
        }

-- ---- the rows that count

pub counted_rows_once-part : (d : Description) (p : PieceLists) (routes : List Route) (y : BlockRow) → Contains (counted_rows_once d p routes) y → Contains (counted_rows d p 0 routes) y
counted_rows_once-part d p routes y h = let of = given_once-member (counted_rows_of d p) [] routes y h in counted_rows-listed d p 0 routes of.0 of.1 y of.2 of.3

alike-kind_of : (r s : Route) → AreAlike r s → kind_of r ≡ kind_of s
alike-kind_of r s alike = ap (λ t. if t then 2 else kind_of_reach r.reach) alike.propagated ∙ ap (λ x. if s.propagated then 2 else kind_of_reach x) alike.reach

alike-is_kept_back : (r s : Route) → AreAlike r s → is_kept_back r ≡ is_kept_back s
alike-is_kept_back r s alike = ap (λ t. t && not (is_local r.target)) alike.propagated ∙ ap (λ t. s.propagated && not t) alike.local

pub told-counted_rows_once : (d : Description) (p : PieceLists) (routes : List Route) (a : ℕ) → told_by (counted_rows_once d p routes) a ≡ told_by (counted_rows d p 0 routes) a
told-counted_rows_once d p routes a = told-some (counted_rows d p 0 routes) (counted_rows_once d p routes) a (counted_rows_once-part d p routes) matched
  where
    matched : (y : BlockRow) → Contains (counted_rows d p 0 routes) y → IsMatched (counted_rows_once d p routes) y
    matched y h =
        let of = counted_rows-member d p 0 routes y h in
        let j : ℕ = of.0 in
        let r : Route = of.1 in
        let is = counted-member d p (0 + j) r y of.3 in
        let given = given-of (counted_rows_of d p) routes j r of.2 in
        let s : Route = given.route in
        let i : ℕ = given.number in
        let its = subst (λ (x : Reach). Contains (blocks_of_reach d x) y.block) given.alike.reach is.0.listed in
        let kind = alike-kind_of r s given.alike in
        record {
          row = row_of (kind_of s) (0 + i) y.block;
          listed = given.gives (row_of (kind_of s) (0 + i) y.block) (counted-listed d p (0 + i) s y.block its (λ back. is.1 (alike-is_kept_back r s given.alike ∙ back)));
          block = refl;
          good = inr (sym (is.0.rank ∙ ap (λ n. (32 - y.block.length) * 4 + n) kind), omega (arith, is.0.row, given.early));
        }

pub length-counted_rows_once : (d : Description) (p : PieceLists) (routes : List Route) → length (counted_rows_once d p routes) ≤ length (blocks_in d routes)
length-counted_rows_once d p routes = length-given_once d (counted_rows_of d p) (λ k r. length-counted_rows_of d p k r) [] routes

-- where the rows begin and end
pub borders-counted_rows_once : (d : Description) (p : PieceLists) (routes : List Route) (rows : List BlockRow) (f : ℕ) → rows ≡ counted_rows_once d p routes → (f ≡ 0) ⊎ Contains (borders_of rows) f → (f ≡ 0) ⊎ Contains (borders_of (counted_rows d p 0 routes)) f
borders-counted_rows_once d p routes rows f is (inl none) = inl none
borders-counted_rows_once d p routes rows f is (inr border) =
    let found = flat_map-member (λ (r : BlockRow). block_cuts r.block) rows f border in
    inr (Contains-flat_map (λ (r : BlockRow). block_cuts r.block) (counted_rows d p 0 routes) found.0 f (counted_rows_once-part d p routes found.0 (subst (λ (l : List BlockRow). Contains l found.0) is found.1)) found.2)
