-- The side with the most ends of boxes, and where it is cut.
use Rattle.std.proofs.Common.{◌≡◌, ℕ, ◌≤◌, ◌<◌, ◌+◌, true, Option, None, Some, List, [], ◌∷◌, refl, arith, ap, sym, subst, length, slice_get, get_or, ⊎_elim}
use Rattle.std.proofs.lemmas.Bool.{cases_lt}
use Rattle.std.proofs.lemmas.List.{get_or_default}
use Rattle.std.proofs.lemmas.List.Elements.{All-contains}
use Rattle.std.specs.List.{All, Any, Contains}
use Rattle.std.specs.Option.{IfNone, IfSome, IsSomeAnd, MatchOption}
use Rattle.vpc_base.specs.declared.headers.Header.{Header}
use Rattle.header_boxes.specs.Boxes.{holds}
use Rattle.header_boxes.proofs.Held.{in_from_holds, holds_from_in}
use Rattle.header_boxes.specs.declared.boxes.Box5.{Box5}
use Rattle.box_survey.specs.Cells.{HoldsCell}
use Rattle.box_survey.specs.Cuts.{AreEnds, Divides, HoldsRange, IsCutOf, range_on}
use Rattle.box_survey.specs.declared.sides.Cut.{Cut}
use Rattle.box_survey.specs.declared.sides.Side.{Side}
use Rattle.box_survey.specs.declared.sides.Side.TheVariants as side

-- the places of the sides
abbrev number_of : Side → ℕ
number_of side.Proto = 0
number_of side.Src = 1
number_of side.Dst = 2
number_of side.P = 3
number_of side.Q = 4

-- the cuts of the fullest of the sides up to a place
pub record AreFullest (boxes : List Box5) (cell : Box5) (numbers : List ℕ) (s : Side) (ends : List ℕ) (k : ℕ) : Type 0 where
  pub cuts : All (Divides (range_on s cell)) ends
  pub none : ends ≡ [] → (t : Side) → number_of t ≤ k → All (HoldsRange boxes t (range_on t cell)) numbers

abbrev others : List Side
others = side.Src ∷ side.Dst ∷ side.P ∷ side.Q ∷ []

side_at : (t : Side) (k : ℕ) (d : Side) → number_of t ≡ k + 1 → get_or others k d ≡ t
side_at side.Proto k d e = absurd (omega arith)
side_at side.Src k d e = let f : k ≡ 0 = omega arith in ap (λ n. get_or others n d) f
side_at side.Dst k d e = let f : k ≡ 1 = omega arith in ap (λ n. get_or others n d) f
side_at side.P k d e = let f : k ≡ 2 = omega arith in ap (λ n. get_or others n d) f
side_at side.Q k d e = let f : k ≡ 3 = omega arith in ap (λ n. get_or others n d) f

pub fullest_first : (boxes : List Box5) (cell : Box5) (numbers ends : List ℕ) → AreEnds boxes cell side.Proto numbers ends → AreFullest boxes cell numbers side.Proto ends 0
fullest_first boxes cell numbers ends were = record { cuts = were.cuts; none = λ e t le. by t le (were.none e) }
  where
    by : (t : Side) → number_of t ≤ 0 → All (HoldsRange boxes side.Proto (range_on side.Proto cell)) numbers → All (HoldsRange boxes t (range_on t cell)) numbers
    by side.Proto le all = all
    by side.Src le all = absurd (omega arith)
    by side.Dst le all = absurd (omega arith)
    by side.P le all = absurd (omega arith)
    by side.Q le all = absurd (omega arith)

empty_if_short : (xs : List ℕ) → length xs ≤ 0 → xs ≡ []
empty_if_short [] le = refl
empty_if_short (x ∷ xs) le = absurd (omega arith)

-- one more side has no more
pub fullest_kept : (boxes : List Box5) (cell : Box5) (numbers : List ℕ) (s : Side) (ends more : List ℕ) (k : ℕ) (d : Side) → AreFullest boxes cell numbers s ends k
    → AreEnds boxes cell (get_or others k d) numbers more → length more ≤ length ends → AreFullest boxes cell numbers s ends (k + 1)
fullest_kept boxes cell numbers s ends more k d were one few = record {
  cuts = were.cuts;
  none = λ e t le.
      ⊎_elim (λ lt. were.none e t (omega arith))
      (λ ge. let at : get_or others k d ≡ t = side_at t k d (omega arith) in
      subst (λ u. All (HoldsRange boxes u (range_on u cell)) numbers) at (one.none (empty_if_short more (let z = ap length e in omega (arith, z, few)))))
      (cases_lt (number_of t) (k + 1));
}

-- one more side has more
pub fullest_new : (boxes : List Box5) (cell : Box5) (numbers : List ℕ) (s : Side) (more : List ℕ) (k : ℕ) → AreEnds boxes cell s numbers more → 0 < length more
    → AreFullest boxes cell numbers s more (k + 1)
fullest_new boxes cell numbers s more k one some = record { cuts = one.cuts; none = λ e t le. let z = ap length e in absurd (omega (arith, z, some)) }

pub fullest_all : (boxes : List Box5) (cell : Box5) (numbers : List ℕ) (s : Side) (ends : List ℕ) (k : ℕ) → AreFullest boxes cell numbers s ends k → 4 ≤ k
    → ends ≡ [] → (t : Side) → All (HoldsRange boxes t (range_on t cell)) numbers
fullest_all boxes cell numbers s ends k were le e t = were.none e t (by t)
  where
    by : (t : Side) → number_of t ≤ k
    by side.Proto = omega arith
    by side.Src = omega arith
    by side.Dst = omega arith
    by side.P = omega arith
    by side.Q = omega arith

-- ---- the cut

holds_by_sides : (o : Option Box5) (cell : Box5) (h : Header) → ((t : Side) → IsSomeAnd o (λ b. ((range_on t b).0 ≤ (range_on t cell).0) × ((range_on t cell).1 ≤ (range_on t b).1)))
    → holds h cell ≡ true → IsSomeAnd o (λ b. holds h b ≡ true)
holds_by_sides None cell h sides inside = sides side.Proto
holds_by_sides (Some b) cell h sides inside =
    let i = in_from_holds h cell inside in
    holds_from_in h b (record {
      proto = wider (sides side.Proto) i.proto;
      src = wider (sides side.Src) i.src;
      dst = wider (sides side.Dst) i.dst;
      p = wider (sides side.P) i.p;
      q = wider (sides side.Q) i.q;
    })
  where
    wider : {a c x y z : ℕ} → (a ≤ x) × (y ≤ c) → (x ≤ z) × (z ≤ y) → (a ≤ z) × (z ≤ c)
    wider f i = (omega arith, omega arith)

-- the median of the cuts of the fullest side, or a box that holds the cell
pub cut_or_holder : (boxes : List Box5) (cell : Box5) (numbers : List ℕ) (s : Side) (ends : List ℕ) (r : Option Cut) → 0 < length numbers → All (Divides (range_on s cell)) ends
    → (ends ≡ [] → (t : Side) → All (HoldsRange boxes t (range_on t cell)) numbers) → IfNone r (ends ≡ []) → IfSome r (λ cut. (cut.side ≡ s) × Contains ends cut.at)
    → MatchOption r (Any (HoldsCell boxes cell) numbers) (IsCutOf cell)
cut_or_holder boxes cell numbers s ends None some cuts held none at =
    let i : ℕ = get_or numbers 0 0 in
    let z : get_or numbers 0 i ≡ i = get_or_default numbers 0 i 0 some in
    (0, i, some, z, λ h inside. holds_by_sides (slice_get boxes i) cell h (λ t. held none t 0 0 some) inside)
cut_or_holder boxes cell numbers s ends (Some cut) some cuts held none at =
    subst (λ t. Divides (range_on t cell) cut.at) (sym at.0) (All-contains (Divides (range_on s cell)) ends cut.at cuts at.1)
