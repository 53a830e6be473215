-- How a tree grows at its open boxes, and how it is listed once it is whole.
use Rattle.std.proofs.Common.{◌≡◌, ℕ, ◌≤◌, ◌<◌, ◌+◌, ◌==◌, ◌&&◌, ◌++◌, ◌⊎◌, All, Bool, Contains, IsPermutation, List, Option, Some, [], ◌∷◌, append_assoc, ap, arith, false, get_or, inl, inr, if◌then◌else◌, length, nat_lt, refl, subst, suc, sum_by, sym, true, zero, ◌∙◌}
use Rattle.std.specs.Prelude.{reverse}
use Rattle.std.proofs.lemmas.List.{reverse-append}
use Rattle.std.proofs.lemmas.List.Sorted.{IsPermutation-middle, IsPermutation-reverse}
use Rattle.vpc_base.proofs.Lemmas.{All-append, All-cons, All-from_recursion, All-head, All-nil, All-permutation, All-push, All-tail, All-weaker, Any-from_list_any, Contains-append_left, Contains-append_right, IsPermutation-sym, and_from, append-nil, length-append, nat_tests, sum_by-IsPermutation, sum_by-append, sum_by-cons}
use Rattle.std.specs.Cmp.{first_so, second_so}
use Rattle.std.specs.List.{AllByRecursion}
use Rattle.header_boxes.proofs.Ranges.{all_append}
use Rattle.vpc_base.specs.Cuts.{CutLists}
use Rattle.vpc_base.specs.declared.headers.Header.{Header}
use Rattle.header_boxes.specs.Boxes.{IsWithin, low_of}
use Rattle.header_boxes.specs.declared.boxes.Box5.{Box5}
use Rattle.header_boxes.specs.declared.rows.Row.{Row}
use Rattle.ordered_cover.specs.Beside.{beside, cuts_beside}
use Rattle.ordered_cover.specs.Growing.{IsBegun, IsGrowing, IsGrowthOf, IsLatest, IsTreeOf, MakeTree, SomeBeginsAt, all_open, open_in, rows_in}
use Rattle.ordered_cover.specs.Open.{IsAsked, one_if}
use Rattle.ordered_cover.specs.Trees.{leaves_over, stand_for}
use Rattle.ordered_cover.specs.declared.trees.Node.{Node}
use Rattle.ordered_cover.specs.declared.trees.Node.TheVariants.{Leaf}
use Rattle.ordered_cover.proofs.LeftBeside.{same_box_of}
use Rattle.ordered_cover.proofs.Lists.{any_from_one}
use Rattle.ordered_cover.proofs.Standing.{leaves_over-row, stand_for-row}

-- ---- which box is another one

abbrev same_range : ℕ × ℕ → ℕ × ℕ → Bool
same_range a b = (a.0 == b.0) && (a.1 == b.1)

abbrev pub same_box : Box5 → Box5 → Bool
same_box a b = same_range a.proto b.proto && (same_range a.src b.src && (same_range a.dst b.dst && (same_range a.p b.p && same_range a.q b.q)))

same_range-itself : (a : ℕ × ℕ) → same_range a a ≡ true
same_range-itself a = and_from (a.0 == a.0) (a.1 == a.1) (itself a.0) (itself a.1)
  where
    itself : (n : ℕ) → (n == n) ≡ true
    itself n = grind (arith, nat_tests)

pub same_box-itself : (a : Box5) → same_box a a ≡ true
same_box-itself a =
    and_from _ _ (same_range-itself a.proto) (and_from _ _ (same_range-itself a.src) (and_from _ _ (same_range-itself a.dst) (and_from _ _ (same_range-itself a.p) (same_range-itself a.q))))

one_range : (a b : ℕ × ℕ) → same_range a b ≡ true → a ≡ b
one_range a b t =
    ap (λ (x : ℕ). (x, a.1)) (same (a.0) (b.0) (first_so (a.0 == b.0) (a.1 == b.1) t)) ∙ ap (λ (x : ℕ). (b.0, x)) (same (a.1) (b.1) (second_so (a.0 == b.0) (a.1 == b.1) t))
  where
    same : (m n : ℕ) → (m == n) ≡ true → m ≡ n
    same m n e = grind (arith, nat_tests)

pub one_box : (a b : Box5) → same_box a b ≡ true → a ≡ b
one_box a b t =
    let q4 = same_range a.q b.q in
    let q3 = same_range a.p b.p && q4 in
    let q2 = same_range a.dst b.dst && q3 in
    let q1 = same_range a.src b.src && q2 in
    let t1 = second_so (same_range a.proto b.proto) q1 t in
    let t2 = second_so (same_range a.src b.src) q2 t1 in
    let t3 = second_so (same_range a.dst b.dst) q3 t2 in
    let proto = one_range a.proto b.proto (first_so (same_range a.proto b.proto) q1 t) in
    let src = one_range a.src b.src (first_so (same_range a.src b.src) q2 t1) in
    let dst = one_range a.dst b.dst (first_so (same_range a.dst b.dst) q3 t2) in
    let p = one_range a.p b.p (first_so (same_range a.p b.p) q4 t3) in
    let q = one_range a.q b.q (second_so (same_range a.p b.p) q4 t3) in
    same_box_of proto src dst p q

-- ---- growth

open_in-all_open : (W : Type 0) (boxes : List Box5) → open_in (all_open {W = W} boxes) ≡ boxes
open_in-all_open W [] = refl
open_in-all_open W (b ∷ boxes) = ap (λ v. b ∷ v) (open_in-all_open W boxes)

module _ {W : Type 0} where
  open_in-append : (xs ys : List ((Row W × Box5) ⊎ Box5)) → open_in (xs ++ ys) ≡ open_in xs ++ open_in ys
  open_in-append [] ys = refl
  open_in-append (inl asked ∷ xs) ys = open_in-append xs ys
  open_in-append (inr b ∷ xs) ys = ap (λ v. b ∷ v) (open_in-append xs ys)

  rows_in-append : (xs ys : List ((Row W × Box5) ⊎ Box5)) → rows_in (xs ++ ys) ≡ rows_in xs ++ rows_in ys
  rows_in-append [] ys = refl
  rows_in-append (inl asked ∷ xs) ys = ap (λ v. asked.0 ∷ v) (rows_in-append xs ys)
  rows_in-append (inr b ∷ xs) ys = rows_in-append xs ys

  rows_in-all_open : (boxes : List Box5) (later : List ((Row W × Box5) ⊎ Box5)) → rows_in (all_open boxes ++ later) ≡ rows_in later
  rows_in-all_open [] later = refl
  rows_in-all_open (b ∷ boxes) later = rows_in-all_open boxes later

  -- boxes that are open are cut into themselves
  growth_of_open : (boxes others : List Box5) (growth : List ((Row W × Box5) ⊎ Box5)) → IsGrowthOf growth others → IsGrowthOf (all_open boxes ++ growth) (boxes ++ others)
  growth_of_open [] others growth g = g
  growth_of_open (b ∷ boxes) others growth g = (refl, growth_of_open boxes others growth g)

  growth_after_open : (boxes others : List Box5) (growth : List ((Row W × Box5) ⊎ Box5)) → IsGrowthOf (all_open boxes ++ growth) (boxes ++ others) → IsGrowthOf growth others
  growth_after_open [] others growth g = g
  growth_after_open (b ∷ boxes) others growth g = growth_after_open boxes others growth g.1

  -- a row of a box, and what is left beside it
  abbrev pub grown_by : Row W → Box5 → List ((Row W × Box5) ⊎ Box5) → List ((Row W × Box5) ⊎ Box5)
  grown_by row whole later = inl (row, whole) ∷ (all_open (reverse (beside whole row.part)) ++ later)

  -- an open box becomes a row, and what is left beside it is open
  growth_at : (before later : List ((Row W × Box5) ⊎ Box5)) (boxes : List Box5) (whole : Box5) (row : Row W) → IsWithin row.part whole → low_of row.part ≡ low_of whole
      → IsGrowthOf (before ++ (inr whole ∷ later)) boxes → IsGrowthOf (before ++ grown_by row whole later) boxes
  growth_at [] later [] whole row within low g = absurd g
  growth_at [] later (b ∷ boxes) whole row within low g =
      (record { same = g.0; within = within; low = low }, growth_of_open (reverse (beside whole row.part)) boxes later g.1)
  growth_at (x ∷ before) later [] whole row within low g = absurd g
  growth_at (inl asked ∷ before) later (b ∷ boxes) whole row within low g =
      (g.0, growth_at before later (reverse (beside asked.1 asked.0.part) ++ boxes) whole row within low g.1)
  growth_at (inr o ∷ before) later (b ∷ boxes) whole row within low g = (g.0, growth_at before later boxes whole row within low g.1)

  -- another row of the same box
  pub growth_with : (before later : List ((Row W × Box5) ⊎ Box5)) (boxes : List Box5) (whole : Box5) (row other : Row W) → IsWithin other.part whole → low_of other.part ≡ low_of whole
      → IsGrowthOf (before ++ grown_by row whole later) boxes → IsGrowthOf (before ++ grown_by other whole later) boxes
  growth_with [] later [] whole row other within low g = absurd g
  growth_with [] later (b ∷ boxes) whole row other within low g = (
    record { same = g.0.same; within = within; low = low },
    growth_of_open (reverse (beside whole other.part)) boxes later (growth_after_open (reverse (beside whole row.part)) boxes later g.1),
  )
  growth_with (x ∷ before) later [] whole row other within low g = absurd g
  growth_with (inl asked ∷ before) later (b ∷ boxes) whole row other within low g =
      (g.0, growth_with before later (reverse (beside asked.1 asked.0.part) ++ boxes) whole row other within low g.1)
  growth_with (inr o ∷ before) later (b ∷ boxes) whole row other within low g = (g.0, growth_with before later boxes whole row other within low g.1)

  -- where an open box stands
  record IsOpenIn (growth : List ((Row W × Box5) ⊎ Box5)) (whole : Box5) : Type 0 where
    before : List ((Row W × Box5) ⊎ Box5)
    later : List ((Row W × Box5) ⊎ Box5)
    stands : growth ≡ before ++ (inr whole ∷ later)

  open_at : (growth : List ((Row W × Box5) ⊎ Box5)) (k : ℕ) (d whole : Box5) → k < length (open_in growth) → get_or (open_in growth) k d ≡ whole → IsOpenIn growth whole
  open_at [] k d whole lt e = absurd (omega (arith, lt))
  open_at (inl asked ∷ growth) k d whole lt e =
      let f = open_at growth k d whole lt e in
      record { before = inl asked ∷ f.before; later = f.later; stands = ap (λ v. inl asked ∷ v) f.stands }
  open_at (inr o ∷ growth) zero d whole lt e = record { before = []; later = growth; stands = ap (λ v. inr v ∷ growth) e }
  open_at (inr o ∷ growth) (suc k) d whole lt e =
      let f = open_at growth k d whole (omega (arith, lt)) e in
      record { before = inr o ∷ f.before; later = f.later; stands = ap (λ v. inr o ∷ v) f.stands }

  -- sums over what is open
  sum_by-open_in : (f : Box5 → ℕ) (xs ys : List ((Row W × Box5) ⊎ Box5)) → sum_by f (open_in (xs ++ ys)) ≡ sum_by f (open_in xs) + sum_by f (open_in ys)
  sum_by-open_in f xs ys = ap (sum_by f) (open_in-append xs ys) ∙ sum_by-append f (open_in xs) (open_in ys)

  pub sum_by-grown : (f : Box5 → ℕ) (before later : List ((Row W × Box5) ⊎ Box5)) (row : Row W) (whole : Box5)
      → sum_by f (open_in (before ++ grown_by row whole later)) ≡ sum_by f (open_in before) + (sum_by f (beside whole row.part) + sum_by f (open_in later))
  sum_by-grown f before later row whole =
      let pieces : List Box5 = reverse (beside whole row.part) in
      let a = sum_by-open_in f before (grown_by row whole later) in
      let b = sum_by-open_in f (all_open pieces) later in
      let c = ap (sum_by f) (open_in-all_open W pieces) in
      let d = sum_by-IsPermutation f (beside whole row.part) pieces (IsPermutation-reverse (beside whole row.part)) in
      omega (arith, a, b, c, d)

  -- a box that is open is open in the tree
  is_open_in : (boxes others : List Box5) (whole : Box5) (growth : List ((Row W × Box5) ⊎ Box5)) → IsPermutation boxes (whole ∷ others)
      → ((f : Box5 → ℕ) → sum_by f boxes ≡ sum_by f (open_in growth)) → IsOpenIn growth whole
  is_open_in boxes others whole growth taken sums =
      let f : Box5 → ℕ = (λ b. one_if (same_box b whole)) in
      let s = sum_by-IsPermutation f boxes (whole ∷ others) taken in
      let c = sum_by-cons f whole others in
      let o = ap one_if (same_box-itself whole) in
      let e = sums f in
      let some : 1 ≤ sum_by f (open_in growth) = omega (arith, s, c, o, e) in
      let a = Any-from_list_any (λ b. same_box b whole) (open_in growth) (any_from_one (λ b. same_box b whole) (open_in growth) some) in
      open_at growth a.0 a.1 whole a.2 (a.3 ∙ one_box a.1 whole a.4)

-- ---- its rows

module _ {W : Type 0} where
  rows_in-grown : (before later : List ((Row W × Box5) ⊎ Box5)) (row : Row W) (whole : Box5) → rows_in (before ++ grown_by row whole later) ≡ rows_in before ++ (row ∷ rows_in later)
  rows_in-grown before later row whole =
      rows_in-append before (grown_by row whole later) ∙ ap (λ v. rows_in before ++ (row ∷ v)) (rows_in-all_open (reverse (beside whole row.part)) later)

  all_with : (P : Row W → Type 0) (xs ys : List (Row W)) (row : Row W) → All P (xs ++ ys) → P row → All P (xs ++ (row ∷ ys))
  all_with P xs ys row all one =
      All-permutation P (row ∷ (xs ++ ys)) (xs ++ (row ∷ ys)) (IsPermutation-sym _ _ (IsPermutation-middle xs row ys)) (All-cons P row (xs ++ ys) one all)

  contains_last : (xs : List (Row W)) (x : Row W) → Contains (xs ++ x ∷ []) x
  contains_last xs x = Contains-append_right xs (x ∷ []) x (0, omega arith, refl)

  -- all rows of the tree are among the rows, and they are as many
  record HasRows (growth : List ((Row W × Box5) ⊎ Box5)) (rows : List (Row W)) : Type 0 where
    among : All (Contains rows) (rows_in growth)
    count : length (rows_in growth) ≡ length rows

  rows_of_latest : {sides : Box5} (growth : List ((Row W × Box5) ⊎ Box5)) (rows : List (Row W)) → IsLatest sides growth rows → HasRows growth rows
  rows_of_latest growth rows l =
      let all : List (Row W) = l.before ++ l.last ∷ [] in
      let are : rows_in growth ≡ rows_in l.first ++ (l.last ∷ rows_in l.later) = ap rows_in l.stands ∙ rows_in-grown l.first l.later l.last l.whole in
      let others : All (Contains all) (rows_in l.first ++ rows_in l.later) =
      All-weaker (Contains l.before) (Contains all) (λ r c. Contains-append_left l.before (l.last ∷ []) r c) (rows_in l.first ++ rows_in l.later) l.kept in
      record {
        among = subst (λ v. All (Contains v) (rows_in growth)) (sym l.ended)
            (subst (All (Contains all)) (sym are) (all_with (Contains all) (rows_in l.first) (rows_in l.later) l.last others (contains_last l.before l.last)));
        count =
            let a = ap length are in
            let b = length-append (rows_in l.first) (l.last ∷ rows_in l.later) in
            let c = length-append (rows_in l.first) (rows_in l.later) in
            let d = l.count in
            let e = ap length l.ended in
            let f = length-append l.before (l.last ∷ []) in
            omega (arith, a, b, c, d, e, f);
      }

  rows_of : {sides : Box5} {boxes : List Box5} (rows : List (Row W)) (s : IsGrowing sides boxes rows) → HasRows s.growth rows
  rows_of rows s = by rows s.growth s.latest
    where
      by : {sides : Box5} (rows : List (Row W)) (growth : List ((Row W × Box5) ⊎ Box5)) → ((rows ≡ []) × (rows_in growth ≡ [])) ⊎ IsLatest sides growth rows → HasRows growth rows
      by rows growth (inl none) = record {
        among = subst (All (Contains rows)) (sym none.1) (All-nil _);
        count = ap length none.1 ∙ sym (ap length none.0);
      }
      by rows growth (inr l) = rows_of_latest growth rows l

-- ---- what is left beside a part is as wide in q

as_wide : (w c : Box5) → All (λ b. b.q.1 ≡ w.q.1) (beside w c)
as_wide w c =
    All-from_recursion (λ b. b.q.1 ≡ w.q.1) (beside w c)
    (all_append P _ _ (if_so (nat_lt c.proto.1 w.proto.1) _ refl)
    (all_append P _ _ (if_so (nat_lt c.src.1 w.src.1) _ refl)
    (all_append P _ _ (if_so (nat_lt c.dst.1 w.dst.1) _ refl)
    (all_append P _ _ (if_so (nat_lt c.p.1 w.p.1) _ refl)
    (all_append P _ _ (if_so (nat_lt c.q.1 w.q.1) _ refl) tt)))))
  where
    P : Box5 → Type 0
    P b = b.q.1 ≡ w.q.1

    if_so : (t : Bool) (b : Box5) → P b → AllByRecursion P (if t then b ∷ [] else [])
    if_so true b e = (e, tt)
    if_so false b e = tt

-- ---- the first open box is asked

-- of the boxes that are open then each is as wide in q as the sides
module _ {W : Type 0} {meaning : Header → Option W} {cuts : CutLists} {sides : Box5} {old new : List Box5} {part : Box5} {word : Option W} {rows : List (Row W)}
    (s : IsGrowing sides old rows) (a : IsAsked meaning cuts old new part word) where
  pub whole_ends : a.whole.q.1 ≡ sides.q.1
  whole_ends = All-head (λ b. b.q.1 ≡ sides.q.1) a.whole a.others (All-permutation (λ b. b.q.1 ≡ sides.q.1) old (a.whole ∷ a.others) a.taken s.ends)

  pub ends_after : All (λ b. b.q.1 ≡ sides.q.1) new
  ends_after =
      let Ends : Box5 → Type 0 = (λ b. b.q.1 ≡ sides.q.1) in
      let others : All Ends a.others = All-tail Ends a.whole a.others (All-permutation Ends old (a.whole ∷ a.others) a.taken s.ends) in
      let pieces : All Ends (beside a.whole part) = All-weaker (λ b. b.q.1 ≡ a.whole.q.1) Ends (λ b e. e ∙ whole_ends) (beside a.whole part) (as_wide a.whole part) in
      All-permutation Ends (a.others ++ a.pieces) new a.left (All-append Ends a.others a.pieces others (subst (All Ends) (sym a.pieces_are) pieces))

  -- sums over what is open before and after
  pub sums_after : (f : Box5 → ℕ) → sum_by f new + f a.whole ≡ sum_by f (open_in s.growth) + sum_by f (beside a.whole part)
  sums_after f =
      let n = sum_by-IsPermutation f (a.others ++ a.pieces) new a.left in
      let n2 = sum_by-append f a.others a.pieces in
      let n3 = ap (sum_by f) a.pieces_are in
      let o = sum_by-IsPermutation f old (a.whole ∷ a.others) a.taken in
      let o2 = sum_by-cons f a.whole a.others in
      let e = s.still_open f in
      omega (arith, n, n2, n3, o, o2, e)

module _ {W : Type 0} {meaning : Header → Option W} {cuts : CutLists} {sides : Box5} {old new : List Box5} {part : Box5} {rows : List (Row W)} where
  -- the part is a row of its own
  pub growing_after : (w : W) → IsGrowing sides old rows → IsAsked meaning cuts old new part (Some w) → IsGrowing sides new (rows ++ record { part = part; word = w } ∷ [])
  growing_after w s a =
      let row : Row W = record { part = part; word = w } in
      let at = is_open_in old a.others a.whole s.growth a.taken s.still_open in
      let had = rows_of rows s in
      let were : rows_in s.growth ≡ rows_in at.before ++ rows_in at.later = ap rows_in at.stands ∙ rows_in-append at.before (inr a.whole ∷ at.later) in
      record {
        growth = at.before ++ grown_by row a.whole at.later;
        cut = growth_at at.before at.later (sides ∷ []) a.whole row a.within a.low (subst (λ g. IsGrowthOf g (sides ∷ [])) at.stands s.cut);
        still_open = λ f.
            let n = sums_after s a f in
            let e2 = ap (λ g. sum_by f (open_in g)) at.stands in
            let e3 = sum_by-open_in f at.before (inr a.whole ∷ at.later) in
            let e4 = sum_by-cons f a.whole (open_in at.later) in
            let g = sum_by-grown f at.before at.later row a.whole in
            omega (arith, n, e2, e3, e4, g);
        ends = ends_after s a;
        latest = inr (record {
          before = rows;
          last = row;
          ended = refl;
          whole = a.whole;
          first = at.before;
          later = at.later;
          stands = refl;
          begins = record { same = refl; within = a.within; low = a.low };
          ends = whole_ends s a;
          kept = subst (All (Contains rows)) were had.among;
          count = sym (ap length were) ∙ had.count;
        });
      }

-- before anything was asked
pub growing_at_start : {W : Type 0} {sides : Box5} → IsGrowing {W = W} sides (sides ∷ []) []
growing_at_start {W} {sides} = record {
  growth = inr sides ∷ [];
  cut = (refl, tt);
  still_open = λ f. refl;
  ends = All-cons (λ b. b.q.1 ≡ sides.q.1) sides [] refl (All-nil _);
  latest = inl (refl, refl);
}

-- ---- the nodes, once nothing is open

none_from_sum : (xs : List Box5) → 0 ≡ sum_by (λ b. 1) xs → xs ≡ []
none_from_sum [] e = refl
none_from_sum (x ∷ xs) e = let s = sum_by-cons (λ b. 1) x xs in absurd (omega (arith, e, s))

module _ {W : Type 0} where
  -- the row of the next box
  record IsNext (growth : List ((Row W × Box5) ⊎ Box5)) (b : Box5) (boxes : List Box5) : Type 0 where
    row : Row W
    later : List ((Row W × Box5) ⊎ Box5)
    whole : Box5
    comes : growth ≡ inl (row, whole) ∷ later
    within : IsWithin row.part b
    low : low_of row.part ≡ low_of b
    cut : IsGrowthOf later (reverse (beside b row.part) ++ boxes)
    closed : open_in later ≡ []

  next_row : (growth : List ((Row W × Box5) ⊎ Box5)) (b : Box5) (boxes : List Box5) → IsGrowthOf growth (b ∷ boxes) → open_in growth ≡ [] → IsNext growth b boxes
  next_row [] b boxes g closed = absurd g
  next_row (inl asked ∷ later) b boxes g closed =
      let e = g.0.same in
      record {
        row = asked.0;
        later = later;
        whole = asked.1;
        comes = refl;
        within = subst (λ v. IsWithin asked.0.part v) e g.0.within;
        low = g.0.low ∙ ap low_of e;
        cut = subst (λ v. IsGrowthOf later (reverse (beside v asked.0.part) ++ boxes)) e g.1;
        closed = closed;
      }
  next_row (inr o ∷ later) b boxes g closed = absurd cc

module _ {W : Type 0} {sides : Box5} {rows : List (Row W)} where
  pub begun_at_start : MakeTree sides rows → IsBegun sides rows [] (sides ∷ [])
  begun_at_start m = record {
    growth = m.growing.growth;
    cut = m.growing.cut;
    closed = none_from_sum (open_in m.growing.growth) (m.growing.still_open (λ b. 1));
    kept = (let had = rows_of rows m.growing in had.among);
    leaves = [];
    leaves_kept = All-nil _;
    count = (let had = rows_of rows m.growing in let c = had.count in omega (arith, c));
    stands = λ later. refl;
    gives = λ later. refl;
  }

  module _ {nodes : List (Node W)} {b : Box5} {boxes : List Box5} (s : IsBegun sides rows nodes (b ∷ boxes)) where
    next : IsNext s.growth b boxes
    next = next_row s.growth b boxes s.cut s.closed

    among : All (Contains rows) (next.row ∷ rows_in next.later)
    among = subst (All (Contains rows)) (ap rows_in next.comes) s.kept

    pub some_begins : SomeBeginsAt rows b
    some_begins = record { row = next.row; among = All-head (Contains rows) next.row (rows_in next.later) among; begins = next.low }

    -- the row that is found is that one
    pub found_within : (row : Row W) → ((r : Row W) → Contains rows r → low_of r.part ≡ low_of b → r ≡ row) → IsWithin row.part b × (low_of row.part ≡ low_of b)
    unfolding next some_begins
    found_within row only =
        let e = only next.row some_begins.among next.low in
        (subst (λ (r : Row W). IsWithin r.part b) e next.within, subst (λ (r : Row W). low_of r.part ≡ low_of b) e next.low)

    -- its cuts and its leaf come next
    pub begun_next : (row : Row W) → ((r : Row W) → Contains rows r → low_of r.part ≡ low_of b → r ≡ row)
        → IsBegun sides rows ((nodes ++ cuts_beside b row.part) ++ Leaf row.word ∷ []) (reverse (beside b row.part) ++ boxes)
    unfolding next some_begins
    begun_next row only = subst (λ (r : Row W). IsBegun sides rows ((nodes ++ cuts_beside b r.part) ++ Leaf r.word ∷ []) (reverse (beside b r.part) ++ boxes)) (only next.row some_begins.among next.low) by_next
      where
        parted : (later : List (Node W)) → ((nodes ++ cuts_beside b next.row.part) ++ Leaf next.row.word ∷ []) ++ later ≡ nodes ++ (cuts_beside b next.row.part ++ (Leaf next.row.word ∷ later))
        parted later = append_assoc (nodes ++ cuts_beside b next.row.part) (Leaf next.row.word ∷ []) later ∙ append_assoc nodes (cuts_beside b next.row.part) (Leaf next.row.word ∷ later)

        by_next : IsBegun sides rows ((nodes ++ cuts_beside b next.row.part) ++ Leaf next.row.word ∷ []) (reverse (beside b next.row.part) ++ boxes)
        by_next = record {
          growth = next.later;
          cut = next.cut;
          closed = next.closed;
          kept = All-tail (Contains rows) next.row (rows_in next.later) among;
          leaves = s.leaves ++ next.row ∷ [];
          leaves_kept = All-push (Contains rows) s.leaves next.row s.leaves_kept some_begins.among;
          count =
              let l = length-append s.leaves (next.row ∷ []) in
              let e = ap (λ g. length (rows_in g)) next.comes in
              let c = s.count in
              omega (arith, l, e, c);
          stands = λ later.
              ap (λ v. stand_for v (sides ∷ [])) (parted later)
              ∙ (s.stands (cuts_beside b next.row.part ++ (Leaf next.row.word ∷ later)) ∙ stand_for-row next.row b boxes next.within next.low later);
          gives = λ later.
              ap (λ v. leaves_over v (sides ∷ [])) (parted later)
              ∙ (s.gives (cuts_beside b next.row.part ++ (Leaf next.row.word ∷ later))
              ∙ (ap (λ v. s.leaves ++ v) (leaves_over-row next.row b boxes next.within next.low later)
              ∙ sym (append_assoc s.leaves (next.row ∷ []) (leaves_over later (reverse (beside b next.row.part) ++ boxes)))));
        }

  -- nothing is left to be stood for
  pub tree_at_end : {nodes : List (Node W)} → IsBegun sides rows nodes [] → IsTreeOf sides rows nodes
  tree_at_end {nodes} s =
      let all : nodes ++ [] ≡ nodes = append-nil nodes in
      let leaves : leaves_over nodes (sides ∷ []) ≡ s.leaves = ap (λ v. leaves_over v (sides ∷ [])) (sym all) ∙ (s.gives [] ∙ append-nil s.leaves) in
      record {
        tree = ap (λ v. stand_for v (sides ∷ [])) (sym all) ∙ s.stands [];
        kept = subst (All (Contains rows)) (sym leaves) s.leaves_kept;
        count =
            let l = ap length leaves in
            let c = s.count in
            let n = none_left s.growth s.cut in
            omega (arith, l, c, n);
      }
    where
      none_left : (growth : List ((Row W × Box5) ⊎ Box5)) → IsGrowthOf growth [] → length (rows_in growth) ≡ 0
      none_left [] g = refl
      none_left (x ∷ growth) g = absurd g

-- ---- the boxes as they are kept: the last one comes first

module _ {W : Type 0} {sides : Box5} {rows : List (Row W)} where
  pub begun_as : {nodes all : List (Node W)} {boxes left : List Box5} → all ≡ nodes → left ≡ boxes → IsBegun sides rows nodes (reverse boxes) → IsBegun sides rows all (reverse left)
  begun_as {nodes} {all} {boxes} {left} e f s = subst (λ v. IsBegun sides rows v (reverse left)) (sym e) (subst (λ v. IsBegun sides rows nodes (reverse v)) (sym f) s)

  -- the last one is taken
  pub begun_by_last : {nodes : List (Node W)} {boxes : List Box5} (before : List Box5) {b : Box5} → boxes ≡ before ++ b ∷ [] → IsBegun sides rows nodes (reverse boxes) → IsBegun sides rows nodes (b ∷ reverse before)
  begun_by_last {nodes} {boxes} before {b} e s = subst (IsBegun sides rows nodes) (ap reverse e ∙ reverse-append before (b ∷ [])) s

  -- and what is left beside its row comes in its place
  pub begun_beside : {nodes all : List (Node W)} (before : List Box5) {left : List Box5} {b : Box5} (row : Row W) → ((r : Row W) → Contains rows r → low_of r.part ≡ low_of b → r ≡ row)
      → all ≡ (nodes ++ cuts_beside b row.part) ++ Leaf row.word ∷ [] → left ≡ before ++ beside b row.part → IsBegun sides rows nodes (b ∷ reverse before) → IsBegun sides rows all (reverse left)
  begun_beside {nodes} {all} before {left} {b} row only e f s =
      subst (λ v. IsBegun sides rows v (reverse left)) (sym e)
      (subst (IsBegun sides rows ((nodes ++ cuts_beside b row.part) ++ Leaf row.word ∷ [])) (sym (ap reverse f ∙ reverse-append before (beside b row.part))) (begun_next s row only))
