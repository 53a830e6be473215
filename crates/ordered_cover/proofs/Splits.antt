-- Open boxes and rows that split the sides.
use Rattle.std.proofs.Common.{All, Bool, Contains, IsPermutation, List, None, Option, Some, [], ap, arith, false, get_or, is_some, length, refl, subst, sum_by, sym, true, ℕ, ◌++◌, ◌+◌, ◌<◌, ◌∙◌, ◌∷◌, ◌≡◌, ◌≢◌, ◌≤◌}
use Rattle.vpc_base.proofs.Lemmas.{All-append, All-cons, All-contains, All-head, All-nil, All-permutation, All-push, All-tail, All-weaker, Any-from_list_any, all_pairs_push, some_if, some_not_none, sum_by-IsPermutation, sum_by-append, sum_by-cons}
use Rattle.vpc_base.specs.Terms.{AreAmong, CutLists, IsBefore}
use Rattle.vpc_base.specs.declared.headers.Header.{Header}
use Rattle.header_boxes.specs.Terms.{AreDisjoint, HasWord, IsAligned, IsFirstThrough, IsValid, IsWithin, NoneThrough, cells_of, holds, is_covered, low_of, volume_of}
use Rattle.header_boxes.specs.declared.boxes.Box5.{Box5}
use Rattle.header_boxes.proofs.Lemmas.{aligned_grows, aligned_through, aligned_to_itself, holds_low, holds_whole, low_is_least, valid_if_within, volume_is_positive, within_itself, within_trans}
use Rattle.ordered_cover.specs.Terms.{AreJoined, AreSplit, AreSplitBySome, GoesOnEitherWay, HoldAllTold, IsAsked, IsBlocked, IsLeast, IsMore, LeaveSomeOut, every, holders, one_if, row_holders, told}
use Rattle.header_boxes.specs.declared.rows.Row.{Row}
use Rattle.ordered_cover.specs.Grown.{IsGrownTree}
use Rattle.ordered_cover.specs.Growing.{IsTreeOf}
use Rattle.ordered_cover.specs.Trees.{leaves_of}
use Rattle.ordered_cover.specs.declared.trees.Node.{Node}
use Rattle.ordered_cover.proofs.Lists.{one_at, any_from_one, none_from_zero, zero_from_all, zero_for, at_most_one}
use Rattle.ordered_cover.proofs.Order.{before_trans, before_upto, before_other}
use Rattle.ordered_cover.proofs.Cells.{more_cells}

one_for : (b : Bool) → b ≡ true → one_if b ≡ 1
one_for b h = ap one_if h

holder_at : (boxes : List Box5) (h : Header) (k : ℕ) (d : Box5) → k < length boxes → holds h (get_or boxes k d) ≡ true → 1 ≤ holders boxes h
holder_at boxes h = one_at (holds h) boxes

row_holder_at : {W : Type 0} (rows : List (Row W)) (h : Header) (k : ℕ) (d : Row W) → k < length rows → holds h (get_or rows k d).part ≡ true → 1 ≤ row_holders rows h
row_holder_at rows h = one_at (λ r. holds h r.part) rows

-- a header before all open boxes is in no open box
none_open : (open_boxes : List Box5) (b : Box5) → IsLeast b open_boxes → (k : Header) → IsBefore k (low_of b) → holders open_boxes k ≡ 0
none_open open_boxes b least k before =
    zero_from_all (holds k) open_boxes (λ i d lt h. least i d lt (before_upto k (low_of (get_or open_boxes i d)) (low_of b) (low_is_least (get_or open_boxes i d) k h) before))

-- a header in a row doesn't get through
clear_in_rows : {W : Type 0} {meaning : Header → Option W} (rows : List (Row W)) → All (HasWord meaning) rows → (k : Header) → is_covered rows k ≡ true → meaning k ≢ None
clear_in_rows {meaning = meaning} rows words k covered =
    let a = Any-from_list_any (λ r. holds k r.part) rows covered in
    some_not_none (meaning k) a.1.word (subst (HasWord meaning) a.3 (words a.0 a.1 a.2) k a.4)

-- where rows hold every header none gets through
pub none_through-from_blocked : {W : Type 0} {meaning : Header → Option W} {cuts : CutLists} {sides : Box5} {max : ℕ} {rows : List (Row W)}
    → IsBlocked meaning cuts sides max rows → NoneThrough meaning sides
none_through-from_blocked {rows = rows} blocked h inside = clear_in_rows rows blocked.are_true.word h (blocked.whole h inside)

-- ---- the lists before and after the first open box is asked
module _ {W : Type 0} {meaning : Header → Option W} {cuts : CutLists} {old new : List Box5} {part : Box5} {word : Option W} where
  of_whole : (P : Box5 → Type 0) (a : IsAsked meaning cuts old new part word) → All P old → P a.whole
  of_whole P a all = All-head P a.whole a.others (All-permutation P old (a.whole ∷ a.others) a.taken all)

  of_others : (P : Box5 → Type 0) (a : IsAsked meaning cuts old new part word) → All P old → All P a.others
  of_others P a all = All-tail P a.whole a.others (All-permutation P old (a.whole ∷ a.others) a.taken all)

  of_new : (P : Box5 → Type 0) (a : IsAsked meaning cuts old new part word) → All P a.others → All P a.pieces → All P new
  of_new P a others pieces = All-permutation P (a.others ++ a.pieces) new a.left (All-append P a.others a.pieces others pieces)

  holders_old : (a : IsAsked meaning cuts old new part word) (h : Header) → holders old h ≡ one_if (holds h a.whole) + holders a.others h
  holders_old a h = sym (sum_by-IsPermutation (λ b. one_if (holds h b)) old (a.whole ∷ a.others) a.taken) ∙ sum_by-cons (λ b. one_if (holds h b)) a.whole a.others

  holders_new : (a : IsAsked meaning cuts old new part word) (h : Header) → holders new h ≡ holders a.others h + holders a.pieces h
  holders_new a h = sum_by-IsPermutation (λ b. one_if (holds h b)) (a.others ++ a.pieces) new a.left ∙ sum_by-append (λ b. one_if (holds h b)) a.others a.pieces

-- ---- what is known of a split
module _ {W : Type 0} {meaning : Header → Option W} {cuts : CutLists} {sought : Header → Bool} {sides : Box5} where
  -- before anything was asked
  pub split_at_start : IsValid sides → AreSplit meaning cuts sought sides (sides ∷ []) []
  split_at_start v = record {
    are_true = record { within = All-nil _; disjoint = λ i j d lt inside. absurd (omega arith); word = All-nil _ };
    ordered = record { ascending = λ i j d lt inside. absurd (omega arith); aligned = All-nil _ };
    once = λ h. let s = sum_by-cons (λ b. one_if (holds h b)) sides [] in omega (arith, s);
    all = λ h inside wanted. let s = sum_by-cons (λ b. one_if (holds h b)) sides [] in let o = one_for (holds h sides) inside in omega (arith, s, o);
    within = All-cons (λ b. IsWithin b sides) sides [] (within_itself sides v) (All-nil _);
    aligned = All-cons (λ b. IsAligned cuts b sides) sides [] (aligned_to_itself cuts sides) (All-nil _);
    begun = All-nil _;
  }

  -- a header that is sought and comes before all open boxes is in a row
  before_open : (open_boxes : List Box5) (rows : List (Row W)) → AreSplit meaning cuts sought sides open_boxes rows → (b : Box5) → IsLeast b open_boxes
      → (k : Header) → holds k sides ≡ true → sought k ≡ true → IsBefore k (low_of b) → is_covered rows k ≡ true
  before_open open_boxes rows s b least k inside wanted before =
      let e = s.all k inside wanted in let z = none_open open_boxes b least k before in
      let some : 1 ≤ row_holders rows k = omega (arith, e, z) in
      any_from_one (λ r. holds k r.part) rows some

  -- where nothing is open the rows hold every header that is sought
  pub covered_at_end : (open_boxes : List Box5) (rows : List (Row W)) → open_boxes ≡ [] → AreSplit meaning cuts sought sides open_boxes rows
      → (h : Header) → holds h sides ≡ true → sought h ≡ true → is_covered rows h ≡ true
  covered_at_end open_boxes rows none s h inside wanted =
      let e = s.all h inside wanted in
      let z : holders open_boxes h ≡ 0 = ap (λ v. holders v h) none in
      let some : 1 ≤ row_holders rows h = omega (arith, e, z) in
      any_from_one (λ r. holds h r.part) rows some

  -- ---- the first open box is asked
  module _ {old new : List Box5} {part : Box5} {word : Option W} {rows : List (Row W)} (s : AreSplit meaning cuts sought sides old rows)
      (a : IsAsked meaning cuts old new part word) where
    whole_within : IsWithin a.whole sides
    whole_within = of_whole (λ b. IsWithin b sides) a s.within

    whole_aligned : IsAligned cuts a.whole sides
    whole_aligned = of_whole (λ b. IsAligned cuts b sides) a s.aligned

    part_within : IsWithin part sides
    part_within = within_trans part a.whole sides a.within whole_within

    -- no other open box begins where the first begins
    pub begins_elsewhere : All (λ b. low_of a.whole ≢ low_of b) a.others
    begins_elsewhere k d lt same =
        let b = get_or a.others k d in
        let within : IsWithin b sides = of_others (λ b. IsWithin b sides) a s.within k d lt in
        let h = low_of a.whole in
        let here = one_for (holds h a.whole) (holds_low a.whole (valid_if_within a.whole sides whole_within)) in
        let there = holder_at a.others h k d lt (subst (λ v. holds v b ≡ true) (sym same) (holds_low b (valid_if_within b sides within))) in
        let o = holders_old a h in let e = s.once h in let m = at_most_one (holds h sides) in
        absurd (omega (arith, here, there, o, e, m))

    -- the other open boxes begin after the part
    others_after : All (λ b. IsBefore (low_of part) (low_of b)) a.others
    others_after k d lt =
        let b = get_or a.others k d in
        let least = of_others (λ o. ¬ (IsBefore (low_of o) (low_of a.whole))) a a.least k d lt in
        subst (λ v. IsBefore v (low_of b)) (sym a.low) (before_other (low_of a.whole) (low_of b) least (begins_elsewhere k d lt))

    -- the rows begin before the part
    rows_before : All (λ (r : Row W). IsBefore (low_of r.part) (low_of part)) rows
    rows_before k d lt = subst (IsBefore (low_of (get_or rows k d).part)) (sym a.low) (of_whole (λ b. IsBefore (low_of (get_or rows k d).part) (low_of b)) a (s.begun k d lt))

    rows_apart : (k : ℕ) (d : Row W) → k < length rows → AreDisjoint (get_or rows k d).part part
    rows_apart k d lt h in_row in_part =
        let r = row_holder_at rows h k d lt in_row in
        let here = one_for (holds h a.whole) (holds_whole h part a.whole a.within in_part) in
        let o = holders_old a h in let e = s.once h in let m = at_most_one (holds h sides) in
        absurd (omega (arith, r, here, o, e, m))

    -- what is open then
    within_new : All (λ b. IsWithin b sides) new
    within_new =
        of_new (λ b. IsWithin b sides) a (of_others (λ b. IsWithin b sides) a s.within)
        (All-weaker (λ b. IsWithin b a.whole) (λ b. IsWithin b sides) (λ b v. within_trans b a.whole sides v whole_within) a.pieces a.rest.within)

    aligned_new : All (λ b. IsAligned cuts b sides) new
    aligned_new =
        of_new (λ b. IsAligned cuts b sides) a (of_others (λ b. IsAligned cuts b sides) a s.aligned)
        (All-weaker (λ b. IsAligned cuts b a.whole) (λ b. IsAligned cuts b sides) (λ b v. aligned_through cuts b a.whole sides v whole_aligned) a.pieces a.rest.aligned)

    begun_new : All (λ (r : Row W). All (λ b. IsBefore (low_of r.part) (low_of b)) new) rows
    begun_new k d lt =
        let P : Box5 → Type 0 = (λ b. IsBefore (low_of (get_or rows k d).part) (low_of b)) in
        of_new P a (of_others P a (s.begun k d lt))
        (All-weaker (λ b. IsBefore (low_of part) (low_of b)) P (λ b v. before_trans (low_of (get_or rows k d).part) (low_of part) (low_of b) (rows_before k d lt) v) a.pieces a.rest.after)

    -- what was open is open still, or in the part
    open_or_part : (h : Header) → holders new h + one_if (holds h part) ≡ holders old h
    open_or_part h = let n = holders_new a h in let o = holders_old a h in let p = a.rest.each h in omega (arith, n, o, p)

  module _ {old new : List Box5} {part : Box5} {rows : List (Row W)} where
    -- the part becomes a row
    pub split_after : (w : W) → AreSplit meaning cuts sought sides old rows → IsAsked meaning cuts old new part (Some w)
        → AreSplit meaning cuts sought sides new (rows ++ record { part = part; word = w } ∷ [])
    split_after w s a =
        let row : Row W = record { part = part; word = w } in
        record {
          are_true = record {
            within = All-push (λ r. IsWithin r.part sides) rows row s.are_true.within (part_within s a);
            disjoint = all_pairs_push (λ x y. AreDisjoint x.part y.part) rows row s.are_true.disjoint (rows_apart s a);
            word = All-push (HasWord meaning) rows row s.are_true.word a.means;
          };
          ordered = record {
            ascending = all_pairs_push (λ x y. IsBefore (low_of x.part) (low_of y.part)) rows row s.ordered.ascending (rows_before s a);
            aligned = All-push (λ r. IsAligned cuts r.part sides) rows row s.ordered.aligned (aligned_through cuts part a.whole sides a.aligned (whole_aligned s a));
          };
          once = λ h.
              let p = open_or_part s a h in let e = s.once h in
              let r = sum_by-append (λ (x : Row W). one_if (holds h x.part)) rows (row ∷ []) in
              omega (arith, p, e, r);
          all = λ h inside wanted.
              let p = open_or_part s a h in let e = s.all h inside wanted in
              let r = sum_by-append (λ (x : Row W). one_if (holds h x.part)) rows (row ∷ []) in
              omega (arith, p, e, r);
          within = within_new s a;
          aligned = aligned_new s a;
          begun = All-push (λ r. All (λ b. IsBefore (low_of r.part) (low_of b)) new) rows row (begun_new s a)
              (of_new (λ b. IsBefore (low_of part) (low_of b)) a (others_after s a) a.rest.after);
        }

    -- the part is passed over, where none of its headers is sought
    pub split_past : AreSplit meaning cuts sought sides old rows → IsAsked meaning cuts old new part None → ((h : Header) → meaning h ≡ None → sought h ≢ true)
        → AreSplit meaning cuts sought sides new rows
    split_past s a unsought = record {
      are_true = s.are_true;
      ordered = s.ordered;
      once = λ h. let p = open_or_part s a h in let e = s.once h in omega (arith, p, e);
      all = λ h inside wanted.
          let p = open_or_part s a h in let e = s.all h inside wanted in
          let z : one_if (holds h part) ≡ 0 = zero_for (holds h part) (λ in_part. unsought h (a.means h in_part) wanted) in
          omega (arith, p, e, z);
      within = within_new s a;
      aligned = aligned_new s a;
      begun = begun_new s a;
    }

  -- ---- an open box that begins first, and what the rows leave out
  module _ {open_boxes others : List Box5} {rows : List (Row W)} (b : Box5) (s : AreSplit meaning cuts sought sides open_boxes rows)
      (taken : IsPermutation open_boxes (b ∷ others)) (least : IsLeast b open_boxes) where
    first_within : IsWithin b sides
    first_within = All-head (λ o. IsWithin o sides) b others (All-permutation (λ o. IsWithin o sides) open_boxes (b ∷ others) taken s.within)

    first_held : holds (low_of b) b ≡ true
    first_held = holds_low b (valid_if_within b sides first_within)

    first_inside : holds (low_of b) sides ≡ true
    first_inside = holds_whole (low_of b) b sides first_within first_held

    held_once : (h : Header) → holds h b ≡ true → row_holders rows h ≡ 0
    held_once h inside =
        let e = s.once h in
        let m = at_most_one (holds h sides) in
        let o : holders open_boxes h ≡ holders (b ∷ others) h = sym (sum_by-IsPermutation (λ x. one_if (holds h x)) open_boxes (b ∷ others) taken) in
        let c = sum_by-cons (λ x. one_if (holds h x)) b others in
        let one = one_for (holds h b) inside in
        omega (arith, e, m, o, c, one)

    -- it begins outside the rows
    first_outside : is_covered rows (low_of b) ≡ false
    first_outside = none_from_zero (λ r. holds (low_of b) r.part) rows (held_once (low_of b) first_held)

    -- after them
    first_begun : All (λ r. IsBefore (low_of r.part) (low_of b)) rows
    first_begun k d lt =
        let P : Box5 → Type 0 = (λ o. IsBefore (low_of (get_or rows k d).part) (low_of o)) in
        All-head P b others (All-permutation P open_boxes (b ∷ others) taken (s.begun k d lt))

    -- and holds a cell of its own
    first_cells : (all : CutLists) → AreAmong cuts all → length rows < cells_of all sides
    first_cells all among =
        let aligned : IsAligned cuts b sides = All-head (λ o. IsAligned cuts o sides) b others (All-permutation (λ o. IsAligned cuts o sides) open_boxes (b ∷ others) taken s.aligned) in
        let apart : All (λ (r : Row W). AreDisjoint b r.part) rows = (λ k d lt h in_b in_row.
        let r = row_holder_at rows h k d lt in_row in
        let z = held_once h in_b in
        absurd (omega (arith, r, z))) in
        more_cells (λ (r : Row W). r.part) all sides b rows s.are_true.within (λ k d lt. aligned_grows cuts all (get_or rows k d).part sides among (s.ordered.aligned k d lt))
        s.are_true.disjoint first_within (aligned_grows cuts all b sides among aligned) apart

-- the header of the part that comes first gets through, where any of the part does and every header is sought
pub found_from_asked : {W : Type 0} {meaning : Header → Option W} {cuts : CutLists} {sides : Box5} {old new : List Box5} {part : Box5} {rows : List (Row W)}
    → AreSplit meaning cuts every sides old rows → IsAsked meaning cuts old new part None → IsFirstThrough meaning sides (low_of part)
found_from_asked {old = old} {part = part} {rows = rows} s a =
    let here : holds (low_of part) part ≡ true = holds_low part (valid_if_within part a.whole a.within) in
    record {
      inside = holds_whole (low_of part) part _ (part_within s a) here;
      through = a.means (low_of part) here;
      first = λ k inside before. clear_in_rows rows s.are_true.word k (before_open old rows s a.whole a.least k inside refl (subst (IsBefore k) a.low before));
    }

-- ---- volumes
-- the open boxes hold fewer headers once one was asked
pub volume_falls : {W : Type 0} {meaning : Header → Option W} {cuts : CutLists} {old new : List Box5} {part : Box5} {word : Option W}
    → IsAsked meaning cuts old new part word → sum_by volume_of new < sum_by volume_of old
volume_falls {old = old} {new = new} {part = part} a =
    let t = sum_by-IsPermutation volume_of old (a.whole ∷ a.others) a.taken in
    let c = sum_by-cons volume_of a.whole a.others in
    let l = sum_by-IsPermutation volume_of (a.others ++ a.pieces) new a.left in
    let s = sum_by-append volume_of a.others a.pieces in
    let r = a.rest.volume in
    let v = volume_is_positive part (valid_if_within part a.whole a.within) in
    omega (arith, t, c, l, s, r, v)

pub valid_from_split : {W : Type 0} {meaning : Header → Option W} {cuts : CutLists} {sought : Header → Bool} {sides : Box5} {open_boxes : List Box5} {rows : List (Row W)}
    → AreSplit meaning cuts sought sides open_boxes rows → All IsValid open_boxes
valid_from_split {sides = sides} {open_boxes = open_boxes} s = All-weaker (λ b. IsWithin b sides) IsValid (λ b v. valid_if_within b sides v) open_boxes s.within

-- ---- a search that keeps no rows
module _ {W : Type 0} {meaning : Header → Option W} {cuts : CutLists} {sides : Box5} where
  pub some_at_start : IsValid sides → AreSplitBySome meaning cuts sides (sides ∷ [])
  some_at_start v = record { rows = []; split = split_at_start v }

  pub some_valid : {open_boxes : List Box5} → AreSplitBySome meaning cuts sides open_boxes → All IsValid open_boxes
  some_valid s = valid_from_split s.split

  pub some_found : {old new : List Box5} {part : Box5} {word : Option W} → AreSplitBySome meaning cuts sides old → IsAsked meaning cuts old new part word → is_some word ≡ false
      → IsFirstThrough meaning sides (low_of part)
  some_found {word = None} s a e = found_from_asked s.split a
  some_found {word = Some w} s a e = absurd (cc)

  pub some_after : {old new : List Box5} {part : Box5} {word : Option W} → AreSplitBySome meaning cuts sides old → IsAsked meaning cuts old new part word → is_some word ≡ true
      → AreSplitBySome meaning cuts sides new
  some_after {word = None} s a e = absurd (cc)
  some_after {part = part} {word = Some w} s a e = record { rows = s.rows ++ record { part = part; word = w } ∷ []; split = split_after w s.split a }

  pub some_none_through : {open_boxes : List Box5} → open_boxes ≡ [] → AreSplitBySome meaning cuts sides open_boxes → NoneThrough meaning sides
  some_none_through {open_boxes = open_boxes} none s h inside = clear_in_rows s.rows s.split.are_true.word h (covered_at_end open_boxes s.rows none s.split h inside refl)

-- ---- a search whose rows are the leaves of a tree

module _ {W : Type 0} {meaning : Header → Option W} {cuts : CutLists} {sides : Box5} where
  pub grown_from_tree : {rows : List (Row W)} {nodes : List (Node W)} (max : ℕ) → AreSplit meaning cuts every sides [] rows → IsTreeOf sides rows nodes → length rows ≤ max
      → IsGrownTree meaning cuts sides max nodes
  grown_from_tree {rows = rows} {nodes = nodes} max s t few = record {
    tree = t.tree;
    few = let c = t.count in omega (arith, c, few);
    word = All-weaker (Contains rows) (HasWord meaning) (λ r among. All-contains (HasWord meaning) rows r s.are_true.word among) (leaves_of nodes sides) t.kept;
    aligned = All-weaker (Contains rows) (λ r. IsAligned cuts r.part sides) (λ r among. All-contains (λ x. IsAligned cuts x.part sides) rows r s.ordered.aligned among) (leaves_of nodes sides) t.kept;
  }

-- ---- a search that keeps rows
module _ {W : Type 0} {meaning : Header → Option W} {cuts : CutLists} {sides : Box5} where
  pub blocked_from_split : {open_boxes : List Box5} {rows : List (Row W)} (max : ℕ) → AreSplit meaning cuts every sides open_boxes rows → open_boxes ≡ [] → length rows ≤ max → AreJoined GoesOnEitherWay rows
      → IsBlocked meaning cuts sides max rows
  blocked_from_split {open_boxes = open_boxes} {rows = rows} max s none few joined = record {
    are_true = s.are_true;
    ordered = s.ordered;
    whole = λ h inside. covered_at_end open_boxes rows none s h inside refl;
    few = few;
    joined = joined;
  }

  -- the first open box begins at the first header outside the rows
  pub more_from_split : {On : Box5 → Box5 → Type 0} {open_boxes others : List Box5} {rows : List (Row W)} (max : ℕ) (b : Box5) → AreSplit meaning cuts every sides open_boxes rows
      → IsPermutation open_boxes (b ∷ others) → IsLeast b open_boxes → length rows ≡ max → AreJoined On rows → IsMore On meaning cuts sides max rows (low_of b)
  more_from_split {open_boxes = open_boxes} {rows = rows} max b s taken least count joined =
      let covered : (k : Header) → holds k sides ≡ true → IsBefore k (low_of b) → is_covered rows k ≡ true = (λ k inside. before_open open_boxes rows s b least k inside refl) in
      record {
        are_true = s.are_true;
        ordered = s.ordered;
        count = count;
        joined = joined;
        outside = record { inside = first_inside b s taken least; outside = first_outside b s taken least; first = covered };
        begun = first_begun b s taken least;
        clear = λ h inside before. clear_in_rows rows s.are_true.word h (covered h inside before);
        cells = λ all among. let l = first_cells b s taken least all among in omega (arith, l, count);
      }

-- ---- a search that gathers

is_told : {W : Type 0} (o : Option W) → o ≢ None → is_some o ≡ true
is_told None some = absurd (some refl)
is_told (Some w) some = refl

module _ {W : Type 0} {meaning : Header → Option W} {cuts : CutLists} {sides : Box5} where
  -- headers that are told nothing are passed over
  pub told_past : {old new : List Box5} {part : Box5} {rows : List (Row W)} → AreSplit meaning cuts (told meaning) sides old rows → IsAsked meaning cuts old new part None
      → AreSplit meaning cuts (told meaning) sides new rows
  told_past s a = split_past s a (λ h e t. some_if (meaning h) t e)

  pub all_from_split : {open_boxes : List Box5} {rows : List (Row W)} (room : ℕ) → AreSplit meaning cuts (told meaning) sides open_boxes rows → open_boxes ≡ [] → length rows ≤ room
      → AreJoined GoesOnEitherWay rows → HoldAllTold meaning cuts sides room rows
  all_from_split {open_boxes = open_boxes} {rows = rows} room s none few joined = record {
    are_true = s.are_true;
    ordered = s.ordered;
    joined = joined;
    all = λ h inside some. covered_at_end open_boxes rows none s h inside (is_told (meaning h) some);
    few = few;
  }

  -- the part that is asked begins at the first header that is told something outside the rows
  pub left_out_from_asked : {old new : List Box5} {part : Box5} {rows : List (Row W)} (room : ℕ) (w : W) → AreSplit meaning cuts (told meaning) sides old rows
      → IsAsked meaning cuts old new part (Some w) → length rows ≡ room → AreJoined GoesOnEitherWay rows → LeaveSomeOut meaning cuts sides room rows (low_of part)
  left_out_from_asked {old = old} {part = part} {rows = rows} room w s a count joined =
      subst (LeaveSomeOut meaning cuts sides room rows) (sym a.low) (record {
        are_true = s.are_true;
        ordered = s.ordered;
        joined = joined;
        count = count;
        left_out = record {
          inside = first_inside a.whole s a.taken a.least;
          told = some_not_none (meaning (low_of a.whole)) w (subst (λ (h : Header). meaning h ≡ Some w) a.low (a.means (low_of part) (holds_low part (valid_if_within part a.whole a.within))));
          outside = first_outside a.whole s a.taken a.least;
          first = λ k inside before some. before_open old rows s a.whole a.least k inside (is_told (meaning k) some) before;
        };
        begun = first_begun a.whole s a.taken a.least;
        cells = λ all among. let l = first_cells a.whole s a.taken a.least all among in omega (arith, l, count);
      })
