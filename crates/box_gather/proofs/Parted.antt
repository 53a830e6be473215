-- Between two rows of one box that could be one begins a third.
use Rattle.std.proofs.Common.{All, AllPairs, Contains, IsPermutation, List, None, Option, Some, ap, arith, get_or, inl, inr, length, subst, sym, take, true, ℕ, ◌++◌, ◌+◌, ◌<◌, ◌∙◌, ◌∷◌, [], ◌≡◌, ◌≤◌, ◌⊎◌}
use Rattle.std.specs.Ordering.{ordering_reverse}
use Rattle.std.proofs.lemmas.List.Elements.{Contains-append_cases, Contains-get_or}
use Rattle.vpc_base.proofs.Lemmas.{All-contains, Contains-append_left, Contains-append_right, Contains-filter, Contains-permutation, IsPermutation-sym, cases_lt, filter-member, get_or-take, get_or_default, length-take-le}
use Rattle.vpc_base.proofs.Members.{Contains-take, member-list_any}
use Rattle.std.proofs.lemmas.List.Sums.{sum_by-append}
use Rattle.vpc_base.specs.Terms.{CutLists, IsBefore}
use Rattle.vpc_base.specs.declared.headers.Header.{Header}
use Rattle.header_boxes.proofs.Lemmas.{holds_low, holds_whole, order_of_total, valid_if_within}
use Rattle.header_boxes.proofs.Order.{before_if_under}
use Rattle.header_boxes.specs.Terms.{IsRangeWithin, IsValid, IsWithin, holds, low_of}
use Rattle.header_boxes.specs.declared.boxes.Box5.{Box5}
use Rattle.header_boxes.specs.declared.rows.Row.{Row}
use Rattle.ordered_cover.proofs.Order.{before_trans}
use Rattle.ordered_cover.specs.Terms.{AreJoined, CanJoin, GoesOnEitherWay, holders, one_if}
use Rattle.box_gather.proofs.Counting.{one_from_any}
use Rattle.box_gather.proofs.Order.{before_if, before_is}
use Rattle.box_gather.specs.Over.{AreRowsOver, GoesOnWithin, IsPartOf, is_in}
use Rattle.box_gather.specs.Pile.{AreParted, StandsBetween, begins_before, kept_before}

-- ---- the order

never_before : (h : Header) → IsBefore h h → ⊥
never_before h lt = let k = sym lt ∙ order_of_total.antisymm h h ∙ ap ordering_reverse lt in absurd cc

-- what goes on from a box begins after it
rises : (first other : Box5) → IsValid first → GoesOnEitherWay first other → IsBefore (low_of first) (low_of other)
rises first other v (inl on) =
    let proto = ap (λ (r : ℕ × ℕ). r.0) on.proto in
    let src = ap (λ (r : ℕ × ℕ). r.0) on.src in
    let dst = ap (λ (r : ℕ × ℕ). r.0) on.dst in
    let p = ap (λ (r : ℕ × ℕ). r.0) on.p in
    let q = on.q in let some = v.q in
    before_if_under (low_of first) (low_of other)
    (record { proto = omega (arith, proto); src = omega (arith, src); dst = omega (arith, dst); p = omega (arith, p); q = omega (arith, q, some) })
    (λ same. let e = ap (λ (h : Header). h.q) same in omega (arith, e, q, some))
rises first other v (inr on) =
    let proto = ap (λ (r : ℕ × ℕ). r.0) on.proto in
    let src = ap (λ (r : ℕ × ℕ). r.0) on.src in
    let dst = ap (λ (r : ℕ × ℕ). r.0) on.dst in
    let q = ap (λ (r : ℕ × ℕ). r.0) on.q in
    let p = on.p in let some = v.p in
    before_if_under (low_of first) (low_of other)
    (record { proto = omega (arith, proto); src = omega (arith, src); dst = omega (arith, dst); p = omega (arith, p, some); q = omega (arith, q) })
    (λ same. let e = ap (λ (h : Header). h.p) same in omega (arith, e, p, some))

-- ---- ascending rows

module _ {W : Type 0} (rows : List (Row W)) (up : AllPairs (λ a b. IsBefore (low_of a.part) (low_of b.part)) rows) where
  -- what begins before another row stands before it
  place : (i j : ℕ) (d : Row W) → i < length rows → j < length rows → IsBefore (low_of (get_or rows i d).part) (low_of (get_or rows j d).part) → i < j
  place i j d here there lt = by (cases_lt i j) (cases_lt j i)
    where
      same : (k : ℕ) → k ≡ j → low_of (get_or rows k d).part ≡ low_of (get_or rows j d).part
      same k e = ap (λ n. low_of (get_or rows n d).part) e

      by : (i < j) ⊎ (j ≤ i) → (j < i) ⊎ (i ≤ j) → i < j
      by (inl t) other = t
      by (inr upto) (inl back) =
          absurd (never_before (low_of (get_or rows i d).part) (before_trans (low_of (get_or rows i d).part) (low_of (get_or rows j d).part) (low_of (get_or rows i d).part) lt (up j i d back here)))
      by (inr upto) (inr from) =
          absurd (never_before (low_of (get_or rows j d).part) (subst (λ (h : Header). IsBefore h (low_of (get_or rows j d).part)) (same i (omega (arith, upto, from))) lt))

  -- rows of one box
  pub parted_in_one : (sides : Box5) → AreJoined GoesOnEitherWay rows → AreParted (sides ∷ []) rows
  parted_in_one sides joined first other (i, here, is_first) (j, there, is_other) can = by (cases_lt (i + 1) j)
    where
      at_other : get_or rows j first ≡ other
      at_other = get_or_default rows j first other there ∙ is_other

      before : i < j
      before =
          place i j first here there
          (subst (λ (r : Row W). IsBefore (low_of r.part) (low_of (get_or rows j first).part)) (sym is_first)
          (subst (λ (r : Row W). IsBefore (low_of first.part) (low_of r.part)) (sym at_other)
          (rises first.part other.part (valid_if_within first.part can.0.whole can.0.first_in) can.0.on)))

      on : CanJoin GoesOnEitherWay first other
      on = (can.0.on, can.1)

      next_is : (k : ℕ) → k ≡ i + 1 → get_or rows (i + 1) first ≡ get_or rows k first
      next_is k e = ap (λ n. get_or rows n first) (sym e)

      by : (i + 1 < j) ⊎ (j ≤ i + 1) → StandsBetween rows first.part other.part
      by (inl far) = record {
        row = get_or rows (i + 1) first;
        among = Contains-get_or rows (i + 1) first (omega (arith, far, there));
        after = subst (λ (r : Row W). IsBefore (low_of r.part) (low_of (get_or rows (i + 1) first).part)) is_first (up i (i + 1) first (omega arith) (omega (arith, far, there)));
        before = subst (λ (r : Row W). IsBefore (low_of (get_or rows (i + 1) first).part) (low_of r.part)) at_other (up (i + 1) j first far there);
      }
      by (inr near) =
          absurd (joined i first (omega (arith, before, there))
          (subst (λ (r : Row W). CanJoin GoesOnEitherWay r (get_or rows (i + 1) first)) (sym is_first)
          (subst (λ (r : Row W). CanJoin GoesOnEitherWay first r) (sym (next_is j (omega (arith, before, near)) ∙ at_other)) on)))

  -- no two that stand beside one another could be one
  pub joined_if_parted : (boxes : List Box5) → AreParted boxes rows → AreJoined (GoesOnWithin boxes) rows
  joined_if_parted boxes parted k d lt can = none (parted (get_or rows k d) (get_or rows (k + 1) d) (Contains-get_or rows k d (omega (arith, lt))) (Contains-get_or rows (k + 1) d lt) can)
    where
      none : StandsBetween rows (get_or rows k d).part (get_or rows (k + 1) d).part → ⊥
      none s =
          let i = s.among.0 in
          let at : get_or rows i d ≡ s.row = get_or_default rows i d s.row s.among.1 ∙ s.among.2 in
          let after = place k i d (omega (arith, lt)) s.among.1 (subst (λ (r : Row W). IsBefore (low_of (get_or rows k d).part) (low_of r.part)) (sym at) s.after) in
          let before = place i (k + 1) d s.among.1 lt (subst (λ (r : Row W). IsBefore (low_of r.part) (low_of (get_or rows (k + 1) d).part)) (sym at) s.before) in
          omega (arith, after, before)

  -- the first rows
  pub parted_cut : (boxes : List Box5) (room : ℕ) → room < length rows → AreParted boxes rows → AreParted boxes (take room rows)
  parted_cut boxes room more parted first other has_first has_other can =
      kept (parted first other (Contains-take room rows first has_first) (Contains-take room rows other has_other) can)
    where
      count : length (take room rows) ≡ room
      count = length-take-le room rows (omega (arith, more))

      kept : StandsBetween rows first.part other.part → StandsBetween (take room rows) first.part other.part
      kept s =
          let i = s.among.0 in
          let j = has_other.0 in
          let below : j < room = (let l = has_other.1 in omega (arith, l, count)) in
          let at : get_or rows i other ≡ s.row = get_or_default rows i other s.row s.among.1 ∙ s.among.2 in
          let at_other : get_or rows j other ≡ other = sym (get_or-take room rows j other below) ∙ has_other.2 in
          let before = place i j other s.among.1 (omega (arith, below, more))
          (subst (λ (r : Row W). IsBefore (low_of r.part) (low_of (get_or rows j other).part)) (sym at)
          (subst (λ (r : Row W). IsBefore (low_of s.row.part) (low_of r.part)) (sym at_other) s.before)) in
          record {
            row = s.row;
            among = (i, omega (arith, before, below, count), get_or-take room rows i s.row (omega (arith, before, below)) ∙ s.among.2);
            after = s.after;
            before = s.before;
          }

-- ---- rows in any order

module _ {W : Type 0} (boxes : List Box5) (rows : List (Row W)) (parted : AreParted boxes rows) where
  pub parted_permuted : (others : List (Row W)) → IsPermutation rows others → AreParted boxes others
  parted_permuted others same first other has_first has_other can =
      let back = IsPermutation-sym rows others same in
      let s = parted first other (Contains-permutation others rows first back has_first) (Contains-permutation others rows other back has_other) can in
      record { row = s.row; among = Contains-permutation rows others s.row same s.among; after = s.after; before = s.before }

  -- those that begin before a header
  pub parted_kept : (next : Option Header) → AreParted boxes (kept_before next rows)
  parted_kept None first other has_first has_other can = parted first other has_first has_other can
  parted_kept (Some n) first other has_first has_other can =
      let f = filter-member (begins_before n) rows first has_first in
      let o = filter-member (begins_before n) rows other has_other in
      let s = parted first other f.1 o.1 can in
      record {
        row = s.row;
        among = Contains-filter (begins_before n) rows s.row s.among
            (before_is (low_of s.row.part) n (before_trans (low_of s.row.part) (low_of other.part) n s.before (before_if (low_of other.part) n o.0)));
        after = s.after;
        before = s.before;
      }

-- ---- rows of two lists of boxes

-- a part of a box begins there
begins_in : (boxes : List Box5) (part whole : Box5) → Contains boxes whole → IsWithin part whole → is_in boxes (low_of part) ≡ true
begins_in boxes part whole among within =
    member-list_any (λ b. holds (low_of part) b) boxes whole among (holds_whole (low_of part) part whole within (holds_low part (valid_if_within part whole within)))

module _ {W : Type 0} (cuts : CutLists) (boxes others : List Box5) (rows more : List (Row W)) (apart : (h : Header) → holders (boxes ++ others) h ≤ 1)
    (parts : All (λ r. IsPartOf cuts boxes r.part) rows) (other_parts : All (λ r. IsPartOf cuts others r.part) more) where
  not_both : (h : Header) → is_in boxes h ≡ true → is_in others h ≡ true → ⊥
  not_both h one other =
      let a = one_from_any (λ b. holds h b) boxes one in
      let b = one_from_any (λ x. holds h x) others other in
      let split = sum_by-append (λ x. one_if (holds h x)) boxes others in
      let few = apart h in
      omega (arith, a, b, split, few)

  -- a row in one of the boxes is a row of theirs
  of_these : (r : Row W) (whole : Box5) → Contains boxes whole → IsWithin r.part whole → Contains rows r ⊎ Contains more r → Contains rows r
  of_these r whole among within (inl here) = here
  of_these r whole among within (inr there) =
      let k = All-contains (λ (x : Row W). IsPartOf cuts others x.part) more r other_parts there in
      absurd (not_both (low_of r.part) (begins_in boxes r.part whole among within) (begins_in others r.part k.whole k.among k.within))

  of_those : (r : Row W) (whole : Box5) → Contains others whole → IsWithin r.part whole → Contains rows r ⊎ Contains more r → Contains more r
  of_those r whole among within (inr there) = there
  of_those r whole among within (inl here) =
      let k = All-contains (λ (x : Row W). IsPartOf cuts boxes x.part) rows r parts here in
      absurd (not_both (low_of r.part) (begins_in boxes r.part k.whole k.among k.within) (begins_in others r.part whole among within))

  pub parted_together : AreParted boxes rows → AreParted others more → AreParted (boxes ++ others) (rows ++ more)
  parted_together one two first other has_first has_other can = by (Contains-append_cases boxes others can.0.whole can.0.among)
    where
      either_first : Contains rows first ⊎ Contains more first
      either_first = Contains-append_cases rows more first has_first

      either_other : Contains rows other ⊎ Contains more other
      either_other = Contains-append_cases rows more other has_other

      by : Contains boxes can.0.whole ⊎ Contains others can.0.whole → StandsBetween (rows ++ more) first.part other.part
      by (inl among) =
          let s = one first other (of_these first can.0.whole among can.0.first_in either_first) (of_these other can.0.whole among can.0.other_in either_other)
          (record { whole = can.0.whole; among = among; first_in = can.0.first_in; other_in = can.0.other_in; on = can.0.on }, can.1) in
          record { row = s.row; among = Contains-append_left rows more s.row s.among; after = s.after; before = s.before }
      by (inr among) =
          let s = two first other (of_those first can.0.whole among can.0.first_in either_first) (of_those other can.0.whole among can.0.other_in either_other)
          (record { whole = can.0.whole; among = among; first_in = can.0.first_in; other_in = can.0.other_in; on = can.0.on }, can.1) in
          record { row = s.row; among = Contains-append_right rows more s.row s.among; after = s.after; before = s.before }

-- ---- boxes with one p and one q

module _ (p q : ℕ × ℕ) (boxes : List Box5) (alike : All (λ b. (b.p ≡ p) × (b.q ≡ q)) boxes) where
  -- what goes on from a part of one of them lies in it too
  goes_on_within : (cuts : CutLists) (first other : Box5) → IsPartOf cuts boxes first → IsPartOf cuts boxes other → GoesOnEitherWay first other → GoesOnWithin boxes first other
  goes_on_within cuts first other one two on = record { whole = one.whole; among = one.among; first_in = one.within; other_in = by on; on = on }
    where
      of_one : (one.whole.p ≡ p) × (one.whole.q ≡ q)
      of_one = All-contains (λ (b : Box5). (b.p ≡ p) × (b.q ≡ q)) boxes one.whole alike one.among

      of_two : (two.whole.p ≡ p) × (two.whole.q ≡ q)
      of_two = All-contains (λ (b : Box5). (b.p ≡ p) × (b.q ≡ q)) boxes two.whole alike two.among

      its_p : IsRangeWithin other.p one.whole.p
      its_p = subst (IsRangeWithin other.p) (of_two.0 ∙ sym of_one.0) two.within.p

      its_q : IsRangeWithin other.q one.whole.q
      its_q = subst (IsRangeWithin other.q) (of_two.1 ∙ sym of_one.1) two.within.q

      by : GoesOnEitherWay first other → IsWithin other one.whole
      by (inl k) = record {
        proto = subst (λ (r : ℕ × ℕ). IsRangeWithin r one.whole.proto) k.proto one.within.proto;
        src = subst (λ (r : ℕ × ℕ). IsRangeWithin r one.whole.src) k.src one.within.src;
        dst = subst (λ (r : ℕ × ℕ). IsRangeWithin r one.whole.dst) k.dst one.within.dst;
        p = its_p;
        q = its_q;
      }
      by (inr k) = record {
        proto = subst (λ (r : ℕ × ℕ). IsRangeWithin r one.whole.proto) k.proto one.within.proto;
        src = subst (λ (r : ℕ × ℕ). IsRangeWithin r one.whole.src) k.src one.within.src;
        dst = subst (λ (r : ℕ × ℕ). IsRangeWithin r one.whole.dst) k.dst one.within.dst;
        p = its_p;
        q = its_q;
      }

  -- so no two rows that stand beside one another could be one, whatever box they lie in
  pub joined_in_any : {W : Type 0} {meaning : Header → Option W} {cuts : CutLists} {rows : List (Row W)} → AreRowsOver meaning cuts boxes rows → AreJoined GoesOnEitherWay rows
  joined_in_any {W} {meaning} {cuts} {rows} are k d lt can =
      are.joined k d lt (goes_on_within cuts (get_or rows k d).part (get_or rows (k + 1) d).part (are.parts k d (omega (arith, lt))) (are.parts (k + 1) d lt) can.0, can.1)
