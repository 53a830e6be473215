-- Piles that are put in order and cut, and what is gathered at last.
use Rattle.std.proofs.Common.{All, AllPairs, Bool, IfSome, IsPermutation, List, None, Option, Some, [], ap, arith, drop, false, get_or, inl, inr, is_lt, is_some, length, nat_lt, refl, subst, sum_by, sym, take, true, ℕ, ⊎_elim, ◌++◌, ◌+◌, ◌<◌, ◌∙◌, ◌∷◌, ◌≡◌, ◌≢◌, ◌≤◌, ◌⊎◌}
use Rattle.vpc_base.proofs.Lemmas.{All-permutation, All-take, Any-from_list_any, cases_lt, get_or-take, get_or_default, length-take-le, length_permutation, list_any-IsPermutation, list_any_at, ranks_by, some_not_none, sorted_far, sum_by-IsPermutation, sum_by-take-le, take-length, take_more}
use Rattle.vpc_base.specs.Terms.{AreAmong, CutLists, IsBefore}
use Rattle.vpc_base.specs.declared.headers.Header.{Header}
use Rattle.header_boxes.proofs.Lemmas.{holds_low, holds_whole, low_is_least, order_of_total, valid_if_within}
use Rattle.header_boxes.specs.Terms.{AreDisjoint, HasWord, IsValid, holds, is_covered, low_of}
use Rattle.header_boxes.specs.declared.boxes.Box5.{Box5}
use Rattle.header_boxes.specs.declared.rows.Row.{Row}
use Rattle.ordered_cover.proofs.Lists.{none_from_zero}
use Rattle.ordered_cover.proofs.Order.{before_other, before_trans}
use Rattle.ordered_cover.specs.Terms.{IsGathered, holders, one_if, row_holders}
use Rattle.ordered_cover.specs.declared.rows.Gathered.{Gathered}
use Rattle.ordered_cover.specs.declared.rows.Gathered.TheVariants as gathered
use Rattle.box_gather.proofs.Counting.{count_by_disjoint, disjoint_by_count, none_before, two_at}
use Rattle.box_gather.proofs.Parted.{joined_if_parted, parted_cut, parted_permuted}
use Rattle.box_gather.proofs.Piles.{pile_joined, pile_of_part, pile_of_whole}
use Rattle.box_gather.specs.Over.{AreRowsOver, IsGatheredOver, IsPartOf, IsPartOver, IsWholeOver, cells_over, is_in}
use Rattle.box_gather.specs.Pile.{IsLeftOut, IsPast, IsPile, IsPiled, IsShortened, IsTrimmed, RiseByCorner, cut, earlier, is_before, kept, kept_before, trimmed, whole}

-- ---- rows in order

-- a part of a box is valid
part_valid : (cuts : CutLists) (boxes : List Box5) (b : Box5) → IsPartOf cuts boxes b → IsValid b
part_valid cuts boxes b k = valid_if_within b k.whole k.within

module _ {W : Type 0} (cuts : CutLists) (boxes : List Box5) (rows : List (Row W)) (parts : All (λ r. IsPartOf cuts boxes r.part) rows) (few : (h : Header) → row_holders rows h ≤ 1) where
  low_held : (k : ℕ) (d : Row W) → k < length rows → holds (low_of (get_or rows k d).part) (get_or rows k d).part ≡ true
  low_held k d lt = holds_low (get_or rows k d).part (part_valid cuts boxes (get_or rows k d).part (parts k d lt))

  -- no two begin at one header
  lows_differ : (i j : ℕ) (d : Row W) → i < j → j < length rows → low_of (get_or rows i d).part ≢ low_of (get_or rows j d).part
  lows_differ i j d lt inside same =
      let h = low_of (get_or rows j d).part in
      let two = two_at (λ (r : Row W). holds h r.part) rows i j d lt inside (subst (λ (g : Header). holds g (get_or rows i d).part ≡ true) same (low_held i d (omega arith))) (low_held j d inside) in
      let f = few h in
      absurd (omega (arith, two, f))

  -- so rows that are sorted ascend
  pub ascends : RiseByCorner rows → AllPairs (λ a b. IsBefore (low_of a.part) (low_of b.part)) rows
  ascends rise i j d lt inside =
      before_other (low_of (get_or rows i d).part) (low_of (get_or rows j d).part)
      (λ back. let far = sorted_far (λ (a b : Row W). is_before (low_of a.part) (low_of b.part)) (ranks_by order_of_total (λ (r : Row W). low_of r.part)) rows rise i j d (omega arith) inside in
      let at = ap (λ o. is_lt o) back in let same = sym far ∙ at in absurd cc)
      (lows_differ i j d lt inside)

-- ---- piles in order

module _ {W : Type 0} (meaning : Header → Option W) (cuts : CutLists) (boxes : List Box5) (room : ℕ) (rows : List (Row W)) where
  out_permuted : (sorted : List (Row W)) → IsPermutation rows sorted → (o : Option Header) → IfSome o (IsLeftOut meaning boxes rows) → IfSome o (IsLeftOut meaning boxes sorted)
  out_permuted sorted same None out = tt
  out_permuted sorted same (Some n) out = record {
    inside = out.inside;
    told = out.told;
    outside = sym (list_any-IsPermutation (λ (r : Row W). holds n r.part) rows sorted same) ∙ out.outside;
  }

  begun_permuted : (sorted : List (Row W)) → IsPermutation rows sorted → (o : Option Header) → IfSome o (λ n. All (λ r. IsBefore (low_of r.part) n) rows)
      → IfSome o (λ n. All (λ r. IsBefore (low_of r.part) n) sorted)
  begun_permuted sorted same None begun = tt
  begun_permuted sorted same (Some n) begun = All-permutation (λ (r : Row W). IsBefore (low_of r.part) n) rows sorted same begun

  -- the same rows in another order
  pub pile_permuted : (next : Option Header) (sorted : List (Row W)) → IsPermutation rows sorted → IsPile meaning cuts boxes room rows next → IsPile meaning cuts boxes room sorted next
  pile_permuted next sorted same k = record {
    parts = All-permutation (λ (r : Row W). IsPartOf cuts boxes r.part) rows sorted same k.parts;
    word = All-permutation (HasWord meaning) rows sorted same k.word;
    each = λ h. let e = sum_by-IsPermutation (λ (r : Row W). one_if (holds h r.part)) rows sorted same in let x = k.each h in omega (arith, e, x);
    told = λ h inside some. ⊎_elim (λ is. inl (sym (list_any-IsPermutation (λ (r : Row W). holds h r.part) rows sorted same) ∙ is)) (λ past. inr past) (k.told h inside some);
    next_is = out_permuted sorted same next k.next_is;
    begun = begun_permuted sorted same next k.begun;
    many = subst (λ (n : ℕ). IfSome next (λ h. room ≤ n)) (sym (length_permutation rows sorted same)) k.many;
    cells = λ all among. let c = k.cells all among in let l = length_permutation rows sorted same in omega (arith, c, l);
    parted = parted_permuted boxes rows k.parted sorted same;
  }

-- ---- piles that are cut

module _ {W : Type 0} (meaning : Header → Option W) (cuts : CutLists) (boxes : List Box5) (room : ℕ) (rows : List (Row W)) (next : Option Header) (row : Row W)
    (apart : (h : Header) → holders boxes h ≤ 1) (k : IsPile meaning cuts boxes room rows next) (rise : RiseByCorner rows) (more : room < length rows) (at : row ≡ get_or rows room row) where
  few_rows : (h : Header) → row_holders rows h ≤ 1
  few_rows h = let e = k.each h in let a = apart h in omega (arith, e, a)

  up : AllPairs (λ a b. IsBefore (low_of a.part) (low_of b.part)) rows
  up = ascends cuts boxes rows k.parts few_rows rise

  row_is_part : IsPartOf cuts boxes row.part
  row_is_part = subst (λ (r : Row W). IsPartOf cuts boxes r.part) (sym at) (k.parts room row more)

  low_in_row : holds (low_of row.part) row.part ≡ true
  low_in_row = holds_low row.part (part_valid cuts boxes row.part row_is_part)

  low_inside : is_in boxes (low_of row.part) ≡ true
  low_inside =
      list_any_at (λ b. holds (low_of row.part) b) boxes row_is_part.among.0 row_is_part.whole row_is_part.among.1
      (subst (λ (b : Box5). holds (low_of row.part) b ≡ true) (sym row_is_part.among.2) (holds_whole (low_of row.part) row.part row_is_part.whole row_is_part.within low_in_row))

  low_told : meaning (low_of row.part) ≢ None
  low_told =
      some_not_none (meaning (low_of row.part)) row.word
      (subst (λ (r : Row W). HasWord meaning r) (sym at) (k.word room row more) (low_of row.part) low_in_row)

  -- the low corner of the first row that is taken off
  cut_out : IsLeftOut meaning boxes (take room rows) (low_of row.part)
  cut_out = record {
    inside = low_inside;
    told = low_told;
    outside = none_from_zero (λ (r : Row W). holds (low_of row.part) r.part) (take room rows)
        (none_before (λ (r : Row W). holds (low_of row.part) r.part) rows room row more (ap (λ (r : Row W). holds (low_of row.part) r.part) (sym at) ∙ low_in_row) (few_rows (low_of row.part)));
  }

  cut_begun : All (λ r. IsBefore (low_of r.part) (low_of row.part)) (take room rows)
  cut_begun i d lt =
      let l = length-take-le room rows (omega (arith, more)) in
      let within : i < room = omega (arith, lt, l) in
      subst (λ (r : Row W). IsBefore (low_of r.part) (low_of row.part)) (sym (get_or-take room rows i d within))
      (subst (λ (r : Row W). IsBefore (low_of (get_or rows i d).part) (low_of r.part)) (sym (other_default d)) (up i room d within more))
    where
      other_default : (d : Row W) → row ≡ get_or rows room d
      other_default d = at ∙ get_or_default rows room row d more

  -- from there on, what is told something may be in no row
  past_low : (h : Header) → ¬ (IsBefore h (low_of row.part)) → (is_covered (take room rows) h ≡ true) ⊎ IsPast (Some (low_of row.part)) h
  past_low h past = inr past

  low_upto : (j : ℕ) (d : Row W) → room ≤ j → j < length rows → (h : Header) → holds h (get_or rows j d).part ≡ true → ¬ (IsBefore h (low_of row.part))
  low_upto j d from lt h held before = by (cases_lt room j)
    where
      least : ¬ (IsBefore h (low_of (get_or rows j d).part))
      least = low_is_least (get_or rows j d).part h held

      is_row : (i : ℕ) → i ≡ room → low_of (get_or rows i d).part ≡ low_of row.part
      is_row i e = ap (λ n. low_of (get_or rows n d).part) e ∙ ap (λ (r : Row W). low_of r.part) (sym (at ∙ get_or_default rows room row d more))

      by : (room < j) ⊎ (j ≤ room) → ⊥
      by (inl after) =
          least (before_trans h (low_of row.part) (low_of (get_or rows j d).part) before
          (subst (λ (g : Header). IsBefore g (low_of (get_or rows j d).part)) (is_row room refl) (up room j d after lt)))
      by (inr upto) = least (subst (λ (g : Header). IsBefore h g) (sym (is_row j (omega (arith, from, upto)))) before)

  covered_at : (h : Header) (i : ℕ) (d : Row W) → i < length rows → holds h (get_or rows i d).part ≡ true → (i < room) ⊎ (room ≤ i)
      → (is_covered (take room rows) h ≡ true) ⊎ IsPast (Some (low_of row.part)) h
  covered_at h i d inside held (inl lt) =
      inl (list_any_at (λ (r : Row W). holds h r.part) (take room rows) i d (let l = length-take-le room rows (omega (arith, more)) in omega (arith, lt, l))
      (ap (λ (r : Row W). holds h r.part) (get_or-take room rows i d lt) ∙ held))
  covered_at h i d inside held (inr from) = inr (low_upto i d from inside h held)

  covered_cut : (h : Header) → is_covered rows h ≡ true → (is_covered (take room rows) h ≡ true) ⊎ IsPast (Some (low_of row.part)) h
  covered_cut h is = let a = Any-from_list_any (λ (r : Row W). holds h r.part) rows is in covered_at h a.0 a.1 a.2 (ap (λ (r : Row W). holds h r.part) a.3 ∙ a.4) (cases_lt a.0 room)

  past_cut : (h : Header) (o : Option Header) → IfSome o (λ n. All (λ r. IsBefore (low_of r.part) n) rows) → IsPast o h → IsPast (Some (low_of row.part)) h
  past_cut h None begun past = absurd past
  past_cut h (Some n) begun past =
      λ before. past (before_trans h (low_of row.part) n before (subst (λ (r : Row W). IsBefore (low_of r.part) n) (sym at) (begun room row more)))

  pub pile_cut : IsPile meaning cuts boxes room (take room rows) (Some (low_of row.part))
  pile_cut = record {
    parts = All-take (λ (r : Row W). IsPartOf cuts boxes r.part) room rows k.parts;
    word = All-take (HasWord meaning) room rows k.word;
    each = λ h. let less = sum_by-take-le (λ (r : Row W). one_if (holds h r.part)) rows room in let e = k.each h in omega (arith, less, e);
    told = λ h inside some. ⊎_elim (λ is. covered_cut h is) (λ past. inr (past_cut h next k.begun past)) (k.told h inside some);
    next_is = cut_out;
    begun = cut_begun;
    many = let l = length-take-le room rows (omega (arith, more)) in omega (arith, l);
    cells = λ all among. let c = k.cells all among in let l = length-take-le room rows (omega (arith, more)) in omega (arith, c, l, more);
    parted = parted_cut rows up boxes room more k.parted;
  }

  pub cut_ascends : AllPairs (λ a b. IsBefore (low_of a.part) (low_of b.part)) (take room rows)
  cut_ascends i j d lt inside =
      let l = length-take-le room rows (omega (arith, more)) in
      let within : j < room = omega (arith, inside, l) in
      subst (λ (r : Row W). IsBefore (low_of r.part) (low_of (get_or (take room rows) j d).part)) (sym (get_or-take room rows i d (omega arith)))
      (subst (λ (r : Row W). IsBefore (low_of (get_or rows i d).part) (low_of r.part)) (sym (get_or-take room rows j d within)) (up i j d lt (omega (arith, within, more))))

-- a pile in order, of at most room rows
pub record IsOrderedPile {W : Type 0} (meaning : Header → Option W) (cuts : CutLists) (boxes : List Box5) (room : ℕ) (rows : List (Row W)) (next : Option Header) : Type 0 where
  pub pile : IsPile meaning cuts boxes room rows next
  pub ascending : AllPairs (λ a b. IsBefore (low_of a.part) (low_of b.part)) rows
  pub few : length rows ≤ room

pub pile_trimmed : {W : Type 0} (meaning : Header → Option W) (cuts : CutLists) (boxes : List Box5) (room : ℕ) (rows new_rows : List (Row W)) (next new_next : Option Header)
    → ((h : Header) → holders boxes h ≤ 1) → IsPile meaning cuts boxes room rows next → IsTrimmed room rows next new_rows new_next → IsOrderedPile meaning cuts boxes room new_rows new_next
pile_trimmed meaning cuts boxes room rows new_rows next new_next apart k (whole few same rise keeps) =
    let p = pile_permuted meaning cuts boxes room rows next new_rows same k in
    record {
      pile = subst (λ (o : Option Header). IsPile meaning cuts boxes room new_rows o) (sym keeps) p;
      ascending = ascends cuts boxes new_rows p.parts (λ h. let e = p.each h in let a = apart h in omega (arith, e, a)) rise;
      few = few;
    }
pile_trimmed {W = W} meaning cuts boxes room rows new_rows next new_next apart k (cut sorted same rise more row at rows_are next_is) =
    let p = pile_permuted meaning cuts boxes room rows next sorted same k in
    let c = pile_cut meaning cuts boxes room sorted next row apart p rise more at in
    let u = cut_ascends meaning cuts boxes room sorted next row apart p rise more at in
    let l = length-take-le room sorted (omega (arith, more)) in
    let fits : length (take room sorted) ≤ room = omega (arith, l) in
    subst (λ (o : Option Header). IsOrderedPile meaning cuts boxes room new_rows o) (sym next_is)
    (subst (λ (rs : List (Row W)). IsOrderedPile meaning cuts boxes room rs (Some (low_of row.part))) (sym rows_are) (record { pile = c; ascending = u; few = fits }))

-- ---- what is gathered

pub pile_from_gathered : {W : Type 0} (meaning : Header → Option W) (cuts : CutLists) (sides : Box5) (room : ℕ) (g : Gathered W) (rows : List (Row W)) (next : Option Header)
    → IsGathered meaning cuts sides room g → IsPiled g rows next → IsPile meaning cuts (sides ∷ []) room rows next
pile_from_gathered {W = W} meaning cuts sides room (gathered.All all) rows next k piled =
    subst (λ (o : Option Header). IsPile meaning cuts (sides ∷ []) room rows o) (sym piled.1)
    (subst (λ (rs : List (Row W)). IsPile meaning cuts (sides ∷ []) room rs None) piled.0 (pile_of_whole k))
pile_from_gathered {W = W} meaning cuts sides room (gathered.More some h) rows next k piled =
    subst (λ (o : Option Header). IsPile meaning cuts (sides ∷ []) room rows o) (sym piled.1)
    (subst (λ (rs : List (Row W)). IsPile meaning cuts (sides ∷ []) room rs (Some h)) piled.0 (pile_of_part h k))

module _ {W : Type 0} (meaning : Header → Option W) (cuts : CutLists) (boxes : List Box5) (room : ℕ) (rows : List (Row W)) (apart : (h : Header) → holders boxes h ≤ 1) where
  rows_over : (next : Option Header) → IsOrderedPile meaning cuts boxes room rows next → AreRowsOver meaning cuts boxes rows
  rows_over next k = record {
    parts = k.pile.parts;
    word = k.pile.word;
    disjoint = disjoint_by_count (λ (r : Row W). r.part) rows (λ h. let e = k.pile.each h in let a = apart h in omega (arith, e, a));
    ascending = k.ascending;
    joined = joined_if_parted rows k.ascending boxes k.pile.parted;
  }

  whole_over : IsOrderedPile meaning cuts boxes room rows None → IsWholeOver meaning cuts boxes room rows
  whole_over k = record {
    rows_are = rows_over None k;
    holds_all = λ h inside some. ⊎_elim (λ is. is) (λ past. absurd past) (k.pile.told h inside some);
    few = k.few;
    cells = λ all among. let c = k.pile.cells all among in omega (arith, c);
  }

  part_over : (n : Header) → IsOrderedPile meaning cuts boxes room rows (Some n) → IsPartOver meaning cuts boxes room rows n
  part_over n k = record {
    rows_are = rows_over (Some n) k;
    count = let m = k.pile.many in let f = k.few in omega (arith, m, f);
    next_is = record {
      inside = k.pile.next_is.inside;
      told = k.pile.next_is.told;
      outside = k.pile.next_is.outside;
      first = λ h inside before some. ⊎_elim (λ is. is) (λ past. absurd (past before)) (k.pile.told h inside some);
    };
    begun = k.pile.begun;
    cells = λ all among. let c = k.pile.cells all among in let m = k.pile.many in omega (arith, c, m);
  }

pub gathered_over : {W : Type 0} (meaning : Header → Option W) (cuts : CutLists) (boxes : List Box5) (room : ℕ) (g : Gathered W) (rows : List (Row W)) (next : Option Header)
    → ((h : Header) → holders boxes h ≤ 1) → IsOrderedPile meaning cuts boxes room rows next → IsPiled g rows next → IsGatheredOver meaning cuts boxes room g
gathered_over {W = W} meaning cuts boxes room (gathered.All all) rows next apart k piled =
    whole_over meaning cuts boxes room all.items apart
    (subst (λ (o : Option Header). IsOrderedPile meaning cuts boxes room all.items o) piled.1 (subst (λ (rs : List (Row W)). IsOrderedPile meaning cuts boxes room rs next) (sym piled.0) k))
gathered_over {W = W} meaning cuts boxes room (gathered.More some h) rows next apart k piled =
    part_over meaning cuts boxes room some.items apart h
    (subst (λ (o : Option Header). IsOrderedPile meaning cuts boxes room some.items o) piled.1 (subst (λ (rs : List (Row W)). IsOrderedPile meaning cuts boxes room rs next) (sym piled.0) k))

-- ---- box by box

pub few_taken : (boxes : List Box5) → AllPairs AreDisjoint boxes → (n : ℕ) (h : Header) → holders (take n boxes) h ≤ 1
few_taken boxes disjoint n h =
    let less = sum_by-take-le (λ b. one_if (holds h b)) boxes n in
    let c = count_by_disjoint (λ (b : Box5). b) boxes disjoint h in
    omega (arith, less, c)

-- all of them
pub all_taken : (boxes : List Box5) (n : ℕ) → length boxes ≤ n → n ≤ length boxes → take n boxes ≡ boxes
all_taken boxes n upto within = let same : n ≡ length boxes = omega (arith, upto, within) in ap (λ k. take k boxes) same ∙ take-length boxes

-- one box more
pub pile_more : {W : Type 0} (meaning : Header → Option W) (cuts : CutLists) (boxes : List Box5) (room k : ℕ) (b : Box5) (rows more new_rows : List (Row W)) (next far new_next : Option Header)
    → AllPairs AreDisjoint boxes → k < length boxes → b ≡ get_or boxes k b
    → IsPile meaning cuts (take k boxes) room rows next → IsPile meaning cuts (b ∷ []) room more far
    → new_next ≡ earlier next far → new_rows ≡ kept_before (earlier next far) (rows ++ more)
    → IsPile meaning cuts (take (k + 1) boxes) room new_rows new_next
pile_more {W = W} meaning cuts boxes room k b rows more new_rows next far new_next disjoint lt at a p next_is rows_are =
    let longer : take (k + 1) boxes ≡ take k boxes ++ b ∷ [] = take_more boxes k b lt ∙ ap (λ (x : Box5). take k boxes ++ x ∷ []) (sym at) in
    let few : (h : Header) → holders (take k boxes ++ b ∷ []) h ≤ 1 = λ h. subst (λ (l : List Box5). holders l h ≤ 1) longer (few_taken boxes disjoint (k + 1) h) in
    subst (λ (l : List Box5). IsPile meaning cuts l room new_rows new_next) (sym longer)
    (subst (λ (o : Option Header). IsPile meaning cuts (take k boxes ++ b ∷ []) room new_rows o) (sym next_is)
    (subst (λ (rs : List (Row W)). IsPile meaning cuts (take k boxes ++ b ∷ []) room rs (earlier next far)) (sym rows_are)
    (pile_joined meaning cuts (take k boxes) (b ∷ []) room rows more next far few a p)))

pub few_all : (boxes : List Box5) → AllPairs AreDisjoint boxes → (h : Header) → holders boxes h ≤ 1
few_all boxes disjoint h = count_by_disjoint (λ (b : Box5). b) boxes disjoint h

-- cut where it is long, or as it was
pub pile_shortened : {W : Type 0} (meaning : Header → Option W) (cuts : CutLists) (boxes : List Box5) (room : ℕ) (rows new_rows : List (Row W)) (next new_next : Option Header)
    → ((h : Header) → holders boxes h ≤ 1) → IsPile meaning cuts boxes room rows next → IsShortened room rows next new_rows new_next → IsPile meaning cuts boxes room new_rows new_next
pile_shortened {W = W} meaning cuts boxes room rows new_rows next new_next apart k (kept rows_are next_is) =
    subst (λ (o : Option Header). IsPile meaning cuts boxes room new_rows o) (sym next_is) (subst (λ (rs : List (Row W)). IsPile meaning cuts boxes room rs next) (sym rows_are) k)
pile_shortened meaning cuts boxes room rows new_rows next new_next apart k (trimmed t) =
    (pile_trimmed meaning cuts boxes room rows new_rows next new_next apart k t).pile
