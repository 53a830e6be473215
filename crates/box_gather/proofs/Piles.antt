-- What is known of piles of rows.
use Rattle.std.proofs.Common.{All, AllPairs, Bool, Contains, IfSome, IsPermutation, List, None, Option, Some, [], ap, arith, cond, false, filter, get_or, inl, inr, is_some, length, map, nat_le, not, refl, subst, sum_by, sym, take, true, zero, ℕ, ⊎_elim, ◌++◌, ◌+◌, ◌<◌, ◌||◌, ◌∙◌, ◌∷◌, ◌≡◌, ◌≢◌, ◌≤◌, ◌⊎◌}
use Rattle.vpc_base.proofs.Lemmas.{All-append, All-cons, All-filter, All-head, All-map, All-nil, All-permutation, All-tail, All-take, All-weaker, AllPairs-map, Any-from_list_any, Contains-append_left, Contains-append_right, cases_lt, filter-append, filter_passes, get_or-take, length-append, length-map, length-take-le, length_permutation, list_any-IsPermutation, list_any-append, list_any_at, nat_tests, or_cases, or_left, or_right, ranks_by, sorted_far, sum_by-IsPermutation, sum_by-append, sum_by-cons, sum_by-take-le}
use Rattle.std.specs.List.{list_any}
use Rattle.vpc_base.proofs.Members.{Contains-none}
use Rattle.vpc_base.specs.Terms.{AreAmong, CutLists, IsBefore}
use Rattle.vpc_base.specs.declared.headers.Header.{Header}
use Rattle.header_boxes.proofs.Lemmas.{aligned_grows, holds_low, holds_whole, low_is_least, order_of_total, valid_if_within}
use Rattle.header_boxes.specs.Terms.{AreDisjoint, HasWord, IsAligned, IsValid, IsWithin, cells_of, holds, is_covered, low_of}
use Rattle.header_boxes.specs.declared.boxes.Box5.{Box5}
use Rattle.header_boxes.specs.declared.rows.Row.{Row}
use Rattle.ordered_cover.proofs.Cells.{boxes_within_cells}
use Rattle.ordered_cover.proofs.Lists.{any_from_one, at_most_one, none_from_zero, zero_from_all}
use Rattle.ordered_cover.proofs.Order.{before_other, before_trans, before_upto}
use Rattle.ordered_cover.specs.Terms.{HoldAllTold, IsGathered, LeaveSomeOut, holders, one_if, row_holders}
use Rattle.ordered_cover.specs.declared.rows.Gathered.{Gathered}
use Rattle.ordered_cover.specs.declared.rows.Gathered.TheVariants as gathered
use Rattle.box_gather.proofs.Counting.{count_by_disjoint, disjoint_by_count, filter_all, length-filter-le, none_before, none_from_any, one_from_any, sum_by-filter-le}
use Rattle.box_gather.proofs.Order.{before_if, before_is, not_before}
use Rattle.box_gather.proofs.Parted.{parted_in_one, parted_kept, parted_together}
use Rattle.box_gather.specs.Over.{AreRowsOver, IsFirstLeftOut, IsGatheredOver, IsPartOf, IsPartOver, IsWholeOver, cells_over, is_in}
use Rattle.box_gather.specs.Pile.{IsLeftOut, IsPast, IsPile, IsPiled, IsTrimmed, RiseByCorner, begins_before, cut, earlier, is_before, kept_before, whole}

-- ---- two headers that are left out

past_chosen : (x y h : Header) (b : Bool) → is_before y x ≡ b → ¬ (IsBefore h x) → IsPast (cond b (Some y) (Some x)) h
past_chosen x y h true e past = λ lt. past (before_trans h y x lt (before_if y x e))
past_chosen x y h false e past = past

past_other : (x y h : Header) (b : Bool) → is_before y x ≡ b → ¬ (IsBefore h y) → IsPast (cond b (Some y) (Some x)) h
past_other x y h true e past = past
past_other x y h false e past = λ lt. not_before y x e (before_upto h y x past lt)

-- what is past one of two is past the one that comes first
pub past_left : (a b : Option Header) (h : Header) → IsPast a h → IsPast (earlier a b) h
past_left None b h past = absurd past
past_left (Some x) None h past = past
past_left (Some x) (Some y) h past = past_chosen x y h (is_before y x) refl past

pub past_right : (a b : Option Header) (h : Header) → IsPast b h → IsPast (earlier a b) h
past_right None b h past = past
past_right (Some x) None h past = absurd past
past_right (Some x) (Some y) h past = past_other x y h (is_before y x) refl past

chosen_one : (x y : Header) (b : Bool) → (cond b (Some y) (Some x) ≡ Some x) ⊎ (cond b (Some y) (Some x) ≡ Some y)
chosen_one x y true = inr refl
chosen_one x y false = inl refl

-- it is one of the two
pub earlier_is : (a b : Option Header) → (earlier a b ≡ a) ⊎ (earlier a b ≡ b)
earlier_is None b = inr refl
earlier_is (Some x) None = inl refl
earlier_is (Some x) (Some y) = chosen_one x y (is_before y x)

some_if : (a b : Option Header) → earlier a b ≡ None → (a ≡ None) × (b ≡ None)
some_if None b e = (refl, e)
some_if (Some x) None e = absurd cc
some_if (Some x) (Some y) e = by (is_before y x) e
  where
    by : (t : Bool) → cond t (Some y) (Some x) ≡ None → (Some x ≡ None) × (Some y ≡ None)
    by true f = absurd cc
    by false f = absurd cc

one_earlier : (a b : Option Header) → one_if (is_some (earlier a b)) ≤ one_if (is_some a) + one_if (is_some b)
one_earlier None b = omega arith
one_earlier (Some x) None = omega arith
one_earlier (Some x) (Some y) = let m = at_most_one (is_some (earlier (Some x) (Some y))) in omega (arith, m)

-- ---- rows that begin before a header

module _ {W : Type 0} where
  add_row : (h : Header) (r : Row W) (rows : List (Row W)) (b : Bool) → is_covered rows h ≡ true → is_covered (cond b (r ∷ rows) rows) h ≡ true
  add_row h r rows true is = by (holds h r.part) is
    where
      by : (t : Bool) → is_covered rows h ≡ true → (t || is_covered rows h) ≡ true
      by true e = refl
      by false e = e
  add_row h r rows false is = is

  this_row : (h : Header) (r : Row W) (rows : List (Row W)) (b : Bool) → b ≡ true → holds h r.part ≡ true → is_covered (cond b (r ∷ rows) rows) h ≡ true
  this_row h r rows true is e = ap (λ (t : Bool). t || is_covered rows h) e
  this_row h r rows false is e = absurd cc

  still_covered : (n h : Header) (rows : List (Row W)) → IsBefore h n → is_covered rows h ≡ true → is_covered (filter (begins_before n) rows) h ≡ true
  still_covered n h [] before is = absurd cc
  still_covered n h (r ∷ rows) before is = by (holds h r.part) refl (still_covered n h rows before)
    where
      by : (t : Bool) → holds h r.part ≡ t → (is_covered rows h ≡ true → is_covered (filter (begins_before n) rows) h ≡ true)
          → is_covered (cond (begins_before n r) (r ∷ filter (begins_before n) rows) (filter (begins_before n) rows)) h ≡ true
      by true e rest =
          this_row h r (filter (begins_before n) rows) (begins_before n r)
          (before_is (low_of r.part) n (before_upto h (low_of r.part) n (low_is_least r.part h e) before)) e
      by false e rest =
          add_row h r (filter (begins_before n) rows) (begins_before n r) (rest (ap (λ (t : Bool). t || is_covered rows h) (sym e) ∙ is))

  kept_or_past : (n h : Header) (rows : List (Row W)) (b : Bool) → is_before h n ≡ b → is_covered rows h ≡ true → (is_covered (filter (begins_before n) rows) h ≡ true) ⊎ ¬ (IsBefore h n)
  kept_or_past n h rows true e is = inl (still_covered n h rows (before_if h n e) is)
  kept_or_past n h rows false e is = inr (not_before h n e)

  -- a header that was in a row still is, or comes after the one that is left out
  pub kept_covered : (next : Option Header) (h : Header) (rows : List (Row W)) → is_covered rows h ≡ true → (is_covered (kept_before next rows) h ≡ true) ⊎ IsPast next h
  kept_covered None h rows is = inl is
  kept_covered (Some n) h rows is = kept_or_past n h rows (is_before h n) refl is

  kept_all : (P : Row W → Type 0) (next : Option Header) (rows : List (Row W)) → All P rows → All P (kept_before next rows)
  kept_all P None rows all = all
  kept_all P (Some n) rows all = All-filter (begins_before n) P rows all

  kept_holders : (next : Option Header) (rows : List (Row W)) (h : Header) → row_holders (kept_before next rows) h ≤ row_holders rows h
  kept_holders None rows h = omega arith
  kept_holders (Some n) rows h = sum_by-filter-le (λ (r : Row W). one_if (holds h r.part)) (begins_before n) rows

  kept_length : (next : Option Header) (rows : List (Row W)) → length (kept_before next rows) ≤ length rows
  kept_length None rows = omega arith
  kept_length (Some n) rows = length-filter-le (begins_before n) rows

  kept_begun : (next : Option Header) (rows : List (Row W)) → IfSome next (λ n. All (λ r. IsBefore (low_of r.part) n) (kept_before next rows))
  kept_begun None rows = tt
  kept_begun (Some n) rows =
      All-weaker (λ (r : Row W). begins_before n r ≡ true) (λ (r : Row W). IsBefore (low_of r.part) n) (λ r e. before_if (low_of r.part) n e) (filter (begins_before n) rows) (filter_passes (begins_before n) rows)

  all_begin : (n : Header) (rows : List (Row W)) → All (λ r. IsBefore (low_of r.part) n) rows → filter (begins_before n) rows ≡ rows
  all_begin n rows begun =
      filter_all (begins_before n) rows (All-weaker (λ (r : Row W). IsBefore (low_of r.part) n) (λ (r : Row W). begins_before n r ≡ true) (λ r e. before_is (low_of r.part) n e) rows begun)

  -- those of one of two piles all stay
  many_left : (n : Header) (room : ℕ) (first other : List (Row W)) → All (λ r. IsBefore (low_of r.part) n) first → room ≤ length first → room ≤ length (filter (begins_before n) (first ++ other))
  many_left n room first other begun many =
      let e = ap length (filter-append (begins_before n) first other) in
      let l = length-append (filter (begins_before n) first) (filter (begins_before n) other) in
      let f = ap length (all_begin n first begun) in
      omega (arith, e, l, f, many)

  many_right : (n : Header) (room : ℕ) (first other : List (Row W)) → All (λ r. IsBefore (low_of r.part) n) other → room ≤ length other → room ≤ length (filter (begins_before n) (first ++ other))
  many_right n room first other begun many =
      let e = ap length (filter-append (begins_before n) first other) in
      let l = length-append (filter (begins_before n) first) (filter (begins_before n) other) in
      let f = ap length (all_begin n other begun) in
      omega (arith, e, l, f, many)

-- ---- piles of other boxes

part_left : (cuts : CutLists) (boxes others : List Box5) (b : Box5) → IsPartOf cuts boxes b → IsPartOf cuts (boxes ++ others) b
part_left cuts boxes others b k = record { whole = k.whole; among = Contains-append_left boxes others k.whole k.among; within = k.within; aligned = k.aligned }

part_right : (cuts : CutLists) (boxes others : List Box5) (b : Box5) → IsPartOf cuts others b → IsPartOf cuts (boxes ++ others) b
part_right cuts boxes others b k = record { whole = k.whole; among = Contains-append_right boxes others k.whole k.among; within = k.within; aligned = k.aligned }

module _ {W : Type 0} (meaning : Header → Option W) (cuts : CutLists) (boxes others : List Box5) (room : ℕ) (rows more : List (Row W)) (next far : Option Header) where
  -- a header that was left out still is
  out_left : (n : Header) → ((h : Header) → holders (boxes ++ others) h ≤ 1) → IsPile meaning cuts others room more far → IsLeftOut meaning boxes rows n
      → IsLeftOut meaning (boxes ++ others) (kept_before (earlier next far) (rows ++ more)) n
  out_left n apart other k = record {
    inside = list_any-append (λ b. holds n b) boxes others ∙ or_left (is_in boxes n) (is_in others n) k.inside;
    told = k.told;
    outside =
        let one = one_from_any (λ b. holds n b) boxes k.inside in
        let split = sum_by-append (λ b. one_if (holds n b)) boxes others in
        let none = none_from_any (λ (r : Row W). holds n r.part) rows k.outside in
        let joined = sum_by-append (λ (r : Row W). one_if (holds n r.part)) rows more in
        let less = kept_holders (earlier next far) (rows ++ more) n in
        let a = apart n in let e = other.each n in
        none_from_zero (λ (r : Row W). holds n r.part) (kept_before (earlier next far) (rows ++ more)) (omega (arith, one, split, none, joined, less, a, e));
  }

  out_right : (n : Header) → ((h : Header) → holders (boxes ++ others) h ≤ 1) → IsPile meaning cuts boxes room rows next → IsLeftOut meaning others more n
      → IsLeftOut meaning (boxes ++ others) (kept_before (earlier next far) (rows ++ more)) n
  out_right n apart one_pile k = record {
    inside = list_any-append (λ b. holds n b) boxes others ∙ or_right (is_in boxes n) (is_in others n) k.inside;
    told = k.told;
    outside =
        let one = one_from_any (λ b. holds n b) others k.inside in
        let split = sum_by-append (λ b. one_if (holds n b)) boxes others in
        let none = none_from_any (λ (r : Row W). holds n r.part) more k.outside in
        let joined = sum_by-append (λ (r : Row W). one_if (holds n r.part)) rows more in
        let less = kept_holders (earlier next far) (rows ++ more) n in
        let a = apart n in let e = one_pile.each n in
        none_from_zero (λ (r : Row W). holds n r.part) (kept_before (earlier next far) (rows ++ more)) (omega (arith, one, split, none, joined, less, a, e));
  }

  told_of : (h : Header) → IsPile meaning cuts boxes room rows next → IsPile meaning cuts others room more far → (is_in boxes h ≡ true) ⊎ (is_in others h ≡ true) → meaning h ≢ None
      → (is_covered (kept_before (earlier next far) (rows ++ more)) h ≡ true) ⊎ IsPast (earlier next far) h
  told_of h a b (inl inside) some =
      ⊎_elim (λ is. kept_covered (earlier next far) h (rows ++ more) (list_any-append (λ (r : Row W). holds h r.part) rows more ∙ or_left (is_covered rows h) (is_covered more h) is))
      (λ past. inr (past_left next far h past)) (a.told h inside some)
  told_of h a b (inr inside) some =
      ⊎_elim (λ is. kept_covered (earlier next far) h (rows ++ more) (list_any-append (λ (r : Row W). holds h r.part) rows more ∙ or_right (is_covered rows h) (is_covered more h) is))
      (λ past. inr (past_right next far h past)) (b.told h inside some)

  next_left : ((h : Header) → holders (boxes ++ others) h ≤ 1) → IsPile meaning cuts boxes room rows next → IsPile meaning cuts others room more far
      → (o : Option Header) → o ≡ next → IfSome o (IsLeftOut meaning (boxes ++ others) (kept_before (earlier next far) (rows ++ more)))
  next_left apart a b None e = tt
  next_left apart a b (Some n) e = out_left n apart b (subst (λ (o : Option Header). IfSome o (IsLeftOut meaning boxes rows)) (sym e) a.next_is)

  next_right : ((h : Header) → holders (boxes ++ others) h ≤ 1) → IsPile meaning cuts boxes room rows next → IsPile meaning cuts others room more far
      → (o : Option Header) → o ≡ far → IfSome o (IsLeftOut meaning (boxes ++ others) (kept_before (earlier next far) (rows ++ more)))
  next_right apart a b None e = tt
  next_right apart a b (Some n) e = out_right n apart a (subst (λ (o : Option Header). IfSome o (IsLeftOut meaning others more)) (sym e) b.next_is)

-- what holds of the header that is left out, by which of two it is
by_choice : (next far : Option Header) (P : Option Header → Type 0) → (earlier next far ≡ next → P next) → (earlier next far ≡ far → P far) → P (earlier next far)
by_choice next far P one other =
    ⊎_elim (λ e. subst P (sym e) (one e)) (λ e. subst P (sym e) (other e)) (earlier_is next far)

module _ {W : Type 0} (room : ℕ) (rows more : List (Row W)) where
  still_many_left : (o : Option Header) → IfSome o (λ n. All (λ r. IsBefore (low_of r.part) n) rows) → IfSome o (λ n. room ≤ length rows)
      → IfSome o (λ n. room ≤ length (kept_before o (rows ++ more)))
  still_many_left None begun many = tt
  still_many_left (Some n) begun many = many_left n room rows more begun many

  still_many_right : (o : Option Header) → IfSome o (λ n. All (λ r. IsBefore (low_of r.part) n) more) → IfSome o (λ n. room ≤ length more)
      → IfSome o (λ n. room ≤ length (kept_before o (rows ++ more)))
  still_many_right None begun many = tt
  still_many_right (Some n) begun many = many_right n room rows more begun many

-- two piles of boxes no two of which share a header
pub pile_joined : {W : Type 0} (meaning : Header → Option W) (cuts : CutLists) (boxes others : List Box5) (room : ℕ) (rows more : List (Row W)) (next far : Option Header)
    → ((h : Header) → holders (boxes ++ others) h ≤ 1) → IsPile meaning cuts boxes room rows next → IsPile meaning cuts others room more far
    → IsPile meaning cuts (boxes ++ others) room (kept_before (earlier next far) (rows ++ more)) (earlier next far)
pile_joined {W = W} meaning cuts boxes others room rows more next far apart a b = record {
  parts = kept_all (λ (r : Row W). IsPartOf cuts (boxes ++ others) r.part) (earlier next far) (rows ++ more)
      (All-append (λ (r : Row W). IsPartOf cuts (boxes ++ others) r.part) rows more
      (All-weaker (λ (r : Row W). IsPartOf cuts boxes r.part) (λ (r : Row W). IsPartOf cuts (boxes ++ others) r.part) (λ r k. part_left cuts boxes others r.part k) rows a.parts)
      (All-weaker (λ (r : Row W). IsPartOf cuts others r.part) (λ (r : Row W). IsPartOf cuts (boxes ++ others) r.part) (λ r k. part_right cuts boxes others r.part k) more b.parts));
  word = kept_all (HasWord meaning) (earlier next far) (rows ++ more) (All-append (HasWord meaning) rows more a.word b.word);
  each = λ h.
      let less = kept_holders (earlier next far) (rows ++ more) h in
      let joined = sum_by-append (λ (r : Row W). one_if (holds h r.part)) rows more in
      let split = sum_by-append (λ x. one_if (holds h x)) boxes others in
      let x = a.each h in let y = b.each h in
      omega (arith, less, joined, split, x, y);
  told = λ h inside some.
      told_of meaning cuts boxes others room rows more next far h a b (or_cases (is_in boxes h) (is_in others h) (sym (list_any-append (λ x. holds h x) boxes others) ∙ inside)) some;
  next_is = by_choice next far (λ (o : Option Header). IfSome o (IsLeftOut meaning (boxes ++ others) (kept_before (earlier next far) (rows ++ more))))
      (λ e. next_left meaning cuts boxes others room rows more next far apart a b next refl) (λ e. next_right meaning cuts boxes others room rows more next far apart a b far refl);
  begun = kept_begun (earlier next far) (rows ++ more);
  many = ⊎_elim
      (λ e. subst (λ (o : Option Header). IfSome o (λ n. room ≤ length (kept_before o (rows ++ more)))) (sym e) (still_many_left room rows more next a.begun a.many))
      (λ e. subst (λ (o : Option Header). IfSome o (λ n. room ≤ length (kept_before o (rows ++ more)))) (sym e) (still_many_right room rows more far b.begun b.many))
      (earlier_is next far);
  cells = λ all among.
      let x = a.cells all among in let y = b.cells all among in
      let split = sum_by-append (cells_of all) boxes others in
      let ones = one_earlier next far in
      let less = kept_length (earlier next far) (rows ++ more) in
      let joined = length-append rows more in
      omega (arith, x, y, split, ones, less, joined);
  parted = parted_kept (boxes ++ others) (rows ++ more) (parted_together cuts boxes others rows more apart a.parts b.parts a.parted b.parted) (earlier next far);
}

-- ---- one box, and none

pub pile_of_none : {W : Type 0} (meaning : Header → Option W) (cuts : CutLists) (room : ℕ) → IsPile meaning cuts [] room [] None
pile_of_none meaning cuts room = record {
  parts = All-nil _;
  word = All-nil _;
  each = λ h. omega arith;
  told = λ h inside some. absurd cc;
  next_is = tt;
  begun = tt;
  many = tt;
  cells = λ all among. omega arith;
  parted = λ first other has_first has_other can. absurd (Contains-none first has_first);
}

in_one : (b c : Bool) → (b || false) ≡ c → b ≡ c
in_one true c e = e
in_one false c e = e

before_or_past : (n h : Header) (b : Bool) → is_before h n ≡ b → IsBefore h n ⊎ ¬ (IsBefore h n)
before_or_past n h true e = inl (before_if h n e)
before_or_past n h false e = inr (not_before h n e)

module _ {W : Type 0} (cuts : CutLists) (sides : Box5) (rows : List (Row W)) where
  parts_here : All (λ r. IsWithin r.part sides) rows → All (λ r. IsAligned cuts r.part sides) rows → All (λ r. IsPartOf cuts (sides ∷ []) r.part) rows
  parts_here within aligned k d lt = record { whole = sides; among = (0, omega arith, refl); within = within k d lt; aligned = aligned k d lt }

  cells_here : All (λ r. IsWithin r.part sides) rows → All (λ r. IsAligned cuts r.part sides) rows → AllPairs (λ a b. AreDisjoint a.part b.part) rows
      → (all : CutLists) → AreAmong cuts all → length rows ≤ cells_of all sides
  cells_here within aligned disjoint all among =
      let m = length-map rows (λ (r : Row W). r.part) in
      let l = boxes_within_cells all sides (map (λ (r : Row W). r.part) rows)
      (All-map (λ b. IsWithin b sides) (λ (r : Row W). r.part) rows within)
      (All-map (λ b. IsAligned all b sides) (λ (r : Row W). r.part) rows (λ k d lt. aligned_grows cuts all (get_or rows k d).part sides among (aligned k d lt)))
      (AllPairs-map AreDisjoint (λ (r : Row W). r.part) rows disjoint) in
      omega (arith, m, l)

one_each : {W : Type 0} (sides : Box5) (rows : List (Row W)) → All (λ r. IsWithin r.part sides) rows → AllPairs (λ a b. AreDisjoint a.part b.part) rows
    → (h : Header) → row_holders rows h ≤ holders (sides ∷ []) h
one_each {W = W} sides rows within disjoint h = by (holds h sides) refl
  where
    s : holders (sides ∷ []) h ≡ one_if (holds h sides) + 0
    s = sum_by-cons (λ b. one_if (holds h b)) sides []

    by : (t : Bool) → holds h sides ≡ t → row_holders rows h ≤ holders (sides ∷ []) h
    by true e = let o = ap one_if e in let c = count_by_disjoint (λ (r : Row W). r.part) rows disjoint h in omega (arith, s, o, c)
    by false e =
        let z = zero_from_all (λ (r : Row W). holds h r.part) rows (λ k d lt held. let in_sides = sym (holds_whole h (get_or rows k d).part sides (within k d lt) held) ∙ e in absurd cc) in
        omega (arith, z)

module _ {W : Type 0} {meaning : Header → Option W} {cuts : CutLists} {sides : Box5} {room : ℕ} {rows : List (Row W)} where
  pub pile_of_whole : HoldAllTold meaning cuts sides room rows → IsPile meaning cuts (sides ∷ []) room rows None
  pile_of_whole k = record {
    parts = parts_here cuts sides rows k.are_true.within k.ordered.aligned;
    word = k.are_true.word;
    each = one_each sides rows k.are_true.within k.are_true.disjoint;
    told = λ h inside some. inl (k.all h (in_one (holds h sides) true inside) some);
    next_is = tt;
    begun = tt;
    many = tt;
    cells = λ all among.
        let l = cells_here cuts sides rows k.are_true.within k.ordered.aligned k.are_true.disjoint all among in
        let s = sum_by-cons (cells_of all) sides [] in
        omega (arith, l, s);
    parted = parted_in_one rows k.ordered.ascending sides k.joined;
  }

  pub pile_of_part : (n : Header) → LeaveSomeOut meaning cuts sides room rows n → IsPile meaning cuts (sides ∷ []) room rows (Some n)
  pile_of_part n k = record {
    parts = parts_here cuts sides rows k.are_true.within k.ordered.aligned;
    word = k.are_true.word;
    each = one_each sides rows k.are_true.within k.are_true.disjoint;
    told = λ h inside some. ⊎_elim (λ lt. inl (k.left_out.first h (in_one (holds h sides) true inside) lt some)) (λ past. inr past) (before_or_past n h (is_before h n) refl);
    next_is = record { inside = ap (λ (t : Bool). t || false) k.left_out.inside; told = k.left_out.told; outside = k.left_out.outside };
    begun = k.begun;
    many = let c = k.count in omega (arith, c);
    cells = λ all among.
        let l = k.cells all among in let c = k.count in
        let s = sum_by-cons (cells_of all) sides [] in
        omega (arith, l, s, c);
    parted = parted_in_one rows k.ordered.ascending sides k.joined;
  }
