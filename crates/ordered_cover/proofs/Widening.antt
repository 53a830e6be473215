-- Rows that are added to a tree, or make its last one wider in q.
use Rattle.std.proofs.Common.{◌≡◌, ℕ, ◌≤◌, ◌<◌, ◌+◌, ◌++◌, ◌⊎◌, Bool, List, Option, Some, [], ◌∷◌, append_assoc, ap, arith, false, get_or, if◌then◌else◌, inl, inr, length, nat_lt, refl, subst, sum_by, sym, true, ◌∙◌}
use Rattle.std.proofs.lemmas.List.{same_from_push}
use Rattle.vpc_base.proofs.Lemmas.{Any-from_list_any, append-nil, length-append, nat_tests, sum_by-IsPermutation, sum_by-append, sum_by-cons}
use Rattle.vpc_base.specs.Terms.{CutLists}
use Rattle.vpc_base.specs.declared.headers.Header.{Header}
use Rattle.header_boxes.specs.Terms.{IsWithin, low_of}
use Rattle.header_boxes.specs.declared.boxes.Box5.{Box5}
use Rattle.header_boxes.specs.declared.rows.Row.{Row}
use Rattle.header_boxes.proofs.Order.{same_fields}
use Rattle.box_images.specs.Fields.{side_of}
use Rattle.box_images.specs.declared.fields.Side.{Side}
use Rattle.box_images.specs.declared.fields.Side.TheVariants.{Proto, Src, Dst, P, Q}
use Rattle.ordered_cover.specs.Beside.{after_side, beside, beside_by, cut_down}
use Rattle.ordered_cover.specs.Growing.{IsAdded, IsGrowing, IsGrowthOf, IsLatest, apart, joined, open_in, rows_in}
use Rattle.ordered_cover.specs.Terms.{AreJoined, AreSplit, CanJoin, GoesOn, IsAsked, every, joined_row, one_if, span}
use Rattle.ordered_cover.specs.Trees.{with_side}
use Rattle.ordered_cover.specs.declared.joining.Along.TheVariants as by_sides
use Rattle.ordered_cover.proofs.Growth.{ends_after, grown_by, growing_after, growth_with, one_box, same_box, same_box-itself, sum_by-grown, sums_after, whole_ends}
use Rattle.ordered_cover.proofs.Joined.{keeps_more}
use Rattle.ordered_cover.proofs.Lists.{adjacent_changed, any_from_one}
use Rattle.ordered_cover.proofs.Splits.{begins_elsewhere}

-- ---- what is left beside a part of the last row

abbrev but_q : List Side
but_q = Proto ∷ (Src ∷ (Dst ∷ (P ∷ [])))

beside_by-append : (sides more : List Side) (w c : Box5) → beside_by (sides ++ more) w c ≡ beside_by sides w c ++ beside_by more (cut_down sides w c) c
beside_by-append [] more w c = refl
beside_by-append (s ∷ sides) more w c =
    let next = with_side w s (side_of c s) in
    ap (λ v. after_side w c s ++ v) (beside_by-append sides more next c) ∙ sym (append_assoc (after_side w c s) (beside_by sides next c) (beside_by more (cut_down sides next c) c))

-- by q last of all
beside-q : (w c : Box5) → beside w c ≡ beside_by but_q w c ++ after_side (cut_down but_q w c) c Q
beside-q w c = beside_by-append but_q (Q ∷ []) w c ∙ ap (λ v. beside_by but_q w c ++ v) (append-nil (after_side (cut_down but_q w c) c Q))

-- the box with the sides of another, but for its q
abbrev with_q_of : Box5 → ℕ × ℕ → Box5
with_q_of c r = record { proto = c.proto; src = c.src; dst = c.dst; p = c.p; q = r }

-- what is left of the box beside the part by q
abbrev rest_q : Box5 → Box5 → Box5
rest_q w c = with_q_of c (c.q.1 + 1, w.q.1)

not_below : (n : ℕ) → nat_lt n n ≡ false
not_below n = grind (arith, nat_tests)

is_below : (m n : ℕ) → m < n → nat_lt m n ≡ true
is_below m n lt = grind (arith, nat_tests)

skip : (t : Bool) (b : Box5) (rest : List Box5) → t ≡ false → (if t then b ∷ [] else []) ++ rest ≡ rest
skip true b rest e = absurd cc
skip false b rest e = refl

-- nothing is left beside a part of it but by q
beside-rest_q : (w c : Box5) (r : ℕ × ℕ) → beside (rest_q w c) (with_q_of c r) ≡ after_side (cut_down but_q w c) (with_q_of c r) Q
beside-rest_q w c r =
    skip (nat_lt c.proto.1 c.proto.1) _ _ (not_below c.proto.1)
    ∙ (skip (nat_lt c.src.1 c.src.1) _ _ (not_below c.src.1)
    ∙ (skip (nat_lt c.dst.1 c.dst.1) _ _ (not_below c.dst.1)
    ∙ (skip (nat_lt c.p.1 c.p.1) _ _ (not_below c.p.1) ∙ append-nil _)))

-- a part that goes on from another one
goes_on_is : (c part : Box5) → GoesOn c part → part ≡ with_q_of c part.q
goes_on_is c part on =
    ap (λ (r : ℕ × ℕ). record { proto = r; src = part.src; dst = part.dst; p = part.p; q = part.q }) (sym on.proto)
    ∙ (ap (λ (r : ℕ × ℕ). record { proto = c.proto; src = r; dst = part.dst; p = part.p; q = part.q }) (sym on.src)
    ∙ (ap (λ (r : ℕ × ℕ). record { proto = c.proto; src = c.src; dst = r; p = part.p; q = part.q }) (sym on.dst)
    ∙ ap (λ (r : ℕ × ℕ). record { proto = c.proto; src = c.src; dst = c.dst; p = r; q = part.q }) (sym on.p)))

module _ (w c : Box5) (lt : c.q.1 < w.q.1) where
  after_q : after_side (cut_down but_q w c) c Q ≡ rest_q w c ∷ []
  after_q = ap (λ (t : Bool). if t then rest_q w c ∷ [] else []) (is_below c.q.1 w.q.1 lt)

  sum_by-beside : (f : Box5 → ℕ) → sum_by f (beside w c) ≡ sum_by f (beside_by but_q w c) + f (rest_q w c)
  sum_by-beside f =
      let a = ap (sum_by f) (beside-q w c) in
      let b = sum_by-append f (beside_by but_q w c) (after_side (cut_down but_q w c) c Q) in
      let d = ap (sum_by f) after_q in
      let e = sum_by-cons f (rest_q w c) [] in
      omega (arith, a, b, d, e)

  -- a part of what is left by q makes the part wider: then that box is left no more, but what is left beside its part
  sum_by-wider : (f : Box5 → ℕ) (part : Box5) → GoesOn c part
      → sum_by f (beside w (with_q_of c (c.q.0, part.q.1))) + f (rest_q w c) ≡ sum_by f (beside w c) + sum_by f (beside (rest_q w c) part)
  sum_by-wider f part on =
      let wider = with_q_of c (c.q.0, part.q.1) in
      let a = sum_by-beside f in
      let b = ap (sum_by f) (beside-q w wider) in
      let d = sum_by-append f (beside_by but_q w wider) (after_side (cut_down but_q w wider) wider Q) in
      let e = ap (λ v. sum_by f (beside (rest_q w c) v)) (goes_on_is c part on) in
      let g = ap (sum_by f) (beside-rest_q w c part.q) in
      let k : sum_by f (beside_by but_q w wider) ≡ sum_by f (beside_by but_q w c) = refl in
      let m : sum_by f (after_side (cut_down but_q w wider) wider Q) ≡ sum_by f (after_side (cut_down but_q w c) (with_q_of c part.q) Q) = refl in
      omega (arith, a, b, d, e, g, k, m)

-- ---- the last row made wider

module _ {W : Type 0} {meaning : Header → Option W} {cuts : CutLists} {sides : Box5} {old new : List Box5} {part : Box5} {rows : List (Row W)} (w : W)
    (s : IsGrowing sides old rows) (split : AreSplit meaning cuts every sides old rows) (a : IsAsked meaning cuts old new part (Some w)) (l : IsLatest sides s.growth rows)
    (on : GoesOn l.last.part part) where
  abbrev c : Box5
  c = l.last.part

  part_ends : (c.q.1 < part.q.1) × (part.q.1 ≤ l.whole.q.1)
  part_ends =
      let b = on.q in
      let v = a.within.q.valid in
      let e = a.within.q.ends in
      let k = whole_ends s a in
      let m = l.ends in
      (omega (arith, b, v), omega (arith, e, k, m))

  more : c.q.1 < l.whole.q.1
  more = let e = part_ends in let x = e.0 in let y = e.1 in omega (arith, x, y)

  abbrev rest : Box5
  rest = rest_q l.whole c

  -- the box that was asked begins where what was left by q begins
  begins : low_of a.whole ≡ low_of rest
  begins =
      sym a.low
      ∙ same_fields (low_of part) (low_of rest) (sym (ap (λ (r : ℕ × ℕ). r.0) on.proto)) (sym (ap (λ (r : ℕ × ℕ). r.0) on.src)) (sym (ap (λ (r : ℕ × ℕ). r.0) on.dst)) (sym (ap (λ (r : ℕ × ℕ). r.0) on.p)) (sym on.q)

  -- so it is that box, of which there is only one
  is_rest : a.whole ≡ rest
  is_rest = by (same_box a.whole rest) refl
    where
      f : Box5 → ℕ
      f b = one_if (same_box b rest)

      by : (t : Bool) → same_box a.whole rest ≡ t → a.whole ≡ rest
      by true e = one_box a.whole rest e
      by false e =
          let one = ap one_if (same_box-itself rest) in
          let b = sum_by-beside l.whole c more f in
          let g = sum_by-grown f l.first l.later l.last l.whole in
          let st = ap (λ x. sum_by f (open_in x)) l.stands in
          let all = s.still_open f in
          let t = sum_by-IsPermutation f old (a.whole ∷ a.others) a.taken in
          let k = sum_by-cons f a.whole a.others in
          let z = ap one_if e in
          let some : 1 ≤ sum_by f a.others = omega (arith, one, b, g, st, all, t, k, z) in
          let x = Any-from_list_any (λ b. same_box b rest) a.others (any_from_one (λ b. same_box b rest) a.others some) in
          let there : get_or a.others x.0 x.1 ≡ rest = x.3 ∙ one_box x.1 rest x.4 in
          absurd (begins_elsewhere split a x.0 x.1 x.2 (begins ∙ ap low_of (sym there)))

  abbrev wider : Row W
  wider = record { part = with_q_of c (c.q.0, part.q.1); word = l.last.word }

  wider_within : IsWithin wider.part l.whole
  wider_within =
      let k = l.begins.within in
      let e = part_ends in
      let x = e.0 in
      let y = e.1 in
      let b = k.q.begins in
      let v = k.q.valid in
      record { proto = k.proto; src = k.src; dst = k.dst; p = k.p; q = record { begins = b; valid = omega (arith, v, x); ends = y } }

  growing_wider : IsGrowing sides new (l.before ++ wider ∷ [])
  growing_wider = record {
    growth = l.first ++ grown_by wider l.whole l.later;
    cut = growth_with l.first l.later (sides ∷ []) l.whole l.last wider wider_within l.begins.low (subst (λ g. IsGrowthOf g (sides ∷ [])) l.stands s.cut);
    still_open = λ f.
        let n = sums_after s a f in
        let e = ap (λ g. sum_by f (open_in g)) l.stands in
        let g = sum_by-grown f l.first l.later l.last l.whole in
        let h = sum_by-grown f l.first l.later wider l.whole in
        let i = ap f is_rest in
        let j = ap (λ b. sum_by f (beside b part)) is_rest in
        let k = sum_by-wider l.whole c more f part on in
        omega (arith, n, e, g, h, i, j, k);
    ends = ends_after s a;
    latest = inr (record {
      before = l.before;
      last = wider;
      ended = refl;
      whole = l.whole;
      first = l.first;
      later = l.later;
      stands = refl;
      begins = record { same = refl; within = wider_within; low = l.begins.low };
      ends = l.ends;
      kept = l.kept;
      count = l.count;
    });
  }

-- ---- a row is added

-- two boxes that differ in q alone, as one
span_is : (c part : Box5) → GoesOn c part → span c part ≡ with_q_of c (c.q.0, part.q.1)
span_is c part on = ap (λ (r : ℕ × ℕ). record { proto = c.proto; src = c.src; dst = c.dst; p = (c.p.0, r.1); q = (c.q.0, part.q.1) }) (sym on.p)

module _ {W : Type 0} {meaning : Header → Option W} {cuts : CutLists} {sides : Box5} {old new : List Box5} {part : Box5} {rows all : List (Row W)} where
  pub growing_added : (w : W) → IsGrowing sides old rows → AreSplit meaning cuts every sides old rows → IsAsked meaning cuts old new part (Some w)
      → IsAdded rows (record { part = part; word = w }) all → IsGrowing sides new all
  growing_added w s split a (apart further are) = subst (IsGrowing sides new) (sym are) (growing_after w s a)
  growing_added w s split a (joined both one are) = by s.latest
    where
      by : ((rows ≡ []) × (rows_in s.growth ≡ [])) ⊎ IsLatest sides s.growth rows → IsGrowing sides new all
      by (inl none) =
          let e = ap length (sym none.0 ∙ one.ended) in
          let l = length-append one.before (one.last ∷ []) in
          absurd (omega (arith, e, l))
      by (inr l) =
          let same = same_from_push l.before one.before l.last one.last (sym l.ended ∙ one.ended) in
          let on : GoesOn l.last.part part = subst (λ (r : Row W). GoesOn r.part part) (sym same.1) one.can.0 in
          let row : Row W = record { part = with_q_of l.last.part (l.last.part.q.0, part.q.1); word = l.last.word } in
          let is : row ≡ both =
          ap (λ (b : Box5). record { part = b; word = l.last.word }) (sym (span_is l.last.part part on))
          ∙ (ap (λ (r : Row W). joined_row r (record { part = part; word = w })) same.1 ∙ sym one.new_is) in
          subst (IsGrowing sides new) (ap (λ v. v ++ row ∷ []) same.0 ∙ (ap (λ v. one.before ++ v ∷ []) is ∙ sym are)) (growing_wider w s split a l on)

pub split_added : {W : Type 0} {meaning : Header → Option W} {cuts : CutLists} {sides : Box5} {open_boxes : List Box5} {rows all : List (Row W)} {row : Row W}
    → AreSplit meaning cuts every sides open_boxes (rows ++ row ∷ []) → IsAdded rows row all → AreSplit meaning cuts every sides open_boxes all
split_added {meaning = meaning} {cuts = cuts} {sides = sides} {open_boxes = open_boxes} split (apart further are) = subst (AreSplit meaning cuts every sides open_boxes) (sym are) split
split_added {meaning = meaning} {cuts = cuts} {sides = sides} {open_boxes = open_boxes} {rows = rows} {row = row} split (joined both one are) =
    subst (AreSplit meaning cuts every sides open_boxes) (sym are)
    (keeps_more by_sides.Q (rows ++ row ∷ []) rows one.before row both one refl (λ m c s b o x. x) meaning cuts every sides open_boxes split)

-- none could be one with the next
pub joined_added : {W : Type 0} {rows all : List (Row W)} {row : Row W} → AreJoined GoesOn rows → IsAdded rows row all → AreJoined GoesOn all
joined_added before (apart further are) = subst (AreJoined GoesOn) (sym are) (further before)
joined_added {W} {rows} {row = row} before (joined both one are) =
    let R : Row W → Row W → Type 0 = (λ x y. ¬ (CanJoin GoesOn x y)) in
    subst (AreJoined GoesOn) (sym are)
    (subst (λ v. AreJoined GoesOn (one.before ++ v ∷ [])) (sym one.new_is)
    (adjacent_changed R one.before one.last (joined_row one.last row)
    (λ x not can. not (
      record {
        proto = can.0.proto;
        src = can.0.src;
        dst = can.0.dst;
        p = can.0.p ∙ ap (λ (r : ℕ × ℕ). (one.last.part.p.0, r.1)) (sym one.can.0.p);
        q = can.0.q;
      },
      can.1,
    ))
    (subst (AreJoined GoesOn) one.ended before)))

-- there is one more at most
pub few_added : {W : Type 0} {rows all : List (Row W)} {row : Row W} → IsAdded rows row all → length all ≤ length rows + 1
few_added {W} {rows} {row = row} (apart further are) = let e = ap length are in let l = length-append rows (row ∷ []) in omega (arith, e, l)
few_added {W} {rows} (joined both one are) =
    let e = ap length are in
    let l = length-append one.before (both ∷ []) in
    let f = ap length one.ended in
    let m = length-append one.before (one.last ∷ []) in
    omega (arith, e, l, f, m)

-- ---- nothing is open

pub split_closed : {W : Type 0} {meaning : Header → Option W} {cuts : CutLists} {sides : Box5} {boxes : List Box5} {rows given : List (Row W)} → boxes ≡ [] → given ≡ rows
    → AreSplit meaning cuts every sides boxes rows → AreSplit meaning cuts every sides [] given
split_closed {meaning = meaning} {cuts = cuts} {sides = sides} {boxes = boxes} {given = given} none same split =
    subst (λ v. AreSplit meaning cuts every sides v given) none (subst (AreSplit meaning cuts every sides boxes) (sym same) split)

pub growing_closed : {W : Type 0} {sides : Box5} {boxes : List Box5} {rows given : List (Row W)} → boxes ≡ [] → given ≡ rows → IsGrowing sides boxes rows → IsGrowing sides [] given
growing_closed {sides = sides} {boxes = boxes} {given = given} none same growing = subst (λ v. IsGrowing sides v given) none (subst (IsGrowing sides boxes) (sym same) growing)
