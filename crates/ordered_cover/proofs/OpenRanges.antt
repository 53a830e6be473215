-- Ranges of open numbers, from the first on.
use Rattle.std.proofs.Common.{◌≡◌, ◌≢◌, ◌≤◌, ◌<◌, ◌+◌, ◌&&◌, ◌||◌, ℕ, Bool, true, false, List, [], ◌∷◌, ◌++◌, Option, All, refl, ap, sym, ◌∙◌, subst, arith, ⊎_elim}
use Rattle.std.proofs.lemmas.Bool.{and_parts, cases_lt, or_cases, or_right}
use Rattle.std.proofs.lemmas.Bool.Decides.{nat_tests}
use Rattle.std.proofs.lemmas.List.Elements.{All-nil, All-push, All-weaker}
use Rattle.std.proofs.lemmas.List.Folds.{list_any-append}
use Rattle.std.proofs.lemmas.List.Quantifiers.{all_pairs_push}
use Rattle.vpc_base.specs.declared.headers.Header.{Header}
use Rattle.header_boxes.specs.Boxes.{IsValid, in_range}
use Rattle.header_boxes.specs.declared.boxes.Box5.{Box5}
use Rattle.header_boxes.proofs.Held.{holds_from_in, in_from_holds, range_holds, range_in}
use Rattle.ordered_cover.specs.Passed.{AreDecided, AreOpenBelow, AreRangesBelow}
use Rattle.ordered_cover.specs.Ports.{AreOpenPorts, IsOpenPort, is_in_ranges}
use Rattle.ordered_cover.proofs.Lists.{all_before, of_last, pairs_before, pairs_with_last}

-- none at first
pub none_below : (n : ℕ) → AreRangesBelow n []
none_below n = record { proper = All-nil _; ascending = λ i j d lt inside. absurd (omega arith); below = All-nil _ }

-- they are below each greater number
pub below_more : (n m : ℕ) (ranges : List (ℕ × ℕ)) → n ≤ m → AreRangesBelow n ranges → AreRangesBelow m ranges
below_more n m ranges le b = record {
  proper = b.proper;
  ascending = b.ascending;
  below = All-weaker (λ (r : ℕ × ℕ). r.1 < n) (λ (r : ℕ × ℕ). r.1 < m) (λ r lt. omega (arith, le, lt)) ranges b.below;
}

-- one more, which touches none of them
pushed : (ranges : List (ℕ × ℕ)) (first last : ℕ) → first ≤ last → AreRangesBelow first ranges → All (λ r. r.1 + 1 < first) ranges → AreRangesBelow (last + 1) (ranges ++ (first, last) ∷ [])
pushed ranges first last le b apart = record {
  proper = All-push (λ (r : ℕ × ℕ). r.0 ≤ r.1) ranges (first, last) b.proper le;
  ascending = all_pairs_push (λ (a b : ℕ × ℕ). a.1 + 1 < b.0) ranges (first, last) b.ascending apart;
  below = All-push (λ (r : ℕ × ℕ). r.1 < last + 1) ranges (first, last)
      (All-weaker (λ (r : ℕ × ℕ). r.1 < first) (λ (r : ℕ × ℕ). r.1 < last + 1) (λ r lt. omega (arith, le, lt)) ranges b.below) (omega arith);
}

-- the first one
pub pushed_first : (ranges : List (ℕ × ℕ)) (first last : ℕ) → ranges ≡ [] → first ≤ last → AreRangesBelow first ranges → AreRangesBelow (last + 1) (ranges ++ (first, last) ∷ [])
pushed_first ranges first last none le b = pushed ranges first last le b (subst (All (λ r. r.1 + 1 < first)) (sym none) (All-nil _))

-- one more, where the last one doesn't touch it
pub pushed_apart : (ranges before : List (ℕ × ℕ)) (r : ℕ × ℕ) (first last : ℕ) → ranges ≡ before ++ r ∷ [] → r.1 + 1 ≢ first → first ≤ last → AreRangesBelow first ranges
    → AreRangesBelow (last + 1) (ranges ++ (first, last) ∷ [])
pushed_apart ranges before r first last ended apart le b =
    let c : AreRangesBelow first (before ++ r ∷ []) = subst (AreRangesBelow first) ended b in
    let end : r.1 < first = of_last (λ (x : ℕ × ℕ). x.1 < first) before r c.below in
    let proper : r.0 ≤ r.1 = of_last (λ (x : ℕ × ℕ). x.0 ≤ x.1) before r c.proper in
    let all : All (λ (x : ℕ × ℕ). x.1 + 1 < first) (before ++ r ∷ []) =
    All-push (λ (x : ℕ × ℕ). x.1 + 1 < first) before r
    (All-weaker (λ (x : ℕ × ℕ). x.1 + 1 < r.0) (λ (x : ℕ × ℕ). x.1 + 1 < first) (λ x lt. omega (arith, lt, proper, end)) before (pairs_with_last (λ (x y : ℕ × ℕ). x.1 + 1 < y.0) before r c.ascending))
    (omega (arith, end, apart)) in
    pushed ranges first last le b (subst (All (λ x. x.1 + 1 < first)) (sym ended) all)

-- the last one, as far as one that touches it
pub joined_below : (before : List (ℕ × ℕ)) (r : ℕ × ℕ) (first last : ℕ) → r.1 + 1 ≡ first → first ≤ last → AreRangesBelow first (before ++ r ∷ [])
    → AreRangesBelow (last + 1) (before ++ (r.0, last) ∷ [])
joined_below before r first last touch le b =
    let proper : r.0 ≤ r.1 = of_last (λ (x : ℕ × ℕ). x.0 ≤ x.1) before r b.proper in
    record {
      proper = All-push (λ (x : ℕ × ℕ). x.0 ≤ x.1) before (r.0, last) (all_before (λ (x : ℕ × ℕ). x.0 ≤ x.1) before r b.proper) (omega (arith, proper, touch, le));
      ascending = all_pairs_push (λ (x y : ℕ × ℕ). x.1 + 1 < y.0) before (r.0, last) (pairs_before (λ (x y : ℕ × ℕ). x.1 + 1 < y.0) before r b.ascending)
          (pairs_with_last (λ (x y : ℕ × ℕ). x.1 + 1 < y.0) before r b.ascending);
      below = All-push (λ (x : ℕ × ℕ). x.1 < last + 1) before (r.0, last)
          (All-weaker (λ (x : ℕ × ℕ). x.1 < first) (λ (x : ℕ × ℕ). x.1 < last + 1) (λ x lt. omega (arith, le, lt)) before (all_before (λ (x : ℕ × ℕ). x.1 < first) before r b.below)) (omega arith);
    }

-- ---- which numbers they hold

no_more : (b : Bool) → b ≡ (b || false)
no_more true = refl
no_more false = refl

-- one more
pub in_pushed : (ranges : List (ℕ × ℕ)) (r : ℕ × ℕ) (q : ℕ) → is_in_ranges (ranges ++ r ∷ []) q ≡ (is_in_ranges ranges q || in_range r q)
in_pushed ranges r q = list_any-append (λ x. in_range x q) ranges (r ∷ []) ∙ ap (λ v. is_in_ranges ranges q || v) (sym (no_more (in_range r q)))

joined_range : (a b first last q : ℕ) → a ≤ b → b + 1 ≡ first → first ≤ last → in_range (a, last) q ≡ (in_range (a, b) q || in_range (first, last) q)
joined_range a b first last q proper touch le = grind (arith, nat_tests)

or_assoc : (a b c : Bool) → (a || (b || c)) ≡ ((a || b) || c)
or_assoc true b c = refl
or_assoc false b c = refl

-- the last one, as far as one that touches it
pub in_joined : (before : List (ℕ × ℕ)) (r : ℕ × ℕ) (first last q : ℕ) → r.1 + 1 ≡ first → first ≤ last → AreRangesBelow first (before ++ r ∷ [])
    → is_in_ranges (before ++ (r.0, last) ∷ []) q ≡ (is_in_ranges (before ++ r ∷ []) q || in_range (first, last) q)
in_joined before r first last q touch le b =
    let proper : r.0 ≤ r.1 = of_last (λ (x : ℕ × ℕ). x.0 ≤ x.1) before r b.proper in
    in_pushed before (r.0, last) q
    ∙ (ap (λ v. is_in_ranges before q || v) (joined_range r.0 r.1 first last q proper touch le)
    ∙ (or_assoc (is_in_ranges before q) (in_range r q) (in_range (first, last) q)
    ∙ ap (λ v. v || in_range (first, last) q) (sym (in_pushed before r q))))

-- ---- the numbers that are decided

module _ {W : Type 0} {meaning : Header → Option W} {sides : Box5} where
  -- none at first
  pub open_at_start : (ranges : List (ℕ × ℕ)) → ranges ≡ [] → IsValid sides → AreOpenBelow meaning sides sides ranges
  open_at_start ranges none v = record {
    proto = refl;
    src = refl;
    dst = refl;
    p = refl;
    begins = omega arith;
    some = v.q;
    ends = refl;
    ranges_are = subst (AreRangesBelow sides.q.0) (sym none) (none_below sides.q.0);
    hold = λ q. (
      (λ t. let e = sym (ap (λ v. is_in_ranges v q) none) ∙ t in absurd cc),
      (λ o. let i = (in_from_holds o.1.header sides o.1.inside).q.0 in let e = o.1.port in let lt = o.0 in absurd (omega (arith, i, e, lt))),
    );
  }

  module _ {left : Box5} {old : List (ℕ × ℕ)} (b : AreOpenBelow meaning sides left old) where
    pub left_is_valid : IsValid sides → IsValid left
    left_is_valid v = record {
      proto = subst (λ (r : ℕ × ℕ). r.0 ≤ r.1) (sym b.proto) v.proto;
      src = subst (λ (r : ℕ × ℕ). r.0 ≤ r.1) (sym b.src) v.src;
      dst = subst (λ (r : ℕ × ℕ). r.0 ≤ r.1) (sym b.dst) v.dst;
      p = subst (λ (r : ℕ × ℕ). r.0 ≤ r.1) (sym b.p) v.p;
      q = b.some;
    }

    -- what is open in what is left is open in the sides
    open_in_sides : (q : ℕ) → IsOpenPort meaning left q → IsOpenPort meaning sides q
    open_in_sides q o =
        let h = o.header in
        let i = in_from_holds h left o.inside in
        record {
          header = h;
          inside = holds_from_in h sides (record {
            proto = subst (λ (r : ℕ × ℕ). (r.0 ≤ h.proto) × (h.proto ≤ r.1)) b.proto i.proto;
            src = subst (λ (r : ℕ × ℕ). (r.0 ≤ h.src) × (h.src ≤ r.1)) b.src i.src;
            dst = subst (λ (r : ℕ × ℕ). (r.0 ≤ h.dst) × (h.dst ≤ r.1)) b.dst i.dst;
            p = subst (λ (r : ℕ × ℕ). (r.0 ≤ h.p) × (h.p ≤ r.1)) b.p i.p;
            q = (let g = b.begins in let k = i.q.0 in omega (arith, g, k), let e = b.ends in let k = i.q.1 in omega (arith, e, k));
          });
          port = o.port;
          through = o.through;
        }

    -- and the other way round, from where it begins
    open_in_left : (q : ℕ) → left.q.0 ≤ q → IsOpenPort meaning sides q → IsOpenPort meaning left q
    open_in_left q ge o =
        let h = o.header in
        let i = in_from_holds h sides o.inside in
        record {
          header = h;
          inside = holds_from_in h left (record {
            proto = subst (λ (r : ℕ × ℕ). (r.0 ≤ h.proto) × (h.proto ≤ r.1)) (sym b.proto) i.proto;
            src = subst (λ (r : ℕ × ℕ). (r.0 ≤ h.src) × (h.src ≤ r.1)) (sym b.src) i.src;
            dst = subst (λ (r : ℕ × ℕ). (r.0 ≤ h.dst) × (h.dst ≤ r.1)) (sym b.dst) i.dst;
            p = subst (λ (r : ℕ × ℕ). (r.0 ≤ h.p) × (h.p ≤ r.1)) (sym b.p) i.p;
            q = (let e = o.port in omega (arith, ge, e), let e = b.ends in let k = i.q.1 in omega (arith, e, k));
          });
          port = o.port;
          through = o.through;
        }

    module _ (new : List (ℕ × ℕ)) (last : ℕ) (are_open : Bool) (d : AreDecided meaning left last are_open)
        (more : (q : ℕ) → is_in_ranges new q ≡ (is_in_ranges old q || (are_open && in_range (left.q.0, last) q))) where
      in_new : (q : ℕ) → is_in_ranges new q ≡ true → (q < last + 1) × IsOpenPort meaning sides q
      in_new q t =
          ⊎_elim
          (λ before. let o = (b.hold q).0 before in let lt = o.0 in let begins = d.begins in (omega (arith, lt, begins), o.1))
          (λ now.
          let both = and_parts are_open (in_range (left.q.0, last) q) now in
          let r = range_in (left.q.0, last) q both.1 in
          (omega (arith, r), open_in_sides q ((d.each q r.0 r.1).0 both.0)))
          (or_cases (is_in_ranges old q) (are_open && in_range (left.q.0, last) q) (sym (more q) ∙ t))

      held : (q : ℕ) → q < last + 1 → IsOpenPort meaning sides q → is_in_ranges new q ≡ true
      held q lt o =
          ⊎_elim
          (λ before. more q ∙ ap (λ v. v || (are_open && in_range (left.q.0, last) q)) ((b.hold q).1 (before, o)))
          (λ ge.
          let le : q ≤ last = omega (arith, lt) in
          more q ∙ or_right (is_in_ranges old q) (are_open && in_range (left.q.0, last) q)
          (ap (λ v. v && in_range (left.q.0, last) q) ((d.each q ge le).1 (open_in_left q ge o)) ∙ range_holds (left.q.0, last) q ge le))
          (cases_lt q left.q.0)

      -- more is decided
      pub open_more : AreRangesBelow (last + 1) new → last ≢ sides.q.1
          → AreOpenBelow meaning sides (record { proto = left.proto; src = left.src; dst = left.dst; p = left.p; q = (last + 1, left.q.1) }) new
      open_more below other = record {
        proto = b.proto;
        src = b.src;
        dst = b.dst;
        p = b.p;
        begins = let g = b.begins in let k = d.begins in omega (arith, g, k);
        some = let e = b.ends in let k = d.ends in omega (arith, e, k, other);
        ends = b.ends;
        ranges_are = below;
        hold = λ q. ((λ t. in_new q t), (λ o. held q o.0 o.1));
      }

      -- all is decided
      pub open_all : AreRangesBelow (last + 1) new → last ≡ sides.q.1 → AreOpenPorts meaning sides new
      open_all below end = record {
        proper = below.proper;
        ascending = below.ascending;
        hold = λ q. (
          (λ t. (in_new q t).1),
          (λ o. let i = (in_from_holds o.header sides o.inside).q.1 in let e = o.port in held q (omega (arith, i, e, end)) o),
        );
      }
