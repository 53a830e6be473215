-- What is left of a box beside a part that begins where it begins.
use Rattle.std.proofs.Common.{◌≡◌, ℕ, ◌<◌, ◌+◌, ◌-◌, ◌++◌, Bool, true, false, nat_lt, if◌then◌else◌, List, [], ◌∷◌, map, max, min, refl, ap, sym, subst, sum_by, ◌∙◌, arith}
use Rattle.vpc_base.proofs.Lemmas.{append-nil, nat_tests, sum_by-append, sum_by-cons}
use Rattle.vpc_base.specs.Cuts.{CutLists}
use Rattle.vpc_base.specs.declared.headers.Header.{Header}
use Rattle.header_boxes.specs.Boxes.{IsRangeWithin, IsValid, IsWithin, common_box, common_range, holds, low_of, volume_of}
use Rattle.header_boxes.specs.Cells.{IsAligned}
use Rattle.header_boxes.specs.Rest.{outside, rest_of, with_proto, with_src, with_dst, with_p, with_q}
use Rattle.header_boxes.specs.declared.boxes.Box5.{Box5}
use Rattle.header_boxes.proofs.Held.{holds_low, valid_if_within}
use Rattle.header_boxes.proofs.Lemmas.{volume_is_positive}
use Rattle.header_boxes.proofs.Left.{IsLeft, left_after, left_aligned, left_of_common}
use Rattle.ordered_cover.specs.Beside.{beside}
use Rattle.ordered_cover.specs.Open.{AreRest}
use Rattle.ordered_cover.proofs.Rests.{holders_rest}

-- ---- a part is what it shares with its whole

abbrev pub box_of : ℕ × ℕ → ℕ × ℕ → ℕ × ℕ → ℕ × ℕ → ℕ × ℕ → Box5
box_of proto src dst p q = record { proto = proto; src = src; dst = dst; p = p; q = q }

pub same_box_of : {a a2 b b2 c c2 d d2 e e2 : ℕ × ℕ} → a ≡ a2 → b ≡ b2 → c ≡ c2 → d ≡ d2 → e ≡ e2 → box_of a b c d e ≡ box_of a2 b2 c2 d2 e2
same_box_of {a} {a2} {b} {b2} {c} {c2} {d} {d2} {e} {e2} same_a same_b same_c same_d same_e =
    ap (λ v. box_of v b c d e) same_a ∙ (ap (λ v. box_of a2 v c d e) same_b ∙ (ap (λ v. box_of a2 b2 v d e) same_c ∙ (ap (λ v. box_of a2 b2 c2 v e) same_d ∙ ap (λ v. box_of a2 b2 c2 d2 v) same_e)))

common_range-within : (w c : ℕ × ℕ) → IsRangeWithin c w → common_range w c ≡ c
common_range-within w c k =
    let b = k.begins in
    let e = k.ends in
    let low : max w.0 c.0 ≡ c.0 = omega (arith, b) in
    let high : min w.1 c.1 ≡ c.1 = omega (arith, e) in
    ap (λ (x : ℕ). (x, min w.1 c.1)) low ∙ ap (λ (x : ℕ). (c.0, x)) high

common_box-within : (w c : Box5) → IsWithin c w → common_box w c ≡ c
common_box-within w c k =
    same_box_of (common_range-within w.proto c.proto k.proto) (common_range-within w.src c.src k.src) (common_range-within w.dst c.dst k.dst)
    (common_range-within w.p c.p k.p) (common_range-within w.q c.q k.q)

-- ---- side by side

-- nothing is left before a part that begins where the whole begins
map-outside : (f : ℕ × ℕ → Box5) (w c : ℕ × ℕ) → c.0 ≡ w.0 → map f (outside w c) ≡ (if nat_lt c.1 w.1 then f (c.1 + 1, w.1) ∷ [] else [])
map-outside f w c same = by (nat_lt w.0 c.0) (nat_lt c.1 w.1) (grind (arith, nat_tests))
  where
    by : (s t : Bool) → s ≡ false → map f ((if s then (w.0, c.0 - 1) ∷ [] else []) ++ (if t then (c.1 + 1, w.1) ∷ [] else [])) ≡ (if t then f (c.1 + 1, w.1) ∷ [] else [])
    by true t e = absurd cc
    by false true e = refl
    by false false e = refl

both_lists : {X : Type 0} {xs xs2 ys ys2 : List X} → xs ≡ xs2 → ys ≡ ys2 → xs ++ ys ≡ xs2 ++ ys2
both_lists {xs2 = xs2} {ys = ys} e f = ap (λ v. v ++ ys) e ∙ ap (λ v. xs2 ++ v) f

rest_of-low : (w c : Box5) → low_of c ≡ low_of w → rest_of w c ≡ beside w c
rest_of-low w c low =
    let w1 = with_proto w c.proto in
    let w2 = with_src w1 c.src in
    let w3 = with_dst w2 c.dst in
    let w4 = with_p w3 c.p in
    both_lists (map-outside (with_proto w) w.proto c.proto (ap (λ (h : Header). h.proto) low))
    (both_lists (map-outside (with_src w1) w.src c.src (ap (λ (h : Header). h.src) low))
    (both_lists (map-outside (with_dst w2) w.dst c.dst (ap (λ (h : Header). h.dst) low))
    (both_lists (map-outside (with_p w3) w.p c.p (ap (λ (h : Header). h.p) low))
    (map-outside (with_q w4) w.q c.q (ap (λ (h : Header). h.q) low) ∙ sym (append-nil _)))))

-- ---- all of it

left_beside : (w c : Box5) → IsWithin c w → low_of c ≡ low_of w → IsLeft w c (beside w c)
left_beside w c within low =
    let shared = common_box-within w c within in
    let valid = subst IsValid (sym shared) (valid_if_within c w within) in
    subst (IsLeft w c) (ap (rest_of w) shared ∙ rest_of-low w c low) (left_of_common w c valid)

pub rest_beside : (cuts : CutLists) (w c : Box5) → IsWithin c w → low_of c ≡ low_of w → IsAligned cuts c w → AreRest cuts w c (beside w c)
rest_beside cuts w c within low aligned =
    let left = left_beside w c within low in
    let begins : holds (low_of w) c ≡ true = subst (λ h. holds h c ≡ true) low (holds_low c (valid_if_within c w within)) in
    record {
      each = holders_rest w c (beside w c) within left.disjoint left.held;
      within = left.within;
      aligned = left_aligned w c (beside w c) left cuts aligned;
      after = left_after w c (beside w c) left begins;
      volume = left.volume within;
    }

-- boxes of which the last one is cut down to a part hold fewer headers
pub volume-beside : (before : List Box5) (w c : Box5) → IsWithin c w → low_of c ≡ low_of w → sum_by volume_of (before ++ beside w c) < sum_by volume_of (before ++ w ∷ [])
volume-beside before w c within low =
    let left = left_beside w c within low in
    let v = left.volume within in
    let some = volume_is_positive c (valid_if_within c w within) in
    let a = sum_by-append volume_of before (beside w c) in
    let b = sum_by-append volume_of before (w ∷ []) in
    let d = sum_by-cons volume_of w [] in
    omega (arith, v, some, a, b, d)
