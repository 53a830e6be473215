-- What is left of a box.
use Rattle.std.proofs.Common.{◌≡◌, ℕ, ◌+◌, ◌*◌, ◌++◌, arith, ap, ◌∙◌, sum_by}
use Rattle.std.proofs.lemmas.List.Sums.{sum_by-append}
use Rattle.std.specs.List.{AllByRecursion}
use Rattle.header_boxes.specs.Boxes.{IsRangeWithin, IsWithin, width, volume_of}
use Rattle.header_boxes.specs.Rest.{outside, rest_of, off_proto, off_src, off_dst, off_p, off_q, with_proto, with_src, with_dst, with_p, with_q}
use Rattle.header_boxes.specs.declared.boxes.Box5.{Box5}
use Rattle.header_boxes.proofs.Ranges.{IsAdditive, IsLinear, linear_first, linear_under, linear_last, sum_by-map, adds_under, IsPiece, all_append, all_map, all_outside, width_adds}

-- a number for each side
pub record Measure : Type 0 where
  pub proto : ℕ × ℕ → ℕ
  pub src : ℕ × ℕ → ℕ
  pub dst : ℕ × ℕ → ℕ
  pub p : ℕ × ℕ → ℕ
  pub q : ℕ × ℕ → ℕ

-- each is the sum of those of the pieces
pub record AddsUp (m : Measure) : Type 0 where
  pub proto : IsAdditive m.proto
  pub src : IsAdditive m.src
  pub dst : IsAdditive m.dst
  pub p : IsAdditive m.p
  pub q : IsAdditive m.q

-- the product over the sides
abbrev pub total : Measure → Box5 → ℕ
total m b = m.proto b.proto * (m.src b.src * (m.dst b.dst * (m.p b.p * m.q b.q)))

sums_proto : (m : Measure) → IsAdditive m.proto → (w c : Box5) → IsRangeWithin c.proto w.proto → sum_by (total m) (off_proto w c) + total m (with_proto w c.proto) ≡ total m w
sums_proto m a w c within =
    let k = m.src w.src * (m.dst w.dst * (m.p w.p * m.q w.q)) in
    ap (λ v. v + total m (with_proto w c.proto)) (sum_by-map (with_proto w) (total m) (outside w.proto c.proto))
    ∙ adds_under m.proto a (λ t. t * k) (linear_first k) w.proto c.proto within

sums_src : (m : Measure) → IsAdditive m.src → (w c : Box5) → IsRangeWithin c.src w.src → sum_by (total m) (off_src w c) + total m (with_src w c.src) ≡ total m w
sums_src m a w c within =
    let k = m.dst w.dst * (m.p w.p * m.q w.q) in
    ap (λ v. v + total m (with_src w c.src)) (sum_by-map (with_src w) (total m) (outside w.src c.src))
    ∙ adds_under m.src a (λ t. m.proto w.proto * (t * k)) (linear_under (m.proto w.proto) (λ t. t * k) (linear_first k)) w.src c.src within

sums_dst : (m : Measure) → IsAdditive m.dst → (w c : Box5) → IsRangeWithin c.dst w.dst → sum_by (total m) (off_dst w c) + total m (with_dst w c.dst) ≡ total m w
sums_dst m a w c within =
    let k = m.p w.p * m.q w.q in
    let l2 : IsLinear (λ t. m.src w.src * (t * k)) = linear_under (m.src w.src) (λ t. t * k) (linear_first k) in
    ap (λ v. v + total m (with_dst w c.dst)) (sum_by-map (with_dst w) (total m) (outside w.dst c.dst))
    ∙ adds_under m.dst a (λ t. m.proto w.proto * (m.src w.src * (t * k))) (linear_under (m.proto w.proto) (λ t. m.src w.src * (t * k)) l2) w.dst c.dst within

sums_p : (m : Measure) → IsAdditive m.p → (w c : Box5) → IsRangeWithin c.p w.p → sum_by (total m) (off_p w c) + total m (with_p w c.p) ≡ total m w
sums_p m a w c within =
    let k = m.q w.q in
    let l3 : IsLinear (λ t. m.dst w.dst * (t * k)) = linear_under (m.dst w.dst) (λ t. t * k) (linear_first k) in
    let l2 : IsLinear (λ t. m.src w.src * (m.dst w.dst * (t * k))) = linear_under (m.src w.src) (λ t. m.dst w.dst * (t * k)) l3 in
    ap (λ v. v + total m (with_p w c.p)) (sum_by-map (with_p w) (total m) (outside w.p c.p))
    ∙ adds_under m.p a (λ t. m.proto w.proto * (m.src w.src * (m.dst w.dst * (t * k)))) (linear_under (m.proto w.proto) (λ t. m.src w.src * (m.dst w.dst * (t * k))) l2) w.p c.p within

sums_q : (m : Measure) → IsAdditive m.q → (w c : Box5) → IsRangeWithin c.q w.q → sum_by (total m) (off_q w c) + total m (with_q w c.q) ≡ total m w
sums_q m a w c within =
    let l4 : IsLinear (λ t. m.p w.p * t) = linear_under (m.p w.p) (λ t. t) linear_last in
    let l3 : IsLinear (λ t. m.dst w.dst * (m.p w.p * t)) = linear_under (m.dst w.dst) (λ t. m.p w.p * t) l4 in
    let l2 : IsLinear (λ t. m.src w.src * (m.dst w.dst * (m.p w.p * t))) = linear_under (m.src w.src) (λ t. m.dst w.dst * (m.p w.p * t)) l3 in
    ap (λ v. v + total m (with_q w c.q)) (sum_by-map (with_q w) (total m) (outside w.q c.q))
    ∙ adds_under m.q a (λ t. m.proto w.proto * (m.src w.src * (m.dst w.dst * (m.p w.p * t)))) (linear_under (m.proto w.proto) (λ t. m.src w.src * (m.dst w.dst * (m.p w.p * t))) l2) w.q c.q within

-- what is left and the part add up to the whole
pub sum_by-rest_of : (m : Measure) → AddsUp m → (w c : Box5) → IsWithin c w → sum_by (total m) (rest_of w c) + total m c ≡ total m w
sum_by-rest_of m a w c within =
    let w1 = with_proto w c.proto in
    let w2 = with_src w1 c.src in
    let w3 = with_dst w2 c.dst in
    let w4 = with_p w3 c.p in
    let a1 = sums_proto m a.proto w c within.proto in
    let a2 = sums_src m a.src w1 c within.src in
    let a3 = sums_dst m a.dst w2 c within.dst in
    let a4 = sums_p m a.p w3 c within.p in
    let a5 = sums_q m a.q w4 c within.q in
    let s1 = sum_by-append (total m) (off_proto w c) (off_src w1 c ++ (off_dst w2 c ++ (off_p w3 c ++ off_q w4 c))) in
    let s2 = sum_by-append (total m) (off_src w1 c) (off_dst w2 c ++ (off_p w3 c ++ off_q w4 c)) in
    let s3 = sum_by-append (total m) (off_dst w2 c) (off_p w3 c ++ off_q w4 c) in
    let s4 = sum_by-append (total m) (off_p w3 c) (off_q w4 c) in
    omega (arith, a1, a2, a3, a4, a5, s1, s2, s3, s4)

pub volumes_rest : (w c : Box5) → IsWithin c w → sum_by volume_of (rest_of w c) + volume_of c ≡ volume_of w
volumes_rest = sum_by-rest_of (record { proto = width; src = width; dst = width; p = width; q = width }) (record { proto = width_adds; src = width_adds; dst = width_adds; p = width_adds; q = width_adds })

-- a relation between a side of the whole, of the part and of a box that is left
pub record IsKept (R : ℕ × ℕ → ℕ × ℕ → ℕ × ℕ → Type 0) (w c : ℕ × ℕ) : Type 0 where
  pub whole : R w c w
  pub part : R w c c
  pub piece : (r : ℕ × ℕ) → IsPiece w c r → R w c r

-- it stands between all sides
pub record OnSides (R : ℕ × ℕ → ℕ × ℕ → ℕ × ℕ → Type 0) (w c b : Box5) : Type 0 where
  pub proto : R w.proto c.proto b.proto
  pub src : R w.src c.src b.src
  pub dst : R w.dst c.dst b.dst
  pub p : R w.p c.p b.p
  pub q : R w.q c.q b.q

-- what is kept on each side holds of each box that is left
pub all_rest : (R : ℕ × ℕ → ℕ × ℕ → ℕ × ℕ → Type 0) (w c : Box5) → IsKept R w.proto c.proto → IsKept R w.src c.src → IsKept R w.dst c.dst → IsKept R w.p c.p → IsKept R w.q c.q
    → AllByRecursion (OnSides R w c) (rest_of w c)
all_rest R w c k1 k2 k3 k4 k5 =
    let w1 = with_proto w c.proto in
    let w2 = with_src w1 c.src in
    let w3 = with_dst w2 c.dst in
    let w4 = with_p w3 c.p in
    all_append (OnSides R w c) _ _
    (all_map (IsPiece w.proto c.proto) (OnSides R w c) (with_proto w) (λ r h. record { proto = k1.piece r h; src = k2.whole; dst = k3.whole; p = k4.whole; q = k5.whole }) (outside w.proto c.proto) (all_outside w.proto c.proto))
    (all_append (OnSides R w c) _ _
    (all_map (IsPiece w.src c.src) (OnSides R w c) (with_src w1) (λ r h. record { proto = k1.part; src = k2.piece r h; dst = k3.whole; p = k4.whole; q = k5.whole }) (outside w.src c.src) (all_outside w.src c.src))
    (all_append (OnSides R w c) _ _
    (all_map (IsPiece w.dst c.dst) (OnSides R w c) (with_dst w2) (λ r h. record { proto = k1.part; src = k2.part; dst = k3.piece r h; p = k4.whole; q = k5.whole }) (outside w.dst c.dst) (all_outside w.dst c.dst))
    (all_append (OnSides R w c) _ _
    (all_map (IsPiece w.p c.p) (OnSides R w c) (with_p w3) (λ r h. record { proto = k1.part; src = k2.part; dst = k3.part; p = k4.piece r h; q = k5.whole }) (outside w.p c.p) (all_outside w.p c.p))
    (all_map (IsPiece w.q c.q) (OnSides R w c) (with_q w4) (λ r h. record { proto = k1.part; src = k2.part; dst = k3.part; p = k4.part; q = k5.piece r h }) (outside w.q c.q) (all_outside w.q c.q)))))
