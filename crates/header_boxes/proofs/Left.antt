-- What is left of a box without a part, which need not lie in it.
use Rattle.std.proofs.Common.{◌≡◌, ℕ, ◌≤◌, ◌+◌, ◌&&◌, ◌||◌, not, Bool, true, false, List, [], ◌∷◌, refl, arith, ap, sym, subst, ◌∙◌, sum_by, slice_index_or, inl, inr, ⊎_elim}
use Rattle.std.proofs.lemmas.Bool.{cases_lt}
use Rattle.std.proofs.lemmas.List.Folds.{list_any_at}
use Rattle.std.proofs.lemmas.List.Elements.{All-from_recursion}
use Rattle.std.specs.List.{list_any, AllPairs, All, Contains}
use Rattle.vpc_base.specs.Cuts.{CutLists, IsSideAligned}
use Rattle.vpc_base.specs.declared.headers.Header.{Header}
use Rattle.vpc_base.specs.Header.{IsBefore}
use Rattle.header_boxes.specs.declared.boxes.Box5.{Box5}
use Rattle.header_boxes.specs.Boxes.{holds, IsValid, IsRangeWithin, IsWithin, AreDisjoint, low_of, common_range, common_box, width, volume_of}
use Rattle.header_boxes.specs.Cells.{IsAligned}
use Rattle.header_boxes.specs.Minus.{HasSideOf, HasSidesOf}
use Rattle.header_boxes.specs.Rest.{rest_of}
use Rattle.header_boxes.proofs.Held.{holds_low, valid_if_holds, holds_whole, low_under, valid_if_within, within_itself, any_rest, disjoint_rest, holds-common_box, common_within_first, common_within_second}
use Rattle.header_boxes.proofs.Order.{IsUnder, before_if_under}
use Rattle.header_boxes.proofs.Ranges.{IsPiece}
use Rattle.header_boxes.proofs.Rests.{IsKept, OnSides, all_rest, volumes_rest}

-- ---- the sides of what is left

-- a side lies in that of the whole, and begins and ends where one may
record IsSideLeft (w c r : ℕ × ℕ) : Type 0 where
  within : IsRangeWithin r w
  ends : HasSideOf w c r

piece_left : (w c r : ℕ × ℕ) → IsRangeWithin c w → IsPiece w c r → IsSideLeft w c r
piece_left w c r k h =
    let a = k.begins in
    let b = k.valid in
    let d = k.ends in
    ⊎_elim
    (λ below. record {
      within = record { begins = omega (arith, below.0); valid = h.0; ends = omega (arith, below.1) };
      ends = record { begins = inl below.0; ends = inr (inr below.1) };
    })
    (λ above. record {
      within = record { begins = omega (arith, above.0); valid = h.0; ends = omega (arith, above.1) };
      ends = record { begins = inr (inr above.0); ends = inl above.1 };
    })
    h.1

sides_kept : (w c : ℕ × ℕ) → IsRangeWithin c w → IsKept IsSideLeft w c
sides_kept w c k = record {
  whole = record {
    within = record { begins = omega arith; valid = (let a = k.begins in let b = k.valid in let d = k.ends in omega arith); ends = omega arith };
    ends = record { begins = inl refl; ends = inl refl };
  };
  part = record { within = k; ends = record { begins = inr (inl refl); ends = inr (inl refl) } };
  piece = λ r h. piece_left w c r k h;
}

-- the sides of the common part are those of the whole or of the part
side_of_part : (w c r : ℕ × ℕ) → IsSideLeft w (common_range w c) r → HasSideOf w c r
side_of_part w c r k =
    let a = k.within.begins in
    let b = k.within.valid in
    let d = k.within.ends in
    record {
      begins = ⊎_elim inl
          (⊎_elim
          (λ e. ⊎_elim (λ lt. inr (inl (omega (arith, e, lt)))) (λ ge. inl (omega (arith, e, ge))) (cases_lt w.0 c.0))
          (λ e. ⊎_elim (λ lt. inr (inr (omega (arith, e, lt)))) (λ ge. absurd (omega (arith, e, ge, b, d))) (cases_lt c.1 w.1)))
          k.ends.begins;
      ends = ⊎_elim inl
          (⊎_elim
          (λ e. ⊎_elim (λ lt. inr (inl (omega (arith, e, lt)))) (λ ge. inl (omega (arith, e, ge))) (cases_lt c.1 w.1))
          (λ e. ⊎_elim (λ lt. inr (inr (omega (arith, e, lt)))) (λ ge. absurd (omega (arith, e, ge, a, b))) (cases_lt w.0 c.0)))
          k.ends.ends;
    }

all_left : (w c : Box5) → IsWithin c w → All (OnSides IsSideLeft w c) (rest_of w c)
all_left w c k =
    All-from_recursion (OnSides IsSideLeft w c) (rest_of w c)
    (all_rest IsSideLeft w c (sides_kept w.proto c.proto k.proto) (sides_kept w.src c.src k.src) (sides_kept w.dst c.dst k.dst) (sides_kept w.p c.p k.p) (sides_kept w.q c.q k.q))

within_left : (w c b : Box5) → OnSides IsSideLeft w c b → IsWithin b w
within_left w c b k = record { proto = k.proto.within; src = k.src.within; dst = k.dst.within; p = k.p.within; q = k.q.within }

sides_left : (w c b : Box5) → OnSides IsSideLeft w (common_box w c) b → HasSidesOf w c b
sides_left w c b k = record {
  proto = side_of_part w.proto c.proto b.proto k.proto;
  src = side_of_part w.src c.src b.src k.src;
  dst = side_of_part w.dst c.dst b.dst k.dst;
  p = side_of_part w.p c.p b.p k.p;
  q = side_of_part w.q c.q b.q k.q;
}

-- ---- alignment

side_aligned_left : (cuts : List ℕ) (w c r : ℕ × ℕ) → IsSideAligned cuts c w → IsRangeWithin r w → HasSideOf w c r → IsSideAligned cuts r w
side_aligned_left cuts w c r aligned within side =
    let a = within.begins in
    let b = within.valid in
    let d = within.ends in
    record {
      begins = ⊎_elim inl
          (⊎_elim
          (λ e. ⊎_elim (λ f. inl (e ∙ f)) (λ f. inr (subst (λ (t : ℕ). Contains cuts t) (sym e) f)) aligned.begins)
          (λ e. ⊎_elim (λ f. absurd (omega (arith, e, f, b, d))) (λ f. inr (subst (λ (t : ℕ). Contains cuts t) (sym e) f)) aligned.ends))
          side.begins;
      ends = ⊎_elim inl
          (⊎_elim
          (λ e. ⊎_elim (λ f. inl (e ∙ f)) (λ f. inr (subst (λ (t : ℕ). Contains cuts (t + 1)) (sym e) f)) aligned.ends)
          (λ e. ⊎_elim (λ f. absurd (omega (arith, e, f, a, b))) (λ f. inr (subst (λ (t : ℕ). Contains cuts t) (sym e) f)) aligned.begins))
          side.ends;
    }

-- a box within the whole whose sides are those of the whole or next to those of an aligned part is aligned too
pub aligned_left : (cuts : CutLists) (w c b : Box5) → IsAligned cuts c w → IsWithin b w → HasSidesOf w c b → IsAligned cuts b w
aligned_left cuts w c b aligned within sides = record {
  proto = side_aligned_left cuts.proto w.proto c.proto b.proto aligned.proto within.proto sides.proto;
  src = side_aligned_left cuts.addr w.src c.src b.src aligned.src within.src sides.src;
  dst = side_aligned_left cuts.addr w.dst c.dst b.dst aligned.dst within.dst sides.dst;
  p = side_aligned_left cuts.p w.p c.p b.p aligned.p within.p sides.p;
  q = side_aligned_left cuts.q w.q c.q b.q aligned.q within.q sides.q;
}

-- ---- the order of the low corners

low_under_low : (b w : Box5) → IsWithin b w → IsUnder (low_of w) (low_of b)
low_under_low b w k = record { proto = k.proto.begins; src = k.src.begins; dst = k.dst.begins; p = k.p.begins; q = k.q.begins }

IsUnder-trans : {a b c : Header} → IsUnder a b → IsUnder b c → IsUnder a c
IsUnder-trans k l = record {
  proto = le k.proto l.proto;
  src = le k.src l.src;
  dst = le k.dst l.dst;
  p = le k.p l.p;
  q = le k.q l.q;
}
  where
    le : {x y z : ℕ} → x ≤ y → y ≤ z → x ≤ z
    le h k = omega arith

-- a box within the whole whose low corner lies outside the part comes after the part, where that holds the whole's low corner
pub low_after : (w c b : Box5) → IsWithin b w → holds (low_of w) c ≡ true → holds (low_of b) c ≡ false → IsBefore (low_of c) (low_of b)
low_after w c b within first out =
    before_if_under (low_of c) (low_of b) (IsUnder-trans (low_under (low_of w) c first) (low_under_low b w within))
    (λ same.
    let h : holds (low_of c) c ≡ true = holds_low c (valid_if_holds (low_of w) c first) in
    let e : true ≡ false = sym h ∙ ap (λ t. holds t c) same ∙ out in
    cc)

-- ---- all of it

-- what `minus` promises of the boxes that are left
pub record IsLeft (w c : Box5) (boxes : List Box5) : Type 0 where
  pub within : All (λ b. IsWithin b w) boxes
  pub disjoint : AllPairs AreDisjoint boxes
  pub held : (h : Header) → list_any (holds h) boxes ≡ (holds h w && not (holds h c))
  pub sides : All (HasSidesOf w c) boxes
  pub alone : AreDisjoint w c → boxes ≡ w ∷ []
  pub volume : IsWithin c w → sum_by volume_of boxes + volume_of c ≡ volume_of w

and_not : (w c : Bool) → (w && not (w && c)) ≡ (w && not c)
and_not true c = refl
and_not false c = refl

common_width : (w c : ℕ × ℕ) → IsRangeWithin c w → width (common_range w c) ≡ width c
common_width w c k = let a = k.begins in let b = k.valid in let d = k.ends in omega arith

common_volume : (w c : Box5) → IsWithin c w → volume_of (common_box w c) ≡ volume_of c
common_volume w c k =
    rw (common_width w.proto c.proto k.proto, common_width w.src c.src k.src, common_width w.dst c.dst k.dst, common_width w.p c.p k.p, common_width w.q c.q k.q) refl

pub left_of_common : (w c : Box5) → IsValid (common_box w c) → IsLeft w c (rest_of w (common_box w c))
left_of_common w c valid =
    let m = common_box w c in
    let within : IsWithin m w = common_within_first w c valid in
    let kept = all_left w m within in
    record {
      within = λ k d at. within_left w m (slice_index_or (rest_of w m) k d) (kept k d at);
      disjoint = disjoint_rest w m within;
      held = λ h. any_rest w m within h ∙ ap (λ t. holds h w && not t) (holds-common_box h w c) ∙ and_not (holds h w) (holds h c);
      sides = λ k d at. sides_left w c (slice_index_or (rest_of w m) k d) (kept k d at);
      alone = λ apart. absurd (shared apart);
      volume = λ inside. let e = common_volume w c inside in let v = volumes_rest w m within in omega (arith, e, v);
    }
  where
    shared : AreDisjoint w c → ⊥
    shared apart =
        let m = common_box w c in
        let h : holds (low_of m) m ≡ true = holds_low m valid in
        apart (low_of m) (holds_whole (low_of m) m w (common_within_first w c valid) h) (holds_whole (low_of m) m c (common_within_second w c valid) h)

only_one : {X : Type 0} (P : X → Type 0) (x : X) → P x → All P (x ∷ [])
only_one P x p = All-from_recursion P (x ∷ []) (p, tt)

pub left_alone : (w c : Box5) → IsValid w → AreDisjoint w c → IsLeft w c (w ∷ [])
left_alone w c valid apart = record {
  within = only_one (λ b. IsWithin b w) w (within_itself w valid);
  disjoint = λ i j d lt at. absurd (omega arith);
  held = λ h. one (holds h w) (holds h c) (apart h);
  sides = only_one (HasSidesOf w c) w (record { proto = same w.proto c.proto; src = same w.src c.src; dst = same w.dst c.dst; p = same w.p c.p; q = same w.q c.q });
  alone = λ a. refl;
  volume = λ inside. absurd (apart (low_of c) (holds_whole (low_of c) c w inside (holds_low c (valid_if_within c w inside))) (holds_low c (valid_if_within c w inside)));
}
  where
    one : (s t : Bool) → (s ≡ true → t ≡ true → ⊥) → (s || false) ≡ (s && not t)
    one true true apart = absurd (apart refl refl)
    one true false apart = refl
    one false t apart = refl

    same : (w c : ℕ × ℕ) → HasSideOf w c w
    same w c = record { begins = inl refl; ends = inl refl }

pub left_valid : (w c : Box5) (boxes : List Box5) → IsLeft w c boxes → All IsValid boxes
left_valid w c boxes left k d at = valid_if_within (slice_index_or boxes k d) w (left.within k d at)

-- what follows: the boxes come after the part, and are aligned where the part is
pub left_after : (w c : Box5) (boxes : List Box5) → IsLeft w c boxes → holds (low_of w) c ≡ true → All (λ b. IsBefore (low_of c) (low_of b)) boxes
left_after w c boxes left first k d at =
    let b = slice_index_or boxes k d in
    let within : IsWithin b w = left.within k d at in
    let mine : holds (low_of b) b ≡ true = holds_low b (valid_if_within b w within) in
    let some : (holds (low_of b) w && not (holds (low_of b) c)) ≡ true = sym (left.held (low_of b)) ∙ list_any_at (holds (low_of b)) boxes k d at mine in
    low_after w c b within first (outside (holds (low_of b) w) (holds (low_of b) c) some)
  where
    outside : (s t : Bool) → (s && not t) ≡ true → t ≡ false
    outside true true e = sym e
    outside true false e = refl
    outside false t e = cc

pub left_aligned : (w c : Box5) (boxes : List Box5) → IsLeft w c boxes → (cuts : CutLists) → IsAligned cuts c w → All (λ b. IsAligned cuts b w) boxes
left_aligned w c boxes left cuts aligned k d at = aligned_left cuts w c (slice_index_or boxes k d) aligned (left.within k d at) (left.sides k d at)
