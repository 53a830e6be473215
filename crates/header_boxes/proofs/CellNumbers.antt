-- The numbers of cells, and aligned boxes.
use Rattle.std.proofs.Common.{◌≡◌, ℕ, ◌≤◌, ◌<◌, ◌+◌, ◌*◌, ◌&&◌, nat_le, nat_lt, true, false, List, refl, arith, ap, sym, subst, ◌∙◌, slice_index_or, inl, inr, ⊎_elim}
use Rattle.std.proofs.Math.Arith.{digits_lt}
use Rattle.std.proofs.Math.Nat.{mul_assoc}
use Rattle.std.proofs.lemmas.Bool.{cases_lt}
use Rattle.std.proofs.lemmas.Bool.Decides.{nat_tests}
use Rattle.std.proofs.lemmas.List.{get_or_default}
use Rattle.std.proofs.lemmas.Nat.{same_from_place}
use Rattle.std.specs.List.{Contains}
use Rattle.vpc_base.specs.Cuts.{CutLists, AreAmong, IsSideAligned}
use Rattle.vpc_base.specs.declared.headers.Header.{Header}
use Rattle.header_boxes.specs.declared.boxes.Box5.{Box5}
use Rattle.header_boxes.specs.Boxes.{holds, low_of, IsRangeWithin, IsWithin}
use Rattle.header_boxes.specs.Cells.{IsAligned, EndsAligned, piece_of, pieces_of, cell_of, cells_of}
use Rattle.header_boxes.proofs.Held.{in_from_holds, holds_from_in}
use Rattle.header_boxes.proofs.Pieces.{count_by-le, count_by-lt}

-- ---- pieces of a side

-- a later number is in the same piece or a later one
piece_of-le : (cuts : List ℕ) (r : ℕ × ℕ) (x y : ℕ) → x ≤ y → piece_of cuts r x ≤ piece_of cuts r y
piece_of-le cuts r x y le =
    count_by-le (λ c. nat_lt r.0 c && nat_le c x) (λ c. nat_lt r.0 c && nat_le c y) cuts (λ k d at. passes r.0 (slice_index_or cuts k d) x y le)
  where
    passes : (a c x y : ℕ) → x ≤ y → (nat_lt a c && nat_le c x) ≡ true → (nat_lt a c && nat_le c y) ≡ true
    passes a c x y le e = grind (arith, nat_tests)

-- a cut between two numbers puts them into different pieces
piece_of-lt : (cuts : List ℕ) (r : ℕ × ℕ) (x y c : ℕ) → Contains cuts c → r.0 ≤ x → x < c → c ≤ y → piece_of cuts r x < piece_of cuts r y
piece_of-lt cuts r x y c there first before after =
    let e : slice_index_or cuts there.0 0 ≡ c = sym (get_or_default cuts there.0 c 0 there.1) ∙ there.2 in
    count_by-lt (λ c. nat_lt r.0 c && nat_le c x) (λ c. nat_lt r.0 c && nat_le c y) cuts there.0 there.1
    (λ k d at. passes r.0 (slice_index_or cuts k d) x y (omega arith))
    (fails r.0 (slice_index_or cuts there.0 0) x (omega arith))
    (found r.0 (slice_index_or cuts there.0 0) y (omega arith) (omega arith))
  where
    passes : (a c x y : ℕ) → x ≤ y → (nat_lt a c && nat_le c x) ≡ true → (nat_lt a c && nat_le c y) ≡ true
    passes a c x y le e = grind (arith, nat_tests)

    fails : (a c x : ℕ) → x < c → (nat_lt a c && nat_le c x) ≡ false
    fails a c x lt = grind (arith, nat_tests)

    found : (a c y : ℕ) → a < c → c ≤ y → (nat_lt a c && nat_le c y) ≡ true
    found a c y lt le = grind (arith, nat_tests)

-- the pieces of a range are numbered below their count
piece_of-lt-pieces_of : (cuts : List ℕ) (r : ℕ × ℕ) (x : ℕ) → x ≤ r.1 → piece_of cuts r x < pieces_of cuts r
piece_of-lt-pieces_of cuts r x le = let k = piece_of-le cuts r x r.1 le in omega arith

-- an aligned side holds the whole piece of each of its numbers
whole_piece : (cuts : List ℕ) (part whole : ℕ × ℕ) (x y : ℕ) → IsRangeWithin part whole → IsSideAligned cuts part whole
    → (part.0 ≤ x) × (x ≤ part.1) → (whole.0 ≤ y) × (y ≤ whole.1) → piece_of cuts whole y ≡ piece_of cuts whole x → (part.0 ≤ y) × (y ≤ part.1)
whole_piece cuts part whole x y within aligned inside around same =
    let a = within.begins in
    let b = within.ends in (
      ⊎_elim
          (λ lt. ⊎_elim
          (λ e. absurd (omega arith))
          (λ cut. let k = piece_of-lt cuts whole y x part.0 cut around.0 lt inside.0 in absurd (omega arith))
          aligned.begins)
          (λ ge. ge)
          (cases_lt y part.0),
      ⊎_elim
          (λ lt. ⊎_elim
          (λ e. absurd (omega arith))
          (λ cut. let k = piece_of-lt cuts whole x y (part.1 + 1) cut (omega arith) (omega arith) (omega arith) in absurd (omega arith))
          aligned.ends)
          (λ ge. ge)
          (cases_lt part.1 y),
    )

-- ---- numbers with digits

products_same : (a b c d e : ℕ) → (((a * b) * c) * d) * e ≡ a * (b * (c * (d * e)))
products_same a b c d e =
    mul_assoc ((a * b) * c) d e ∙ mul_assoc (a * b) c (d * e) ∙ mul_assoc a b (c * (d * e))

-- ---- cells

-- each header of the box is in a cell
pub cell_of-lt-cells_of : (cuts : CutLists) (b : Box5) (h : Header) → holds h b ≡ true → cell_of cuts b h < cells_of cuts b
cell_of-lt-cells_of cuts b h t =
    let i = in_from_holds h b t in
    let k1 = piece_of-lt-pieces_of cuts.proto b.proto h.proto i.proto.1 in
    let k2 = digits_lt k1 (piece_of-lt-pieces_of cuts.addr b.src h.src i.src.1) in
    let k3 = digits_lt k2 (piece_of-lt-pieces_of cuts.addr b.dst h.dst i.dst.1) in
    let k4 = digits_lt k3 (piece_of-lt-pieces_of cuts.p b.p h.p i.p.1) in
    let k5 = digits_lt k4 (piece_of-lt-pieces_of cuts.q b.q h.q i.q.1) in
    subst (λ (n : ℕ). cell_of cuts b h < n) (products_same (pieces_of cuts.proto b.proto) (pieces_of cuts.addr b.src) (pieces_of cuts.addr b.dst) (pieces_of cuts.p b.p) (pieces_of cuts.q b.q)) k5

-- an aligned part holds the whole cell of each of its headers
pub whole_cell : (cuts : CutLists) (part whole : Box5) (g h : Header) → IsWithin part whole → IsAligned cuts part whole → holds g part ≡ true → holds h whole ≡ true
    → cell_of cuts whole h ≡ cell_of cuts whole g → holds h part ≡ true
whole_cell cuts part whole g h within aligned inside around same =
    let i = in_from_holds g part inside in
    let o = in_from_holds h whole around in
    let lt_g = λ (cuts : List ℕ) (c w : ℕ × ℕ) (x : ℕ) (k : IsRangeWithin c w) (l : (c.0 ≤ x) × (x ≤ c.1)). piece_of-lt-pieces_of cuts w x (wider c w x k l) in
    let d5 = same_from_place _ _ _ _ (pieces_of cuts.q whole.q) (piece_of-lt-pieces_of cuts.q whole.q h.q o.q.1) (lt_g cuts.q part.q whole.q g.q within.q i.q) same in
    let d4 = same_from_place _ _ _ _ (pieces_of cuts.p whole.p) (piece_of-lt-pieces_of cuts.p whole.p h.p o.p.1) (lt_g cuts.p part.p whole.p g.p within.p i.p) d5.0 in
    let d3 = same_from_place _ _ _ _ (pieces_of cuts.addr whole.dst) (piece_of-lt-pieces_of cuts.addr whole.dst h.dst o.dst.1) (lt_g cuts.addr part.dst whole.dst g.dst within.dst i.dst) d4.0 in
    let d2 = same_from_place _ _ _ _ (pieces_of cuts.addr whole.src) (piece_of-lt-pieces_of cuts.addr whole.src h.src o.src.1) (lt_g cuts.addr part.src whole.src g.src within.src i.src) d3.0 in
    holds_from_in h part (record {
      proto = whole_piece cuts.proto part.proto whole.proto g.proto h.proto within.proto aligned.proto i.proto o.proto d2.0;
      src = whole_piece cuts.addr part.src whole.src g.src h.src within.src aligned.src i.src o.src d2.1;
      dst = whole_piece cuts.addr part.dst whole.dst g.dst h.dst within.dst aligned.dst i.dst o.dst d3.1;
      p = whole_piece cuts.p part.p whole.p g.p h.p within.p aligned.p i.p o.p d4.1;
      q = whole_piece cuts.q part.q whole.q g.q h.q within.q aligned.q i.q o.q d5.1;
    })
  where
    wider : (c w : ℕ × ℕ) (x : ℕ) → IsRangeWithin c w → (c.0 ≤ x) × (x ≤ c.1) → x ≤ w.1
    wider c w x k l = let a = k.ends in omega arith

-- ---- aligned to a middle box, and to more cuts

side_through : (cuts : List ℕ) (part middle whole : ℕ × ℕ) → IsSideAligned cuts part middle → IsSideAligned cuts middle whole → IsSideAligned cuts part whole
side_through cuts part middle whole a b = record {
  begins = ⊎_elim
      (λ e. ⊎_elim (λ f. inl (e ∙ f)) (λ f. inr (subst (λ (t : ℕ). Contains cuts t) (sym e) f)) b.begins)
      inr a.begins;
  ends = ⊎_elim
      (λ e. ⊎_elim (λ f. inl (e ∙ f)) (λ f. inr (subst (λ (t : ℕ). Contains cuts (t + 1)) (sym e) f)) b.ends)
      inr a.ends;
}

pub aligned_through : (cuts : CutLists) (part middle whole : Box5) → IsAligned cuts part middle → IsAligned cuts middle whole → IsAligned cuts part whole
aligned_through cuts part middle whole a b = record {
  proto = side_through cuts.proto part.proto middle.proto whole.proto a.proto b.proto;
  src = side_through cuts.addr part.src middle.src whole.src a.src b.src;
  dst = side_through cuts.addr part.dst middle.dst whole.dst a.dst b.dst;
  p = side_through cuts.p part.p middle.p whole.p a.p b.p;
  q = side_through cuts.q part.q middle.q whole.q a.q b.q;
}

side_grows : (fewer more : List ℕ) (part whole : ℕ × ℕ) → ((c : ℕ) → Contains fewer c → Contains more c) → IsSideAligned fewer part whole → IsSideAligned more part whole
side_grows fewer more part whole among a = record {
  begins = ⊎_elim inl (λ f. inr (among part.0 f)) a.begins;
  ends = ⊎_elim inl (λ f. inr (among (part.1 + 1) f)) a.ends;
}

pub aligned_to_more : (fewer more : CutLists) (part whole : Box5) → AreAmong fewer more → IsAligned fewer part whole → IsAligned more part whole
aligned_to_more fewer more part whole among a = record {
  proto = side_grows fewer.proto more.proto part.proto whole.proto among.proto a.proto;
  src = side_grows fewer.addr more.addr part.src whole.src among.addr a.src;
  dst = side_grows fewer.addr more.addr part.dst whole.dst among.addr a.dst;
  p = side_grows fewer.p more.p part.p whole.p among.p a.p;
  q = side_grows fewer.q more.q part.q whole.q among.q a.q;
}

-- a box is aligned to itself, whatever the cuts
pub aligned_to_itself : (cuts : CutLists) (b : Box5) → IsAligned cuts b b
aligned_to_itself cuts b = record {
  proto = same cuts.proto b.proto;
  src = same cuts.addr b.src;
  dst = same cuts.addr b.dst;
  p = same cuts.p b.p;
  q = same cuts.q b.q;
}
  where
    same : (cuts : List ℕ) (r : ℕ × ℕ) → IsSideAligned cuts r r
    same cuts r = record { begins = inl refl; ends = inl refl }

-- a part that begins where the whole does is aligned where its ends are
pub aligned_by_low : (cuts : CutLists) (part whole : Box5) → low_of part ≡ low_of whole → EndsAligned cuts part whole → IsAligned cuts part whole
aligned_by_low cuts part whole low ends = record {
  proto = record { begins = inl (ap (λ (h : Header). h.proto) low); ends = ends.proto };
  src = record { begins = inl (ap (λ (h : Header). h.src) low); ends = ends.src };
  dst = record { begins = inl (ap (λ (h : Header). h.dst) low); ends = ends.dst };
  p = record { begins = inl (ap (λ (h : Header). h.p) low); ends = ends.p };
  q = record { begins = inl (ap (λ (h : Header). h.q) low); ends = ends.q };
}
