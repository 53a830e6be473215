-- Bodies on which pieces tell one value of the destination.
use Rattle.std.proofs.Common.{Bool, Contains, List, Option, [], arith, inl, inr, nat_le, refl, subst, sym, true, ℕ, ⊎_elim, ◌+◌, ◌-◌, ◌<◌, ◌^◌, ◌∙◌, ◌∷◌, ◌≡◌, ◌≤◌, ◌⊎◌}
use Rattle.vpc_base.proofs.Lemmas.{All-cons, All-contains, All-nil, Contains-filter, nat_tests}
use Rattle.vpc_base.specs.Cuts.{CutLists}
use Rattle.vpc_base.specs.declared.headers.Header.{Header}
use Rattle.header_boxes.specs.Terms.{IsAligned, holds, in_range, low_of}
use Rattle.image_tests.specs.Types.{Box5, Field, Image, Part}
use Rattle.header_boxes.proofs.Held.{holds_low, valid_if_within}
use Rattle.piece_table.specs.Pieces.{ArePieces, PieceLists, first_at, last_at, told_at}
use Rattle.piece_table.proofs.PieceLemmas.{found_is_aligned, told_at-found}
use Rattle.box_images.specs.Terms.{Answers, EndsAtEdges, IsBody, IsCutInside, IsImageOfWalk, IsValidImage, greatest_of, range_edges, value_of}
use Rattle.box_images.specs.declared.fields.Field.TheVariants.{Fixed, Of}
use Rattle.box_images.specs.declared.fields.Side.TheVariants.{Proto, Src, Dst, P, Q}
use Rattle.box_images.proofs.Lemmas.{bodies_are_aligned, range_of_value}
use Rattle.cut_laws.specs.Dividing.{Divide, DivideFirsts}
use Rattle.vpc_model.specs.Cuts.{on_sides}
use Rattle.image_tests.proofs.Fields.{ReadsAddress, address_field}

-- ---- what is told

value_in_range : (lo hi v : ℕ) → lo ≤ v → v ≤ hi → in_range (lo, hi) v ≡ true
value_in_range lo hi v from upto = grind (arith, nat_tests)

-- the field lies in the range over the whole body, as it does at the low corner
range_of_body : (f : Field) (lo hi : ℕ) (part : Box5) (x : Part Bool) → IsBody x.body part
    → ((h : Header) → holds h x.body ≡ true → x.told ≡ in_range (lo, hi) (value_of f h))
    → lo ≤ value_of f (low_of part) → value_of f (low_of part) ≤ hi
    → (h : Header) → holds h x.body ≡ true → (lo ≤ value_of f h) × (value_of f h ≤ hi)
range_of_body f lo hi part x b told from upto h t =
    let held = subst (λ (l : Header). holds l x.body ≡ true) b.low (holds_low x.body (valid_if_within x.body part b.within)) in
    let yes_at_low = told (low_of part) held ∙ value_in_range lo hi (value_of f (low_of part)) from upto in
    range_of_value lo hi (value_of f h) (sym yes_at_low ∙ told h t)

-- ---- where it ends

-- the field doesn't come to the first address above the low corner
first_is_below : (cuts : CutLists) (part : Box5) (f : Field) (first : ℕ) → ReadsAddress f → first ≤ value_of f (low_of part) → IsCutInside cuts part f first
first_is_below cuts part (Fixed n) first reads le = tt
first_is_below cuts part (Of Proto add) first reads le = absurd reads
first_is_below cuts part (Of Src add) first reads le = λ x e above upto. absurd (omega arith)
first_is_below cuts part (Of Dst add) first reads le = λ x e above upto. absurd (omega arith)
first_is_below cuts part (Of P add) first reads le = absurd reads
first_is_below cuts part (Of Q add) first reads le = absurd reads

-- just past the last address a piece begins
past_last : (cuts : CutLists) (firsts : List ℕ) (last add end x : ℕ) → add ≡ 0 → end + add ≤ 4294967295
    → (last ≡ 2 ^ 32 - 1) ⊎ Contains firsts (last + 1) → DivideFirsts firsts cuts → x + add ≡ last + 1 → x ≤ end → Contains cuts.addr x
past_last cuts firsts last add end x zero fits next divide is upto =
    let same : last + 1 ≡ x = omega arith in
    ⊎_elim (λ at_end. absurd (omega arith))
    (λ listed. ⊎_elim (λ none. absurd (omega arith)) (λ cut. subst (Contains cuts.addr) same cut) (divide (last + 1) listed)) next

next_is_cut : (cuts : CutLists) (part : Box5) (f : Field) (firsts : List ℕ) (last : ℕ) → ReadsAddress f → greatest_of f part ≤ 4294967295
    → (last ≡ 2 ^ 32 - 1) ⊎ Contains firsts (last + 1) → DivideFirsts firsts cuts → IsCutInside cuts part f (last + 1)
next_is_cut cuts part (Fixed n) firsts last reads fits next divide = tt
next_is_cut cuts part (Of Proto add) firsts last reads fits next divide = absurd reads
next_is_cut cuts part (Of Src add) firsts last reads fits next divide = λ x is above upto. past_last cuts firsts last add part.src.1 x reads fits next divide is upto
next_is_cut cuts part (Of Dst add) firsts last reads fits next divide = λ x is above upto. past_last cuts firsts last add part.dst.1 x reads fits next divide is upto
next_is_cut cuts part (Of P add) firsts last reads fits next divide = absurd reads
next_is_cut cuts part (Of Q add) firsts last reads fits next divide = absurd reads

aligned_to_pieces : (cuts : CutLists) (i : Image) (p : PieceLists) (body : Box5) (a first last : ℕ) → IsValidImage i → IsImageOfWalk i → ArePieces p → a < 2 ^ 32
    → last ≡ last_at p a → first ≤ a → a ≡ value_of i.dst (low_of i.part) → IsBody body i.part
    → EndsAtEdges (range_edges i.dst first last) body i.part → DivideFirsts p.firsts cuts → IsAligned cuts body i.part
aligned_to_pieces cuts i p body a first last valid walk pieces fits is_last from is b ends divide =
    let reads = address_field i Dst walk (inr refl) in
    let below = valid.fits Dst in
    let end = subst (λ (n : ℕ). (n ≡ 2 ^ 32 - 1) ⊎ Contains p.firsts (n + 1)) (sym is_last) (found_is_aligned p a pieces fits).ends in
    bodies_are_aligned cuts (range_edges i.dst first last) body i.part b ends
    (All-cons (λ (k : Field × ℕ). IsCutInside cuts i.part k.0 k.1) (i.dst, first) ((i.dst, last + 1) ∷ [])
    (first_is_below cuts i.part i.dst first reads (subst (λ (n : ℕ). first ≤ n) is from))
    (All-cons (λ (k : Field × ℕ). IsCutInside cuts i.part k.0 k.1) (i.dst, last + 1) []
    (next_is_cut cuts i.part i.dst p.firsts last reads below end divide)
    (All-nil (λ (k : Field × ℕ). IsCutInside cuts i.part k.0 k.1))))

-- the first addresses are numbers of their side
pub firsts_on_sides : (p : PieceLists) (few : CutLists) → ArePieces p → DivideFirsts p.firsts few → DivideFirsts p.firsts (on_sides few)
firsts_on_sides p few pieces divide f listed =
    let below = All-contains (λ (n : ℕ). n < 2 ^ 32) p.firsts f pieces.fit listed in
    ⊎_elim inl (λ cut. inr (Contains-filter (λ n. nat_le n 4294967295) few.addr f cut (grind (arith, nat_tests)))) (divide f listed)

-- what divides at cuts divides at the first addresses among them
pub firsts_divide : (firsts : List ℕ) (few cuts : CutLists) → DivideFirsts firsts (on_sides few) → Divide few cuts → DivideFirsts firsts cuts
firsts_divide firsts few cuts listed divide f has = ⊎_elim inl (λ cut. inr (divide.addr f cut)) (listed f has)

-- ---- the answer

pub answers_by_piece : (i : Image) (p : PieceLists) (a first last : ℕ) (t : Option ℕ) (x : Part Bool) → IsValidImage i → IsImageOfWalk i → ArePieces p
    → a < 2 ^ 32 → a ≡ value_of i.dst (low_of i.part) → first ≡ first_at p a → last ≡ last_at p a → t ≡ told_at p a → first ≤ a → a ≤ last
    → ((h : Header) → holds h x.body ≡ true → x.told ≡ in_range (first, last) (value_of i.dst h))
    → IsBody x.body i.part → EndsAtEdges (range_edges i.dst first last) x.body i.part
    → Answers (DivideFirsts p.firsts) (λ h. told_at p (value_of i.dst h)) i.part (record { body = x.body; told = t })
answers_by_piece i p a first last t x valid walk pieces fits is is_first is_last is_told from upto told b ends = record {
  told = λ h held.
      let within = range_of_body i.dst first last i.part x b told (subst (λ (n : ℕ). first ≤ n) is from) (subst (λ (n : ℕ). n ≤ last) is upto) h held in
      let above = within.0 in
      let below = within.1 in
      is_told ∙ sym (told_at-found p a (value_of i.dst h) pieces fits (omega arith) (omega arith));
  body = b;
  aligned = λ cuts divide. aligned_to_pieces cuts i p x.body a first last valid walk pieces fits is_last from is b ends divide;
}
