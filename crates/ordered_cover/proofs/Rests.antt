-- What is left of a box without a part.
use Rattle.std.proofs.Common.{◌≡◌, ◌+◌, ◌&&◌, ◌||◌, not, Bool, true, false, List, [], ◌∷◌, AllPairs, suc, refl, ap, ◌∙◌, arith}
use Rattle.std.proofs.lemmas.List.Sums.{sum_by-cons}
use Rattle.std.specs.List.{list_any}
use Rattle.vpc_base.specs.declared.headers.Header.{Header}
use Rattle.header_boxes.specs.Boxes.{holds, IsWithin, AreDisjoint}
use Rattle.header_boxes.specs.declared.boxes.Box5.{Box5}
use Rattle.header_boxes.proofs.Held.{holds_whole}
use Rattle.ordered_cover.specs.Open.{one_if, holders}
use Rattle.ordered_cover.proofs.Lists.{zero_from_all}

-- disjoint boxes hold a header once or not at all
pub holders_disjoint : (boxes : List Box5) (h : Header) → AllPairs AreDisjoint boxes → holders boxes h ≡ one_if (list_any (holds h) boxes)
holders_disjoint [] h apart = refl
holders_disjoint (b ∷ boxes) h apart = by (holds h b) refl (holders_disjoint boxes h (λ i j d lt inside. apart (suc i) (suc j) d (omega arith) (omega arith)))
  where
    s : holders (b ∷ boxes) h ≡ one_if (holds h b) + holders boxes h
    s = sum_by-cons (λ x. one_if (holds h x)) b boxes

    by : (t : Bool) → holds h b ≡ t → holders boxes h ≡ one_if (list_any (holds h) boxes) → holders (b ∷ boxes) h ≡ one_if (holds h b || list_any (holds h) boxes)
    by true e rest =
        let z : holders boxes h ≡ 0 = zero_from_all (holds h) boxes (λ k d lt t. apart 0 (suc k) d (omega arith) (omega arith) h e t) in
        let o = ap one_if e in let r = ap (λ v. one_if (v || list_any (holds h) boxes)) e in omega (arith, s, z, o, r)
    by false e rest =
        let o = ap one_if e in let r = ap (λ v. one_if (v || list_any (holds h) boxes)) e in omega (arith, s, rest, o, r)

-- a header is in the part or outside it
in_or_out : (w c : Bool) → (c ≡ true → w ≡ true) → one_if (w && not c) + one_if c ≡ one_if w
in_or_out true true h = refl
in_or_out true false h = refl
in_or_out false true h = let e : false ≡ true = h refl in absurd (cc)
in_or_out false false h = refl

-- disjoint boxes that hold what the whole holds outside the part
pub holders_rest : (whole part : Box5) (pieces : List Box5) → IsWithin part whole → AllPairs AreDisjoint pieces
    → ((h : Header) → list_any (holds h) pieces ≡ (holds h whole && not (holds h part)))
    → (h : Header) → holders pieces h + one_if (holds h part) ≡ one_if (holds h whole)
holders_rest whole part pieces within apart outside h =
    ap (λ v. v + one_if (holds h part)) (holders_disjoint pieces h apart ∙ ap one_if (outside h))
    ∙ in_or_out (holds h whole) (holds h part) (holds_whole h part whole within)
