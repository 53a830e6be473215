-- Bodies that end where a stretch of addresses does, and the answers for them.
use Rattle.std.proofs.Common.{Bool, Contains, List, Option, [], ap, arith, inl, inr, is_some, map, not, refl, subst, sym, true, ℕ, ◌+◌, ◌<◌, ◌∙◌, ◌∷◌, ◌≡◌, ◌≤◌, ◌⊎◌}
use Rattle.vpc_base.proofs.Lemmas.{All-cons, All-nil, nat_tests}
use Rattle.vpc_base.specs.Cuts.{CutLists}
use Rattle.vpc_base.specs.declared.headers.Header.{Header}
use Rattle.header_boxes.proofs.Held.{holds_low, valid_if_within}
use Rattle.header_boxes.specs.Boxes.{holds, in_range, low_of}
use Rattle.image_tests.specs.Types.{Box5, Entry, Field, Image, Part, Run, Side}
use Rattle.address_sets.specs.Runs.{IsStretch, is_in}
use Rattle.box_images.proofs.Lemmas.{bodies_are_aligned, cuts_are_inside, number_in_side, value_of-le-greatest_of}
use Rattle.box_images.specs.Terms.{Answers, EndsAtEdges, IsBody, IsCut, IsCutInside, IsImageOfWalk, IsValidImage, field_of, greatest_of, header_at, number_of, range_edges, side_of, value_of}
use Rattle.box_images.specs.declared.fields.Field.TheVariants.{Fixed, Of}
use Rattle.box_images.specs.declared.fields.Side.TheVariants.{Proto, Src, Dst, P, Q}
use Rattle.cut_laws.specs.Dividing.{CutOut, DivideTurns}
use Rattle.number_tables.specs.Entries.{value_at}
use Rattle.number_tables.specs.Keys.{key_of}
use Rattle.image_tests.proofs.Fields.{address_field, address_is_cut, greatest_address}
use Rattle.image_tests.proofs.KeyStretches.{is_some-value_at, stretch-cut, value-in}
use Rattle.image_tests.specs.Keys.{EndsBy, IsKeyStretch, has_key, low_on}
use Rattle.image_tests.specs.Tests.{IsAddressSide}

-- ---- the first number of a range is that at the low corner

number-low : (b : Box5) (s : Side) → number_of (low_of b) s ≡ (side_of b s).0
number-low b Proto = refl
number-low b Src = refl
number-low b Dst = refl
number-low b P = refl
number-low b Q = refl

pub value-number : (i : Image) (h : Header) (s : Side) → value_of (field_of i s) h ≡ number_of (header_at i h) s
value-number i h Proto = refl
value-number i h Src = refl
value-number i h Dst = refl
value-number i h P = refl
value-number i h Q = refl

-- no header of a box has a lower value of a field than its low corner
pub low-is-least : (f : Field) (b : Box5) (h : Header) → holds h b ≡ true → value_of f (low_of b) ≤ value_of f h
low-is-least (Fixed n) b h t = omega arith
low-is-least (Of s add) b h t = let low = number-low b s in let inside = number_in_side h b t s in let begins = inside.0 in omega arith

-- of an image
pub least-number : (i : Image) (s : Side) (h : Header) → holds h i.part ≡ true → low_on i s ≤ number_of (header_at i h) s
least-number i s h t =
    subst (λ (n : ℕ). n ≤ number_of (header_at i h) s) (value-number i (low_of i.part) s)
    (subst (λ (n : ℕ). value_of (field_of i s) (low_of i.part) ≤ n) (value-number i h s) (low-is-least (field_of i s) i.part h t))

-- and none has a greater one than its greatest
pub number-greatest : (i : Image) (s : Side) (h : Header) → holds h i.part ≡ true → number_of (header_at i h) s ≤ greatest_of (field_of i s) i.part
number-greatest i s h t = subst (λ (n : ℕ). n ≤ greatest_of (field_of i s) i.part) (value-number i h s) (value_of-le-greatest_of (field_of i s) i.part h t)

-- which no number inside the part comes to
low-inside : (cuts : CutLists) (part : Box5) (f : Field) (v : ℕ) → value_of f (low_of part) ≡ v → IsCutInside cuts part f v
low-inside cuts part (Fixed n) v e = tt
low-inside cuts part (Of s add) v e = λ x k some le. let low = number-low part s in absurd (omega arith)

between : (lo hi x : ℕ) → in_range (lo, hi) x ≡ true → (lo ≤ x) × (x ≤ hi)
between lo hi x t = (grind (arith, nat_tests), grind (arith, nat_tests))

within-range : (lo hi x : ℕ) → x ≡ lo → lo ≤ hi → in_range (lo, hi) x ≡ true
within-range lo hi x e le = grind (arith, nat_tests)

pub ends-by : (i : Image) (s : Side) (low last : ℕ) (x : Part Bool) → IsValidImage i → IsImageOfWalk i → IsAddressSide s → low ≡ low_on i s → low ≤ last
    → ((h : Header) → holds h x.body ≡ true → x.told ≡ in_range (low, last) (number_of (header_at i h) s))
    → IsBody x.body i.part → EndsAtEdges (range_edges (field_of i s) low last) x.body i.part
    → EndsBy i s last x.body
ends-by i s low last x valid walk k is le told body ends = record {
  from = λ h t. subst (λ (n : ℕ). n ≤ number_of (header_at i h) s) is (range h t).0;
  to = λ h t. (range h t).1;
  body = body;
  aligned = λ cuts has. bodies_are_aligned cuts (range_edges (field_of i s) low last) x.body i.part body ends
      (All-cons (λ (e : Field × ℕ). IsCutInside cuts i.part e.0 e.1) (field_of i s, low) ((field_of i s, last + 1) ∷ [])
      (low-inside cuts i.part (field_of i s) low (value-number i (low_of i.part) s ∙ sym is))
      (All-cons (λ (e : Field × ℕ). IsCutInside cuts i.part e.0 e.1) (field_of i s, last + 1) []
      (cuts_are_inside cuts i s (last + 1) valid
      (subst (λ (n : ℕ). IsCut cuts n (field_of i s) (last + 1)) (sym (greatest_address s k))
      (address_is_cut cuts (field_of i s) (last + 1) (address_field i s walk k) (λ fits. has (omega arith)))))
      (All-nil (λ (e : Field × ℕ). IsCutInside cuts i.part e.0 e.1))));
}
  where
    has_low : holds (low_of i.part) x.body ≡ true
    has_low = subst (λ (h : Header). holds h x.body ≡ true) body.low (holds_low x.body (valid_if_within x.body i.part body.within))

    range : (h : Header) → holds h x.body ≡ true → (low ≤ number_of (header_at i h) s) × (number_of (header_at i h) s ≤ last)
    range h t =
        between low last (number_of (header_at i h) s)
        (sym (told h t) ∙ told (low_of i.part) has_low ∙ within-range low last (low_on i s) (sym is) le)

-- ---- answers

pub set-answers : (i : Image) (s : Side) (set : List Run) (low last : ℕ) (told : Bool) (b : Box5) → low ≡ low_on i s
    → IsStretch set low (last, told) → EndsBy i s last b
    → Answers (DivideTurns (λ a. is_in a set)) (λ h. is_in (number_of (header_at i h) s) set) i.part (record { body = b; told = told })
set-answers i s set low last told b is stretch ends = record {
  told = λ h t. sym (stretch.alike (number_of (header_at i h) s) (subst (λ (n : ℕ). n ≤ number_of (header_at i h) s) (sym is) (ends.from h t)) (ends.to h t));
  body = ends.body;
  aligned = λ cuts divide. ends.aligned cuts (λ lt. turn cuts divide lt stretch.turns);
}
  where
    turn : (cuts : CutLists) → DivideTurns (λ a. is_in a set) cuts → last < 4294967295 → (last ≡ 4294967295) ⊎ (is_in (last + 1) set ≡ not told) → Contains cuts.addr (last + 1)
    turn cuts divide lt (inl e) = absurd (omega arith)
    turn cuts divide lt (inr e) = divide last lt (e ∙ ap not (sym (stretch.alike last stretch.from (omega arith))))

pub member-answers : (i : Image) (s : Side) (keys : List ℕ) (high low last : ℕ) (told : Bool) (b : Box5) → low ≡ low_on i s
    → IsKeyStretch keys high low (last, told) → EndsBy i s last b
    → Answers (CutOut (has_key keys high)) (λ h. has_key keys high (number_of (header_at i h) s)) i.part (record { body = b; told = told })
member-answers i s keys high low last told b is stretch ends = record {
  told = λ h t. sym (stretch.alike (number_of (header_at i h) s) (subst (λ (n : ℕ). n ≤ number_of (header_at i h) s) (sym is) (ends.from h t)) (ends.to h t));
  body = ends.body;
  aligned = λ cuts divide. ends.aligned cuts (λ lt. stretch-cut keys high low (last, told) cuts stretch divide lt);
}

pub entry-answers : {T : Type 0} (i : Image) (s : Side) (es : List (Entry T)) (high low : ℕ) (x : ℕ × Bool) (told : Option T) (b : Box5) → low ≡ low_on i s
    → told ≡ value_at (key_of high low) es → IsKeyStretch (map (λ e. e.key) es) high low x → EndsBy i s x.0 b
    → Answers (CutOut (λ a. is_some (value_at (key_of high a) es))) (λ h. value_at (key_of high (number_of (header_at i h) s)) es) i.part (record { body = b; told = told })
entry-answers {T} i s es high low x told b is value stretch ends = record {
  told = λ h t. value ∙ value-in es high low (number_of (header_at i h) s) x stretch (subst (λ (n : ℕ). n ≤ number_of (header_at i h) s) (sym is) (ends.from h t)) (ends.to h t);
  body = ends.body;
  aligned = λ cuts divide. ends.aligned cuts
      (λ lt. stretch-cut (map (λ e. e.key) es) high low x cuts stretch (λ a fits has. divide a fits (is_some-value_at (key_of high a) es ∙ has)) lt);
}
