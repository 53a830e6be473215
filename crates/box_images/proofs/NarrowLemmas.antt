-- What is told of one field, of two, and of all five.
use Rattle.std.proofs.Common.{◌≡◌, ℕ, ◌≤◌, ◌+◌, ◌⊎◌, ◌++◌, ◌&&◌, ◌==◌, ◌↔◌, IsTrue, Bool, true, false, Option, Some, IfSome, refl, ap, sym, subst, ◌∙◌, arith}
use Rattle.std.proofs.lemmas.Bool.Decides.{nat_tests}
use Rattle.std.proofs.lemmas.Bool.{and_parts}
use Rattle.vpc_base.specs.declared.headers.Header.{Header}
use Rattle.header_boxes.specs.Boxes.{IsValid, common_box, holds, in_range}
use Rattle.header_boxes.specs.declared.boxes.Box5.{Box5}
use Rattle.box_images.specs.Fields.{side_of}
use Rattle.header_boxes.proofs.Held.{holds-common_box}
use Rattle.header_boxes.proofs.Order.{same_fields}
use Rattle.box_images.specs.Images.{header_at}
use Rattle.box_images.specs.Bodies.{Edges, same_edges}
use Rattle.box_images.specs.Parts.{IsBoth, IsTold, TellsRange, TellsSame, ending_at}
use Rattle.box_images.specs.declared.fields.Field.{Field}
use Rattle.box_images.specs.declared.fields.Field.TheVariants.{Of}
use Rattle.box_images.specs.declared.fields.Side.{Side}
use Rattle.box_images.specs.declared.images.Image.{Image}
use Rattle.box_images.specs.declared.images.Part.{Part}
use Rattle.box_images.proofs.BodyLemmas.{body_of_both, ends_at_first, ends_at_second, ends_of_both, told_of_ending}

-- ---- one field

abbrev AreAlike : ℕ × ℕ → ℕ → ℕ → ℕ → ℕ → Type 0
AreAlike r add lo hi x = (n : ℕ) → r.0 ≤ n → n ≤ x → in_range (lo, hi) (n + add) ≡ in_range (lo, hi) (r.0 + add)

pub told_of_field : (b body : Box5) (f : Field) (s : Side) (add lo hi x : ℕ) (r : ℕ × ℕ) (told : Bool) → IsValid b → f ≡ Of s add → r ≡ side_of b s
    → r.0 ≤ x → x ≤ r.1 → (x ≡ r.1) ⊎ (x + 1 + add ≡ lo) ⊎ (x + 1 + add ≡ hi + 1) → AreAlike r add lo hi x
    → body ≡ ending_at b s x → told ≡ in_range (lo, hi) (r.0 + add)
    → TellsRange f lo hi b (record { body = body; told = told })
told_of_field b body f s add lo hi x r told v ef er some lower edge alike eb et =
    let k = told_of_ending b s add lo hi x v
    (subst (λ (t : ℕ × ℕ). t.0 ≤ x) er some)
    (subst (λ (t : ℕ × ℕ). x ≤ t.1) er lower)
    (subst (λ (t : ℕ × ℕ). (x ≡ t.1) ⊎ (x + 1 + add ≡ lo) ⊎ (x + 1 + add ≡ hi + 1)) er edge)
    (subst (λ (t : ℕ × ℕ). AreAlike t add lo hi x) er alike) in
    let kt = subst (λ (t : Bool). TellsRange (Of s add) lo hi b (record { body = ending_at b s x; told = t }))
    (sym (et ∙ ap (λ (t : ℕ × ℕ). in_range (lo, hi) (t.0 + add)) er)) k in
    let kb = subst (λ (c : Box5). TellsRange (Of s add) lo hi b (record { body = c; told = told })) (sym eb) kt in
    subst (λ (g : Field). TellsRange g lo hi b (record { body = body; told = told })) (sym ef) kb

-- ---- two tests

-- where the first doesn't hold
pub told_by_first : (few more : Edges) (part : Box5) (s t : Header → Bool) (x : Part Bool) → x.told ≡ false → IsTold few part s x
    → IsTold (few ++ more) part (λ h. s h && t h) x
told_by_first few more part s t x e k = record {
  told = λ h i. fails (s h) (t h) x.told e (k.told h i);
  body = k.body;
  ends = ends_at_first few more x.body part k.ends;
}
  where
    fails : (a b v : Bool) → v ≡ false → v ≡ a → v ≡ (a && b)
    fails true b v e f = absurd (let g : true ≡ false = sym f ∙ e in cc)
    fails false b v e f = e

-- where the second doesn't
pub told_by_second : (few more : Edges) (part : Box5) (s t : Header → Bool) (x : Part Bool) → x.told ≡ false → IsTold more part t x
    → IsTold (few ++ more) part (λ h. s h && t h) x
told_by_second few more part s t x e k = record {
  told = λ h i. fails (s h) (t h) x.told e (k.told h i);
  body = k.body;
  ends = ends_at_second few more x.body part k.ends;
}
  where
    fails : (a b v : Bool) → v ≡ false → v ≡ b → v ≡ (a && b)
    fails true b v e f = f
    fails false b v e f = e

-- where both hold
pub told_by_both : (few more : Edges) (part body : Box5) (s t : Header → Bool) (x y : Part Bool) → x.told ≡ true → y.told ≡ true
    → body ≡ common_box x.body y.body → IsTold few part s x → IsTold more part t y
    → IsTold (few ++ more) part (λ h. s h && t h) (record { body = body; told = true })
told_by_both few more part body s t x y ex ey eb k l =
    subst (λ (c : Box5). IsTold (few ++ more) part (λ h. s h && t h) (record { body = c; told = true })) (sym eb) (record {
      told = λ h i. holding (s h) (t h) (holds h x.body) (holds h y.body) (sym (holds-common_box h x.body y.body) ∙ i)
          (λ j. sym ex ∙ k.told h j) (λ j. sym ey ∙ l.told h j);
      body = body_of_both x.body y.body part k.body l.body;
      ends = ends_of_both few more x.body y.body part k.ends l.ends;
    })
  where
    holding : (a b v w : Bool) → (v && w) ≡ true → (v ≡ true → true ≡ a) → (w ≡ true → true ≡ b) → true ≡ (a && b)
    holding a b true true e f g = let k = f refl in let l = g refl in cc
    holding a b true false e f g = cc
    holding a b false w e f g = cc

pub value_if_some : (o : Option Box5) (m n : Box5) → o ≡ Some m → IfSome o (λ k. k ≡ n) → m ≡ n
value_if_some o m n e k = subst (λ (t : Option Box5). IfSome t (λ k. k ≡ n)) e k

-- ---- all five fields

abbrev pub same_numbers : Header → Header → Bool
same_numbers a b = (a.proto == b.proto) && (((a.src == b.src) && (a.dst == b.dst)) && ((a.p == b.p) && (a.q == b.q)))

same_if_numbers : (a b : Header) → same_numbers a b ≡ true → a ≡ b
same_if_numbers a b e =
    let k = and_parts (a.proto == b.proto) _ e in
    let l = and_parts ((a.src == b.src) && (a.dst == b.dst)) ((a.p == b.p) && (a.q == b.q)) k.1 in
    let m = and_parts (a.src == b.src) (a.dst == b.dst) l.0 in
    let n = and_parts (a.p == b.p) (a.q == b.q) l.1 in
    same_fields a b (same a.proto b.proto k.0) (same a.src b.src m.0) (same a.dst b.dst m.1) (same a.p b.p n.0) (same a.q b.q n.1)
  where
    same : (x y : ℕ) → (x == y) ≡ true → x ≡ y
    same x y e = grind (arith, nat_tests)

numbers_of_itself : (a : Header) → same_numbers a a ≡ true
numbers_of_itself a = all_true (same a.proto) (same a.src) (same a.dst) (same a.p) (same a.q)
  where
    same : (x : ℕ) → (x == x) ≡ true
    same x = grind (arith, nat_tests)

    all_true : {q r s t u : Bool} → q ≡ true → r ≡ true → s ≡ true → t ≡ true → u ≡ true → (q && ((r && s) && (t && u))) ≡ true
    all_true e f g h k = cc

-- all five numbers are the same exactly where the headers are
pub same_headers : (a b : Header) (told : Bool) → told ≡ same_numbers a b → IsTrue told ↔ (a ≡ b)
same_headers a b told e = (λ t. same_if_numbers a b (sym e ∙ t), λ f. e ∙ subst (λ (h : Header). same_numbers a h ≡ true) f (numbers_of_itself a))

-- the two images are the same where all five fields are
pub told_of_all : (part : Box5) (i j : Image) (proto src dst p q addresses ports ends all : Part Bool)
    → TellsSame i.proto j.proto part proto
    → TellsSame i.src j.src part src
    → TellsSame i.dst j.dst part dst
    → TellsSame i.p j.p part p
    → TellsSame i.q j.q part q
    → IsBoth src dst addresses → IsBoth p q ports → IsBoth addresses ports ends → IsBoth proto ends all
    → IsTold (same_edges i j) part (λ h. same_numbers (header_at i h) (header_at j h)) all
told_of_all part i j proto src dst p q addresses ports ends all k1 k2 k3 k4 k5 l1 l2 l3 l4 =
    l4 _ _ part _ _ k1 (l3 _ _ part _ _ (l1 _ _ part _ _ k2 k3) (l2 _ _ part _ _ k4 k5))
