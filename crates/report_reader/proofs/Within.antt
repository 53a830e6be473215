-- Boxes inside others.
use Rattle.std.proofs.Common.{◌≡◌, ◌≤◌, ◌<◌, ◌+◌, ◌++◌, ◌∷◌, [], All, IfSome, List, Option, Some, ap, arith, length, length-append, subst, sym, true, ℕ}
use Rattle.std.proofs.lemmas.List.Elements.{All-append, All-cons, All-nil}
use Rattle.std.proofs.lemmas.Bool.{and_parts, leb-true}
use Rattle.header_boxes.specs.Boxes.{IsRangeWithin, IsValid, IsWithin}
use Rattle.vpc_laws.specs.Types.{Box5}
use Rattle.report_reader.specs.Boxes.{is_inside, lies_in}

within_if_lies_in : (part whole : ℕ × ℕ) → part.0 ≤ part.1 → lies_in part whole ≡ true → IsRangeWithin part whole
within_if_lies_in part whole valid inside =
    let ends = and_parts _ _ inside in
    record { begins = leb-true whole.0 part.0 ends.0; valid = valid; ends = leb-true part.1 whole.1 ends.1 }

-- a box that isn't empty
pub within_if_inside : (part whole : Box5) → IsValid part → is_inside part whole ≡ true → IsWithin part whole
within_if_inside part whole valid inside =
    let (proto, four) = and_parts _ _ inside in
    let (src, three) = and_parts _ _ four in
    let (dst, two) = and_parts _ _ three in
    let (p, q) = and_parts _ _ two in
    record {
      proto = within_if_lies_in part.proto whole.proto valid.proto proto;
      src = within_if_lies_in part.src whole.src valid.src src;
      dst = within_if_lies_in part.dst whole.dst valid.dst dst;
      p = within_if_lies_in part.p whole.p valid.p p;
      q = within_if_lies_in part.q whole.q valid.q q;
    }

-- ---- one row more

all_more : {X : Type 0} (P : X → Type 0) (rows all : List X) (row : X) (next : Option X) → All P rows → IfSome next P → next ≡ Some row → all ≡ rows ++ row ∷ [] → All P all
all_more {X = X} P rows all row next before it some are =
    let here : P row = subst (λ (o : Option X). IfSome o P) some it in
    subst (λ (xs : List X). All P xs) (sym are) (All-append P rows (row ∷ []) before (All-cons P row [] here (All-nil P)))

count_more : {X : Type 0} (rows all : List X) (row : X) (k : ℕ) → length rows ≡ k → all ≡ rows ++ row ∷ [] → length all ≡ k + 1
count_more rows all row k count are = omega (arith, ap length are, length-append rows (row ∷ []), count)

few_more : {X : Type 0} (k most : ℕ) (row : X) (next : Option X) → IfSome next (λ r. k < most) → next ≡ Some row → k + 1 ≤ most
few_more {X = X} k most row next it some =
    let below : k < most = subst (λ (o : Option X). IfSome o (λ r. k < most)) some it in
    omega (arith, below)

-- the rows with this one are all inside, as many as the lines, and not too many
pub record HasMore {X : Type 0} (P : X → Type 0) (all : List X) (k most : ℕ) : Type 0 where
  pub within : All P all
  pub count : length all ≡ k + 1
  pub few : k + 1 ≤ most

pub has_more : {X : Type 0} (P : X → Type 0) (rows all : List X) (row : X) (next : Option X) (k most : ℕ)
    → All P rows → length rows ≡ k → IfSome next P → IfSome next (λ r. k < most) → next ≡ Some row → all ≡ rows ++ row ∷ [] → HasMore P all k most
has_more P rows all row next k most before count it below some are = record {
  within = all_more P rows all row next before it some are;
  count = count_more rows all row k count are;
  few = few_more k most row next below some;
}
