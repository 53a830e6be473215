-- One side: what is outside a part of a range.
use Rattle.std.proofs.Common.{◌≡◌, ℕ, ◌≤◌, ◌<◌, ◌+◌, ◌-◌, ◌*◌, ◌⊎◌, nat_lt, Bool, true, false, List, [], ◌∷◌, ◌++◌, refl, arith, cond, map, ap, sym, ◌∙◌, sum_by, inl, inr}
use Rattle.std.proofs.lemmas.Bool.Decides.{nat_tests}
use Rattle.std.proofs.lemmas.Grind.{common_steps}
use Rattle.std.proofs.lemmas.List.Sums.{sum_by-cons}
use Rattle.std.specs.List.{AllByRecursion}
use Rattle.header_boxes.specs.Boxes.{in_range, IsRangeWithin, width}
use Rattle.header_boxes.specs.Rest.{outside}

-- a number of ranges that is the sum of those of its pieces
pub record IsAdditive (m : ℕ × ℕ → ℕ) : Type 0 where
  pub pieces : (w c : ℕ × ℕ) → IsRangeWithin c w → sum_by m (outside w c) + m c ≡ m w

pub width_adds : IsAdditive width
width_adds = record { pieces = λ w c within. widths w c within }
  where
    widths : (w c : ℕ × ℕ) → IsRangeWithin c w → sum_by width (outside w c) + width c ≡ width w
    widths w c within = grind (arith, nat_tests, common_steps)

-- 1 where the range holds the number
abbrev pub one_in : ℕ → ℕ × ℕ → ℕ
one_in x r = cond (in_range r x) 1 0

pub one_in_adds : (x : ℕ) → IsAdditive (one_in x)
one_in_adds x = record { pieces = λ w c within. ones w c within }
  where
    ones : (w c : ℕ × ℕ) → IsRangeWithin c w → sum_by (one_in x) (outside w c) + one_in x c ≡ one_in x w
    ones w c within = grind (arith, nat_tests, common_steps)

-- a product with a changing factor
pub record IsLinear (f : ℕ → ℕ) : Type 0 where
  pub none : f 0 ≡ 0
  pub both : (a b : ℕ) → f (a + b) ≡ f a + f b

pub linear_last : IsLinear (λ t. t)
linear_last = record { none = refl; both = λ a b. refl }

pub linear_first : (k : ℕ) → IsLinear (λ t. t * k)
linear_first k = record { none = omega arith; both = λ a b. omega arith }

pub linear_under : (k : ℕ) (f : ℕ → ℕ) → IsLinear f → IsLinear (λ t. k * f t)
linear_under k f l = record { none = rw l.none (omega arith); both = λ a b. rw (l.both a b) (omega arith) }

sum_under : (m : ℕ × ℕ → ℕ) (f : ℕ → ℕ) → IsLinear f → (rs : List (ℕ × ℕ)) → sum_by (λ r. f (m r)) rs ≡ f (sum_by m rs)
sum_under m f l [] = sym l.none
sum_under m f l (r ∷ rs) = sum_by-cons (λ r. f (m r)) r rs ∙ ap (λ v. f (m r) + v) (sum_under m f l rs) ∙ sym (l.both (m r) (sum_by m rs)) ∙ ap f (sym (sum_by-cons m r rs))

pub sum_by-map : {X Y : Type 0} (g : X → Y) (f : Y → ℕ) (xs : List X) → sum_by f (map g xs) ≡ sum_by (λ x. f (g x)) xs
sum_by-map g f [] = refl
sum_by-map g f (x ∷ xs) = sum_by-cons f (g x) (map g xs) ∙ ap (λ v. f (g x) + v) (sum_by-map g f xs) ∙ sym (sum_by-cons (λ x. f (g x)) x xs)

-- the pieces of one side, under the factors of the others
pub adds_under : (m : ℕ × ℕ → ℕ) → IsAdditive m → (f : ℕ → ℕ) → IsLinear f → (w c : ℕ × ℕ) → IsRangeWithin c w → sum_by (λ r. f (m r)) (outside w c) + f (m c) ≡ f (m w)
adds_under m a f l w c within =
    ap (λ v. v + f (m c)) (sum_under m f l (outside w c)) ∙ sym (l.both (sum_by m (outside w c)) (m c)) ∙ ap f (a.pieces w c within)

-- a piece below or above the part
abbrev pub IsPiece : ℕ × ℕ → ℕ × ℕ → ℕ × ℕ → Type 0
IsPiece w c r = (r.0 ≤ r.1) × (((r.0 ≡ w.0) × (r.1 + 1 ≡ c.0)) ⊎ ((r.0 ≡ c.1 + 1) × (r.1 ≡ w.1)))

one_if : (P : ℕ × ℕ → Type 0) (b : Bool) (r : ℕ × ℕ) → (b ≡ true → P r) → AllByRecursion P (cond b (r ∷ []) [])
one_if P true r h = (h refl, tt)
one_if P false r h = tt

pub all_append : {X : Type 0} (P : X → Type 0) (xs ys : List X) → AllByRecursion P xs → AllByRecursion P ys → AllByRecursion P (xs ++ ys)
all_append P [] ys a b = b
all_append P (x ∷ xs) ys a b = (a.0, all_append P xs ys a.1 b)

below_piece : (w c : ℕ × ℕ) → nat_lt w.0 c.0 ≡ true → IsPiece w c (w.0, c.0 - 1)
below_piece w c h = let lt : w.0 < c.0 = grind (arith, nat_tests) in (omega arith, inl (refl, omega arith))

above_piece : (w c : ℕ × ℕ) → nat_lt c.1 w.1 ≡ true → IsPiece w c (c.1 + 1, w.1)
above_piece w c h = let lt : c.1 < w.1 = grind (arith, nat_tests) in (omega arith, inr (refl, refl))

pub all_outside : (w c : ℕ × ℕ) → AllByRecursion (IsPiece w c) (outside w c)
all_outside w c =
    all_append (IsPiece w c) _ _
    (one_if (IsPiece w c) (nat_lt w.0 c.0) (w.0, c.0 - 1) (below_piece w c))
    (one_if (IsPiece w c) (nat_lt c.1 w.1) (c.1 + 1, w.1) (above_piece w c))

pub all_map : {X Y : Type 0} (P : X → Type 0) (Q : Y → Type 0) (g : X → Y) → ((x : X) → P x → Q (g x)) → (xs : List X) → AllByRecursion P xs → AllByRecursion Q (map g xs)
all_map P Q g v [] a = tt
all_map P Q g v (x ∷ xs) a = (v x a.0, all_map P Q g v xs a.1)
