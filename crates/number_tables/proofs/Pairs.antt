-- Items of two lists, place by place.
use Rattle.std.proofs.Common.{◌==◌, ◌||◌, ◌≡◌, ◌∙◌, ◌+◌, ◌∷◌, ◌⊎◌, [], Bool, List, ap, arith, inl, inr, refl, sym, ℕ}
use Rattle.std.specs.List.{AllZip, list_any}
use Rattle.std.proofs.lemmas.Bool.{cases_eq, eq-eqb, ne_eqb}
use Rattle.number_tables.specs.Above.{AreAsFarAbove}

-- one of some items passes a test where one of those that they belong to passes another
pub any-pairs : {A B : Type 0} (R : A → B → Type 0) (p : A → Bool) (q : B → Bool) → ((x : A) (y : B) → R x y → p x ≡ q y)
    → (xs : List A) (ys : List B) → AllZip R xs ys → list_any p xs ≡ list_any q ys
any-pairs R p q same [] [] zip = refl
any-pairs R p q same [] (y ∷ ys) zip = absurd zip
any-pairs R p q same (x ∷ xs) [] zip = absurd zip
any-pairs R p q same (x ∷ xs) (y ∷ ys) zip = ap (λ b. b || list_any p xs) (same x y zip.0) ∙ ap (λ b. q y || b) (any-pairs R p q same xs ys zip.1)

-- numbers that are as far above two numbers are the same ones from there on
pub any-as_far : (first other_first k : ℕ) (xs ys : List ℕ) → AreAsFarAbove first xs other_first ys → list_any (λ n. n == first + k) xs ≡ list_any (λ n. n == other_first + k) ys
any-as_far f g k xs ys zip = any-pairs (λ n m. n + g ≡ m + f) (λ n. n == f + k) (λ n. n == g + k) (λ x y far. same x y far (cases_eq x (f + k))) xs ys zip
  where
    same : (x y : ℕ) → x + g ≡ y + f → (x ≡ f + k) ⊎ (x ≡ f + k → ⊥) → (x == f + k) ≡ (y == g + k)
    same x y far (inl is) = eq-eqb x (f + k) is ∙ sym (eq-eqb y (g + k) (omega arith))
    same x y far (inr not) = ne_eqb x (f + k) not ∙ sym (ne_eqb y (g + k) (λ is. not (omega arith)))
