-- What is found among numbers is found among them without repeats.
use Rattle.std.proofs.Common.{◌≡◌, ◌∙◌, ◌++◌, ◌==◌, ◌||◌, ◌∷◌, [], ℕ, Bool, List, None, Option, Some, ap, false, inl, inr, refl, sym, true}
use Rattle.std.specs.List.{list_any}
use Rattle.std.proofs.lemmas.Bool.{cases_Bool, eqb-true}
use Rattle.std.proofs.lemmas.List.Folds.{list_any-append}
use Rattle.std.proofs.Math.Bool.{or-false, or_assoc}
use Rattle.vpc_model.specs.Choice.{or_else}
use Rattle.vpc_model.proofs.Choice.{or_else-none}
use Rattle.security_groups.specs.Once.{once, once_after}

-- a number that is kept adds nothing
kept-any : (p : ℕ → Bool) (n : ℕ) (kept : List ℕ) → list_any (λ k. n == k) kept ≡ true → (z : Bool) → (list_any p kept || z) ≡ (list_any p kept || (p n || z))
kept-any p n [] has z = absurd cc
kept-any p n (k ∷ ks) has z =
    elim (cases_Bool (n == k)) [
      | inl same ↦ by (p n) refl (ap p (sym (eqb-true n k same)))
      | inr other ↦
          let rest : list_any (λ x. n == x) ks ≡ true = rw other at has in
          or_assoc (p k) (list_any p ks) z ∙ ap (λ (b : Bool). p k || b) (kept-any p n ks rest z) ∙ sym (or_assoc (p k) (list_any p ks) (p n || z))
    ]
  where
    by : (b : Bool) → p n ≡ b → p k ≡ p n → (p k || list_any p ks || z) ≡ (p k || list_any p ks || (p n || z))
    by true e f = rw (f, e) refl
    by false e f = rw (f, e) refl

-- a test of what is kept and of the rest
list_any-once_after : (p : ℕ → Bool) (kept ns : List ℕ) → list_any p (once_after kept ns) ≡ (list_any p kept || list_any p ns)
list_any-once_after p kept [] = sym (or-false (list_any p kept))
list_any-once_after p kept (n ∷ ns) =
    elim (cases_Bool (list_any (λ k. n == k) kept)) [
      | inl has ↦ rw has (list_any-once_after p kept ns ∙ kept-any p n kept has (list_any p ns))
      | inr new ↦
          rw new
          (list_any-once_after p (kept ++ n ∷ []) ns
          ∙ ap (λ (b : Bool). b || list_any p ns) (list_any-append p kept (n ∷ []) ∙ ap (λ (b : Bool). list_any p kept || b) (or-false (p n)))
          ∙ or_assoc (list_any p kept) (p n) (list_any p ns))
    ]

-- a test doesn't see repeats
pub list_any-once : (p : ℕ → Bool) (ns : List ℕ) → list_any p (once ns) ≡ list_any p ns
list_any-once p ns = list_any-once_after p [] ns

-- the first value of some numbers
abbrev pub first_value : {X : Type 0} → (ℕ → Option X) → List ℕ → Option X
first_value f [] = None
first_value f (n ∷ ns) = or_else (f n) (first_value f ns)

-- three values
or_else_assoc : {X : Type 0} (a b c : Option X) → or_else (or_else a b) c ≡ or_else a (or_else b c)
or_else_assoc None b c = refl
or_else_assoc (Some x) b c = refl

-- the first value of two lists
first_value-append : {X : Type 0} (f : ℕ → Option X) (xs ys : List ℕ) → first_value f (xs ++ ys) ≡ or_else (first_value f xs) (first_value f ys)
first_value-append f [] ys = refl
first_value-append f (x ∷ xs) ys = ap (or_else (f x)) (first_value-append f xs ys) ∙ sym (or_else_assoc (f x) (first_value f xs) (first_value f ys))

-- a number that is kept gives no new first value
kept-first : {X : Type 0} (f : ℕ → Option X) (n : ℕ) (kept : List ℕ) → list_any (λ k. n == k) kept ≡ true → (z : Option X) → or_else (first_value f kept) z ≡ or_else (first_value f kept) (or_else (f n) z)
kept-first f n [] has z = absurd cc
kept-first {X} f n (k ∷ ks) has z =
    elim (cases_Bool (n == k)) [
      | inl same ↦ by (f n) refl (ap f (sym (eqb-true n k same)))
      | inr other ↦
          let rest : list_any (λ x. n == x) ks ≡ true = rw other at has in
          or_else_assoc (f k) (first_value f ks) z ∙ ap (or_else (f k)) (kept-first f n ks rest z) ∙ sym (or_else_assoc (f k) (first_value f ks) (or_else (f n) z))
    ]
  where
    by : (o : Option X) → f n ≡ o → f k ≡ f n → or_else (or_else (f k) (first_value f ks)) z ≡ or_else (or_else (f k) (first_value f ks)) (or_else (f n) z)
    by None e g = rw (g, e) refl
    by (Some x) e g = rw (g, e) refl

-- the first value of what is kept and of the rest
first_value-once_after : {X : Type 0} (f : ℕ → Option X) (kept ns : List ℕ) → first_value f (once_after kept ns) ≡ or_else (first_value f kept) (first_value f ns)
first_value-once_after f kept [] = sym (or_else-none (first_value f kept))
first_value-once_after f kept (n ∷ ns) =
    elim (cases_Bool (list_any (λ k. n == k) kept)) [
      | inl has ↦ rw has (first_value-once_after f kept ns ∙ kept-first f n kept has (first_value f ns))
      | inr new ↦
          rw new
          (first_value-once_after f (kept ++ n ∷ []) ns
          ∙ ap (λ o. or_else o (first_value f ns)) (first_value-append f kept (n ∷ []) ∙ ap (or_else (first_value f kept)) (or_else-none (f n)))
          ∙ or_else_assoc (first_value f kept) (f n) (first_value f ns))
    ]

-- the first value doesn't see repeats
pub first_value-once : {X : Type 0} (f : ℕ → Option X) (ns : List ℕ) → first_value f (once ns) ≡ first_value f ns
first_value-once f ns = first_value-once_after f [] ns
