-- Keys of two numbers.
use Rattle.std.proofs.Common.{◌≡◌, ◌∙◌, ◌&&◌, ◌<◌, ◌==◌, ◌^◌, ℕ, ap, arith, false, inl, inr, sym}
use Rattle.std.proofs.lemmas.Bool.{cases_eq, eq-eqb, ne_eqb}
use Rattle.number_tables.specs.Keys.{key_of}

-- two pairs have one key only where both numbers are the same
pub key_of-same : (g h v w : ℕ) → v < 2 ^ 32 → w < 2 ^ 32 → (key_of g v == key_of h w) ≡ ((g == h) && (v == w))
key_of-same g h v w fits_v fits_w =
    elim (cases_eq g h) [
      | inl e ↦
          elim (cases_eq v w) [
            | inl f ↦ eq-eqb (key_of g v) (key_of h w) (omega arith) ∙ sym (ap (λ b. b && (v == w)) (eq-eqb g h e) ∙ eq-eqb v w f)
            | inr n ↦ ne_eqb (key_of g v) (key_of h w) (λ s. n (omega arith)) ∙ sym (ap (λ b. b && (v == w)) (eq-eqb g h e) ∙ ne_eqb v w n)
          ]
      | inr n ↦ ne_eqb (key_of g v) (key_of h w) (λ s. n (omega arith)) ∙ sym (ap (λ b. b && (v == w)) (ne_eqb g h n))
    ]

-- keys whose first numbers differ
pub key_of-other : (g h v w : ℕ) → (g ≡ h → ⊥) → v < 2 ^ 32 → w < 2 ^ 32 → (key_of g v == key_of h w) ≡ false
key_of-other g h v w other fits_v fits_w = key_of-same g h v w fits_v fits_w ∙ ap (λ b. b && (v == w)) (ne_eqb g h other)
