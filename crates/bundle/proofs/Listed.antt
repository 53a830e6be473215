-- What is listed has a number.
use Rattle.std.proofs.Common.{◌≡◌, List, bytes_eq, inl, inr, is_some, refl, ℕ}
use Rattle.std.specs.List.{list_any}
use Rattle.std.proofs.lemmas.Bool.{cases_Bool}
use Rattle.vpc_base.proofs.Positions.{position-nowhere, position-there}
use Rattle.vpc_model.specs.Lookup.{is_listed}
use Rattle.reference_check.specs.FirstNumbers.{number_in}
use Rattle.bundle.specs.Instances.{AreNumbersOf}

pub numbered_are_listed : (numbers : List (List ℕ × ℕ)) (ids : List (List ℕ)) (id : List ℕ) → AreNumbersOf numbers ids → is_some (number_in numbers id) ≡ is_listed id ids
numbered_are_listed numbers ids id are =
    elim (cases_Bool (list_any (λ i. bytes_eq i id) ids)) [
      | inl there ↦ rw (are id, position-there (λ i. bytes_eq i id) ids there, there) refl
      | inr nowhere ↦ rw (are id, position-nowhere (λ i. bytes_eq i id) ids nowhere, nowhere) refl
    ]
