use Rattle.std.proofs.Common.{◌≡◌, List, ℕ, bytes_eq, drop, position}
use Rattle.std.specs.List.{position_from}
use Rattle.reference_check.specs.FirstNumbers.{number_in}
use Rattle.vpc_model.specs.Choice.{or_else}
use Rattle.reference_check.proofs.first_numbers.FirstNumbers.of.Given as goal

-- what is numbered so far, or else among the remaining rows, is the number of an id
abbrev pub invariant-loop-number : goal.invariant-loop-number
invariant-loop-number g l =
    (id : List ℕ) → or_else (number_in l.numbers id) (position_from (λ r. bytes_eq (g.R.Naming.name_of r) id) l.number (drop l.number l.rows)) ≡ position (λ r. bytes_eq (g.R.Naming.name_of r) id) l.rows
