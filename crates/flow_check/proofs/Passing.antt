-- By what groups let packets pass.
use Rattle.std.proofs.Common.{◌≡◌, ◌≤◌, ◌∷◌, [], List, Option, arith, length, option_map, refl, ℕ}
use Rattle.vpc_laws.specs.Types.{RuleRef}
use Rattle.vpc_model.specs.declared.outcomes.By.TheVariants as bys
use Rattle.flow_check.specs.Rules.{by_groups}

-- where there are groups, by their first rule
pub by_groups-some : (groups : List (List ℕ)) (rule : Option RuleRef) → 1 ≤ length groups → by_groups groups rule ≡ option_map (λ r. bys.Rule r) rule
by_groups-some [] rule some = absurd (omega arith)
by_groups-some (g ∷ gs) rule some = refl
