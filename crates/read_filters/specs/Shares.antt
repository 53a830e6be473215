-- Rules handed out to the groups that they are of.
use Rattle.std.specs.Prelude.{ℕ, ◌+◌, ◌==◌, ◌∷◌, ◌++◌, List, [], if◌then◌else◌}
use Rattle.vpc_model.specs.declared.rows.Group.{Group}
use Rattle.read_filters.specs.GroupRules.{rules_at, with_rules}
use Rattle.read_filters.specs.declared.group_rules.GroupRule.{GroupRule}

-- the rules of each group, from the number n on
abbrev pub shares_from : ℕ → List GroupRule → List Group → List (List GroupRule)
shares_from n rules [] = []
shares_from n rules (group ∷ groups) = rules_at n rules ∷ shares_from (n + 1) rules groups

-- the shares, from the number n on, after a rule was handed out
abbrev pub handed : ℕ → GroupRule → List (List GroupRule) → List (List GroupRule)
handed n rule [] = []
handed n rule (share ∷ shares) = (if rule.number == n then share ++ rule ∷ [] else share) ∷ handed (n + 1) rule shares

-- the groups, each with its share, and without one where none is left
abbrev pub with_shares : List (List GroupRule) → List Group → List Group
with_shares shares [] = []
with_shares [] (group ∷ groups) = with_rules [] group ∷ with_shares [] groups
with_shares (share ∷ shares) (group ∷ groups) = with_rules share group ∷ with_shares shares groups
