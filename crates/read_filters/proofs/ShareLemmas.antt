-- Rules handed out one by one.
use Rattle.std.proofs.Common.{◌≡◌, ◌∙◌, ◌++◌, ◌∷◌, ◌+◌, ◌==◌, ◌<◌, ◌≤◌, ℕ, zero, suc, Bool, true, false, List, [], refl, ap, map, append_assoc, length, get_or, set, arith}
use Rattle.std.specs.Prelude.{if◌then◌else◌}
use Rattle.std.proofs.lemmas.Bool.Decides.{nat_tests}
use Rattle.std.proofs.lemmas.List.{append-nil}
use Rattle.std.proofs.lemmas.List.Elements.{filter-append}
use Rattle.vpc_model.specs.declared.rows.Group.{Group}
use Rattle.read_filters.specs.GroupRules.{groups_from, rules_at, with_rules}
use Rattle.read_filters.specs.Shares.{handed, shares_from, with_shares}
use Rattle.read_filters.specs.declared.group_rules.GroupRule.{GroupRule}

-- the shares after all of the rules were handed out
abbrev pub handed_all : List GroupRule → List (List GroupRule) → List (List GroupRule)
handed_all [] shares = shares
handed_all (rule ∷ rules) shares = handed_all rules (handed 0 rule shares)

-- one more rule of this number, or of another
pub rules_at-append : (n : ℕ) (rules : List GroupRule) (rule : GroupRule) → rules_at n (rules ++ rule ∷ []) ≡ (if rule.number == n then rules_at n rules ++ rule ∷ [] else rules_at n rules)
rules_at-append n rules rule = filter-append (λ r. r.number == n) rules (rule ∷ []) ∙ by (rule.number == n)
  where
    by : (b : Bool) → rules_at n rules ++ (if b then rule ∷ [] else []) ≡ (if b then rules_at n rules ++ rule ∷ [] else rules_at n rules)
    by true = refl
    by false = append-nil (rules_at n rules)

-- the shares of some rules, and of one more
pub handed-shares_from : (n : ℕ) (rules : List GroupRule) (rule : GroupRule) (groups : List Group) → handed n rule (shares_from n rules groups) ≡ shares_from n (rules ++ rule ∷ []) groups
handed-shares_from n rules rule [] = refl
handed-shares_from n rules rule (group ∷ groups) = rw (rules_at-append n rules rule, handed-shares_from (n + 1) rules rule groups)

-- the shares of some rules, and of more
pub handed_all-shares_from : (rules more : List GroupRule) (groups : List Group) → handed_all more (shares_from 0 rules groups) ≡ shares_from 0 (rules ++ more) groups
handed_all-shares_from rules [] groups = rw (append-nil rules)
handed_all-shares_from rules (rule ∷ more) groups =
    rw (handed-shares_from 0 rules rule groups)
    (handed_all-shares_from (rules ++ rule ∷ []) more groups ∙ ap (λ all. shares_from 0 all groups) (append_assoc rules (rule ∷ []) more))

-- nothing was handed out yet
pub shares_from-nil : (n : ℕ) (groups : List Group) → shares_from n [] groups ≡ map (λ g. []) groups
shares_from-nil n [] = refl
shares_from-nil n (group ∷ groups) = ap (λ (rest : List (List GroupRule)). [] ∷ rest) (shares_from-nil (n + 1) groups)

-- all rules handed out
pub handed_all-map : (rules : List GroupRule) (groups : List Group) → handed_all rules (map (λ g. []) groups) ≡ shares_from 0 rules groups
handed_all-map rules groups = rw (← shares_from-nil 0 groups) (handed_all-shares_from [] rules groups)

-- each group has its share
pub with_shares-shares_from : (n : ℕ) (rules : List GroupRule) (groups : List Group) → with_shares (shares_from n rules groups) groups ≡ groups_from n rules groups
with_shares-shares_from n rules [] = refl
with_shares-shares_from n rules (group ∷ groups) = ap (λ rest. with_rules (rules_at n rules) group ∷ rest) (with_shares-shares_from (n + 1) rules groups)

pub ruleset shared = (with_shares-shares_from, handed_all-map)

-- a rule of an earlier group
pub handed-before : (n : ℕ) (rule : GroupRule) (shares : List (List GroupRule)) → rule.number < n → handed n rule shares ≡ shares
handed-before n rule [] h = refl
handed-before n rule (share ∷ shares) h =
    let other : (rule.number == n) ≡ false = grind (arith, nat_tests) in
    let after : rule.number < n + 1 = omega arith in
    rw (other, handed-before (n + 1) rule shares after)

-- a rule of a later group
pub handed-after : (n : ℕ) (rule : GroupRule) (shares : List (List GroupRule)) → n + length shares ≤ rule.number → handed n rule shares ≡ shares
handed-after n rule [] h = refl
handed-after n rule (share ∷ shares) h =
    let other : (rule.number == n) ≡ false = grind (arith, nat_tests) in
    let after : (n + 1) + length shares ≤ rule.number = omega arith in
    rw (other, handed-after (n + 1) rule shares after)

-- a rule that is put at its number
pub handed-set : {V : Type 0} (items : V → List GroupRule) (n : ℕ) (rule : GroupRule) (shares : List V) (k : ℕ) (share put : V)
    → rule.number ≡ n + k → k < length shares → share ≡ get_or shares k share → items put ≡ items share ++ rule ∷ []
    → map items (set shares k put) ≡ handed n rule (map items shares)
handed-set items n rule [] k share put at within is e = absurd (omega arith)
handed-set items n rule (s ∷ shares) zero share put at within is e =
    let same : (rule.number == n) ≡ true = grind (arith, nat_tests) in
    let before : rule.number < n + 1 = omega arith in
    rw (same, handed-before (n + 1) rule (map items shares) before, e, is)
handed-set items n rule (s ∷ shares) (suc k) share put at within is e =
    let other : (rule.number == n) ≡ false = grind (arith, nat_tests) in
    let next : rule.number ≡ (n + 1) + k = omega arith in
    let left : k < length shares = omega arith in
    rw other (ap (λ rest. items s ∷ rest) (handed-set items (n + 1) rule shares k share put next left is e))
