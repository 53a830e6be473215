-- Rules, one after another.
use Rattle.std.proofs.Common.{◌≡◌, ◌++◌, ◌+◌, ◌<◌, ◌∷◌, [], ℕ, List, arith, get_or, length, subst, suc, sym, take}
use Rattle.std.proofs.lemmas.List.{length-take-le}
use Rattle.vpc_base.specs.declared.headers.Dir.{Dir}
use Rattle.vpc_model.specs.declared.rows.Description.{Description}
use Rattle.vpc_model.specs.declared.rows.Permission.{Permission}
use Rattle.security_groups.specs.declared.rules.Rule.{Rule}
use Rattle.security_groups.specs.Resolved.{AreRulesOf, IsRuleOf}
use Rattle.security_groups.proofs.Steps.{take_next}

-- a rule at the end
are_rules-push : (d : Description) (dir : Dir) (vpc : List ℕ) (n : ℕ) (ps : List Permission) (rs : List Rule) (p : Permission) (r : Rule) → AreRulesOf d dir vpc n ps rs → IsRuleOf d dir vpc (n + length ps) p r → AreRulesOf d dir vpc n (ps ++ p ∷ []) (rs ++ r ∷ [])
are_rules-push d dir vpc n [] [] p r are one =
    let none : n + 0 ≡ n = omega arith in
    (subst (λ (k : ℕ). IsRuleOf d dir vpc k p r) none one, tt)
are_rules-push d dir vpc n [] (s ∷ ss) p r are one = absurd are
are_rules-push d dir vpc n (q ∷ qs) [] p r are one = absurd are
are_rules-push d dir vpc n (q ∷ qs) (s ∷ ss) p r are one =
    let number : n + suc (length qs) ≡ (n + 1) + length qs = omega arith in
    (are.0, are_rules-push d dir vpc (n + 1) qs ss p r are.1 (subst (λ (k : ℕ). IsRuleOf d dir vpc k p r) number one))

-- one more
pub rules-next : (d : Description) (dir : Dir) (vpc : List ℕ) (ps : List Permission) (k : ℕ) (p : Permission) (r : Rule) (now next : List Rule) → k < length ps → p ≡ get_or ps k p → AreRulesOf d dir vpc 1 (take k ps) now → IsRuleOf d dir vpc (k + 1) p r
    → next ≡ now ++ r ∷ []
    → AreRulesOf d dir vpc 1 (take (k + 1) ps) next
rules-next d dir vpc ps k p r now next within is are one added =
    let long = length-take-le k ps (omega arith) in
    let number : k + 1 ≡ 1 + length (take k ps) = omega arith in
    let more = are_rules-push d dir vpc 1 (take k ps) now p r are (subst (λ (n : ℕ). IsRuleOf d dir vpc n p r) number one) in
    subst (AreRulesOf d dir vpc 1 (take (k + 1) ps)) (sym added) (subst (λ (qs : List Permission). AreRulesOf d dir vpc 1 qs (now ++ r ∷ [])) (sym (take_next ps k p within is)) more)
