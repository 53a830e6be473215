-- The number of a rule that allows a packet.
use Rattle.std.proofs.Common.{◌≤◌, suc, zero, ◌≡◌, ◌∙◌, ◌*◌, ◌+◌, ◌||◌, [], ℕ, Bool, List, None, Option, Some, ap, arith, drop, false, get_or, length, refl, subst, sym}
use Rattle.std.specs.List.{list_any}
use Rattle.std.proofs.lemmas.List.{get_or-drop, get_or-take, length-drop, length-take}
use Rattle.address_sets.specs.declared.sets.Run.{Run}
use Rattle.vpc_base.specs.declared.headers.Dir.{Dir}
use Rattle.vpc_base.specs.declared.headers.Header.{Header}
use Rattle.security_groups.specs.Rules.{allows}
use Rattle.security_groups.specs.Dividing.{FindsOne, rule_at}
use Rattle.security_groups.specs.Tables.{AreBegun, AreEnded, AreLasts, run_of}
use Rattle.security_groups.specs.declared.rules.Rule.{Rule}
use Rattle.security_groups.proofs.Runs.{starts-later}
use Rattle.security_groups.proofs.RunsOn.{first-decide, none-ended, none-of, run-parts}
use Rattle.security_groups.specs.Members.{MemberSets}

-- a run without such a rule is left behind
pub run-passed : (p : Rule → Bool) (rules : List Rule) (k : ℕ) → list_any p (run_of k rules) ≡ false → list_any p (drop (16 * k) rules) ≡ list_any p rules
    → list_any p (drop (16 * (k + 1)) rules) ≡ list_any p rules
run-passed p rules k fails so_far = sym (ap (λ b. b || list_any p (drop (16 * (k + 1)) rules)) fails) ∙ sym (run-parts p rules k) ∙ so_far

-- the first runs of a number, which end before the packet's port, are left behind
pub ended-passed : (lists : List (List Run)) (members : MemberSets) (dir : Dir) (h : Header) (rules : List Rule) (lasts : List ℕ) (n : ℕ) → AreLasts rules lasts → AreEnded lasts h.q n
    → (m : ℕ) → m ≤ n → list_any (allows lists members dir h) (drop (16 * m) rules) ≡ list_any (allows lists members dir h) rules
ended-passed lists members dir h rules lasts n are ended zero below = refl
ended-passed lists members dir h rules lasts n are ended (suc m) below =
    let p = allows lists members dir h in
    let few = ended.few in
    let next : m + 1 ≡ suc m = omega arith in
    subst (λ k. list_any p (drop (16 * k) rules) ≡ list_any p rules) next
    (run-passed p rules m
    (none-ended lists members dir h (get_or lasts m 0) (run_of m rules) (are.ends m (omega arith)) (ended.before m (omega arith)))
    (ended-passed lists members dir h rules lasts n are ended m (omega arith)))

-- a rule of a run is one of all
pub run-has : (p : Rule → Bool) (rules : List Rule) (k j : ℕ) → FindsOne p (run_of k rules) (Some j) → FindsOne p rules (Some (16 * k + j))
run-has p rules k j found =
    let none : Rule = rule_at [] 0 in
    let cut = length-take 16 (drop (16 * k) rules) in
    let left = length-drop (16 * k) rules in
    let below = found.0 in
    let same : rule_at (run_of k rules) j ≡ rule_at rules (16 * k + j) = get_or-take 16 (drop (16 * k) rules) j none (omega arith) ∙ get_or-drop (16 * k) rules j none in
    (omega arith, ap p (sym same) ∙ found.1)

-- no rule that begins after the packet's port allows it
pub begun-finds : (lists : List (List Run)) (members : MemberSets) (dir : Dir) (h : Header) (all rules : List Rule) (found : Option ℕ) → AreBegun all h.q rules
    → FindsOne (allows lists members dir h) rules found → FindsOne (allows lists members dir h) all found
begun-finds lists members dir h all rules None are found =
    let p = allows lists members dir h in
    let begun = length rules in
    first-decide p all begun (none-of p (drop begun all) (λ k d within. starts-later lists members dir h (get_or (drop begun all) k d) (are.later k d within)))
    ∙ ap (list_any p) (sym are.first)
    ∙ found
begun-finds lists members dir h all rules (Some k) are found =
    let none : Rule = rule_at [] 0 in
    let below = found.0 in
    let few = are.few in
    let same : rule_at rules k ≡ rule_at all k = ap (λ (rs : List Rule). rule_at rs k) are.first ∙ get_or-take (length rules) all k none below in
    (omega arith, ap (allows lists members dir h) (sym same) ∙ found.1)
