-- What an answer to a policy says of its rules.
use Rattle.std.proofs.Common.{◌≡◌, ◌<◌, ◌∙◌, ◌+◌, ◌∷◌, [], Bool, Err, List, Ok, ap, arith, cond, get_or, if◌then◌else◌, map, nat_lt, refl, subst, suc, sym, true, false, ℕ}
use Rattle.std.specs.Prelude.{count_by}
use Rattle.std.specs.List.{All, Contains}
use Rattle.std.proofs.lemmas.Bool.Decides.{nat_tests}
use Rattle.std.proofs.lemmas.List.Elements.{All-cons, All-nil}
use Rattle.std.proofs.lemmas.List.Sums.{sum_by-cons}
use Rattle.command_job.proofs.Devices.{no_device, no_is_none, query_is_none, unknown_is_none, yes_is_none}
use Rattle.command_job.specs.Status.{IsOfDevice}
use Rattle.command_job.specs.declared.status.Status.{Status}
use Rattle.command_job.specs.declared.status.Status.TheVariants as ends
use Rattle.vpc_laws.specs.Types.{Description}
use Rattle.policy_check.proofs.Rulings.{fails_if_found, fails_if_holds, undecided_if_fails, undecided_if_found, undecided_if_holds}
use Rattle.policy_check.specs.Policy as policies
use Rattle.policy_check.specs.Policy.{AreJudged, ArePoliciesJudged, IsExpectDecided, IsJudged, IsPolicyDecided, Judged, PoliciesAreDecided, PoliciesAreOfNoDevice, RuleFails, RuleHolds, RuleIsUndecided, SomeFails, SomeUndecided, is_failed, is_unknown, status_of, tally_of}
use Rattle.policy_check.specs.Judged.{IsFound}
use Rattle.policy_check.specs.Rules.{rules_of}
use Rattle.policy_check.specs.declared.halts.Halt.{Halt}
use Rattle.policy_check.specs.declared.judging.Finding.{Finding}
use Rattle.policy_check.specs.declared.judging.Finding.TheVariants as findings
use Rattle.policy_check.specs.declared.rules.PolicyRule.{PolicyRule}

-- ---- lists of judged rules

abbrev of_rule : Judged → PolicyRule
of_rule j = j.rule

abbrev failing : List Judged → ℕ
failing js = count_by (λ j. is_failed j.found) js

abbrev left_open : List Judged → ℕ
left_open js = count_by (λ j. is_unknown j.found) js

-- all hold; or some failed and one fails; or some weren't known and none fails
data Sorts (d : Description) (js : List Judged) : Type 0 where
  all_hold : failing js ≡ 0 → left_open js ≡ 0 → All (RuleHolds d) (map of_rule js) → Sorts d js
  some_fail : 0 < failing js → SomeFails d (map of_rule js) → Sorts d js
  some_unknown : failing js ≡ 0 → 0 < left_open js → SomeUndecided d (map of_rule js) → Sorts d js

failing-cons : (j : Judged) (js : List Judged) → failing (j ∷ js) ≡ cond (is_failed j.found) 1 0 + failing js
failing-cons j js = sum_by-cons (λ (x : Judged). cond (is_failed x.found) 1 0) j js

left_open-cons : (j : Judged) (js : List Judged) → left_open (j ∷ js) ≡ cond (is_unknown j.found) 1 0 + left_open js
left_open-cons j js = sum_by-cons (λ (x : Judged). cond (is_unknown x.found) 1 0) j js

abbrev DoesntFail : Description → PolicyRule → Type 0
DoesntFail d rule = ¬ (RuleFails d rule)

none_fails : (d : Description) (rules : List PolicyRule) → All (RuleHolds d) rules → All (DoesntFail d) rules
none_fails d rules all = λ k x below fails. let rule = get_or rules k x in fails_if_holds d rule.wanted rule.query fails (all k x below)

fails_later : (d : Description) (rule : PolicyRule) (rules : List PolicyRule) → SomeFails d rules → SomeFails d (rule ∷ rules)
fails_later d rule rules some = record {
  rule = some.rule;
  among = (suc some.among.0, omega arith, some.among.2);
  fails = some.fails;
}

unknown_later : (d : Description) (rule : PolicyRule) (rules : List PolicyRule) → DoesntFail d rule → SomeUndecided d rules → SomeUndecided d (rule ∷ rules)
unknown_later d rule rules not some = record {
  none_fails = All-cons (DoesntFail d) rule rules not some.none_fails;
  rule = some.rule;
  among = (suc some.among.0, omega arith, some.among.2);
  undecided = some.undecided;
}

one_more : (n m : ℕ) → n ≡ 1 + m → 0 < n
one_more n m is = omega arith

as_many : (n m : ℕ) → n ≡ 0 + m → m ≡ 0 → n ≡ 0
as_many n m is none = omega arith

no_fewer : (n m : ℕ) → n ≡ 0 + m → 0 < m → 0 < n
no_fewer n m is some = omega arith

abbrev judged_so : PolicyRule → Finding → Judged
judged_so rule found = record { rule = rule; found = found }

held-sorts : (d : Description) (rule : PolicyRule) (js : List Judged) → RuleHolds d rule → Sorts d js → Sorts d (judged_so rule findings.Held ∷ js)
held-sorts d rule js is (all_hold none known all) =
    let j = judged_so rule findings.Held in
    all_hold (as_many _ _ (failing-cons j js) none) (as_many _ _ (left_open-cons j js) known) (All-cons (RuleHolds d) rule (map of_rule js) is all)
held-sorts d rule js is (some_fail some fails) =
    some_fail (no_fewer _ _ (failing-cons (judged_so rule findings.Held) js) some) (fails_later d rule (map of_rule js) fails)
held-sorts d rule js is (some_unknown none some undecided) =
    let j = judged_so rule findings.Held in
    some_unknown (as_many _ _ (failing-cons j js) none) (no_fewer _ _ (left_open-cons j js) some)
    (unknown_later d rule (map of_rule js) (λ fails. fails_if_holds d rule.wanted rule.query fails is) undecided)

unknown-sorts : (d : Description) (rule : PolicyRule) (halt : Halt) (js : List Judged) → RuleIsUndecided d rule → Sorts d js → Sorts d (judged_so rule (findings.NotKnown halt) ∷ js)
unknown-sorts d rule halt js is (all_hold none known all) =
    let j = judged_so rule (findings.NotKnown halt) in
    some_unknown (as_many _ _ (failing-cons j js) none) (one_more _ _ (left_open-cons j js))
    (record {
      none_fails = All-cons (DoesntFail d) rule (map of_rule js) (λ fails. undecided_if_fails d rule.wanted rule.query is fails) (none_fails d (map of_rule js) all);
      rule = rule;
      among = (0, omega arith, refl);
      undecided = is;
    })
unknown-sorts d rule halt js is (some_fail some fails) =
    some_fail (no_fewer _ _ (failing-cons (judged_so rule (findings.NotKnown halt)) js) some) (fails_later d rule (map of_rule js) fails)
unknown-sorts d rule halt js is (some_unknown none some undecided) =
    let j = judged_so rule (findings.NotKnown halt) in
    some_unknown (as_many _ _ (failing-cons j js) none) (one_more _ _ (left_open-cons j js))
    (unknown_later d rule (map of_rule js) (λ fails. undecided_if_fails d rule.wanted rule.query is fails) undecided)

sorts-one : (d : Description) (rule : PolicyRule) (found : Finding) (js : List Judged) → IsFound d rule.wanted rule.query found → Sorts d js → Sorts d (judged_so rule found ∷ js)
sorts-one d rule findings.Held js is rest = held-sorts d rule js is rest
sorts-one d rule (findings.Failed failure) js is rest =
    some_fail (one_more _ _ (failing-cons (judged_so rule (findings.Failed failure)) js))
    (record { rule = rule; among = (0, omega arith, refl); fails = fails_if_found d rule.wanted rule.query failure is })
sorts-one d rule (findings.NotKnown halt) js is rest = unknown-sorts d rule halt js (undecided_if_found d rule.wanted rule.query halt is) rest

sorts : (d : Description) (js : List Judged) → All (IsJudged d) js → Sorts d js
sorts d [] each = all_hold refl refl (All-nil (RuleHolds d))
sorts d (j ∷ js) each = sorts-one d j.rule j.found js (each 0 j (omega arith)) (sorts d js (λ k x below. each (suc k) x (omega arith)))

-- ---- the status

abbrev status_by : Bool → Bool → Status
status_by fails unknown = if fails then ends.No else (if unknown then ends.Unknown else ends.Yes)

no_by : (fails unknown : Bool) → fails ≡ true → status_by fails unknown ≡ ends.No
no_by true unknown is = refl
no_by false unknown is = absurd (cc)

unknown_by : (fails unknown : Bool) → fails ≡ false → unknown ≡ true → status_by fails unknown ≡ ends.Unknown
unknown_by true unknown none some = absurd (cc)
unknown_by false true none some = refl
unknown_by false false none some = absurd (cc)

yes_by : (fails unknown : Bool) → fails ≡ false → unknown ≡ false → status_by fails unknown ≡ ends.Yes
yes_by true unknown none known = absurd (cc)
yes_by false true none known = absurd (cc)
yes_by false false none known = refl

some-test : (n : ℕ) → 0 < n → nat_lt 0 n ≡ true
some-test n some = grind (arith, nat_tests)

none-test : (n : ℕ) → n ≡ 0 → nat_lt 0 n ≡ false
none-test n none = ap (nat_lt 0) none

-- ---- each answer, and no other

member_of_all : (P : PolicyRule → Type 0) (rules : List PolicyRule) (rule : PolicyRule) → All P rules → Contains rules rule → P rule
member_of_all P rules rule all among = subst P among.2 (all among.0 rule among.1)

none_of_held : (d : Description) (rules : List PolicyRule) → All (RuleHolds d) rules → SomeFails d rules → ⊥
none_of_held d rules all some = let rule = some.rule in fails_if_holds d rule.wanted rule.query some.fails (member_of_all (RuleHolds d) rules rule all some.among)

known_of_held : (d : Description) (rules : List PolicyRule) → All (RuleHolds d) rules → SomeUndecided d rules → ⊥
known_of_held d rules all some = let rule = some.rule in undecided_if_holds d rule.wanted rule.query some.undecided (member_of_all (RuleHolds d) rules rule all some.among)

none_of_undecided : (d : Description) (rules : List PolicyRule) → SomeUndecided d rules → SomeFails d rules → ⊥
none_of_undecided d rules undecided some = member_of_all (DoesntFail d) rules some.rule undecided.none_fails some.among some.fails

yes_decides : (d : Description) (rules : List PolicyRule) → All (RuleHolds d) rules → IsPolicyDecided d rules ends.Yes
yes_decides d rules all = record {
  yes = (λ is. all, λ holds. refl);
  no = (λ is. absurd (cc), λ some. absurd (none_of_held d rules all some));
  unknown = (λ is. absurd (cc), λ some. absurd (known_of_held d rules all some));
}

no_decides : (d : Description) (rules : List PolicyRule) → SomeFails d rules → IsPolicyDecided d rules ends.No
no_decides d rules some = record {
  yes = (λ is. absurd (cc), λ all. absurd (none_of_held d rules all some));
  no = (λ is. some, λ fails. refl);
  unknown = (λ is. absurd (cc), λ undecided. absurd (none_of_undecided d rules undecided some));
}

unknown_decides : (d : Description) (rules : List PolicyRule) → SomeUndecided d rules → IsPolicyDecided d rules ends.Unknown
unknown_decides d rules undecided = record {
  yes = (λ is. absurd (cc), λ all. absurd (known_of_held d rules all undecided));
  no = (λ is. absurd (cc), λ some. absurd (none_of_undecided d rules undecided some));
  unknown = (λ is. undecided, λ again. refl);
}

decided : (d : Description) (rules : List PolicyRule) (status : Status) (text : List ℕ) → AreJudged d rules status text → IsPolicyDecided d rules status
decided d rules status text are = by_sort (sorts d are.judged are.each)
  where
    by_sort : Sorts d are.judged → IsPolicyDecided d rules status
    by_sort (all_hold none known all) =
        subst (IsPolicyDecided d rules) (sym (are.status_is ∙ yes_by _ _ (none-test (failing are.judged) none) (none-test (left_open are.judged) known)))
        (yes_decides d rules (subst (All (RuleHolds d)) are.of_rules all))
    by_sort (some_fail some fails) =
        subst (IsPolicyDecided d rules) (sym (are.status_is ∙ no_by _ _ (some-test (failing are.judged) some)))
        (no_decides d rules (subst (SomeFails d) are.of_rules fails))
    by_sort (some_unknown none some undecided) =
        subst (IsPolicyDecided d rules) (sym (are.status_is ∙ unknown_by _ _ (none-test (failing are.judged) none) (some-test (left_open are.judged) some)))
        (unknown_decides d rules (subst (SomeUndecided d) are.of_rules undecided))

-- ---- answers

same_rules : (d : Description) (bytes : List ℕ) (a b : List PolicyRule) → rules_of d bytes ≡ Ok a → rules_of d bytes ≡ Ok b → a ≡ b
same_rules d bytes a b first second = let same : Ok a ≡ Ok b = sym first ∙ second in cc

pub policies_are_decided : PoliciesAreDecided
policies_are_decided d bytes rules status text are (policies.bad_line number is ends_so says) =
    let both : Err number ≡ Ok rules = sym is ∙ are in absurd (cc)
policies_are_decided d bytes rules status text are (policies.judged others is judged) =
    subst (λ (rs : List PolicyRule). IsPolicyDecided d rs status) (same_rules d bytes others rules is are) (decided d others status text judged)

pub expect_is_decided : (d : Description) (bytes : List ℕ) (status : Status) (text : List ℕ) → ArePoliciesJudged d bytes status text → IsExpectDecided d bytes status
expect_is_decided d bytes status text answer rules are = policies_are_decided d bytes rules status text are answer

counted_is_none : (fails unknown : Bool) → IsOfDevice (status_by fails unknown) → ⊥
counted_is_none true unknown of = no_is_none of
counted_is_none false true of = unknown_is_none of
counted_is_none false false of = yes_is_none of

pub policies_are_of_no_device : PoliciesAreOfNoDevice
policies_are_of_no_device d bytes status text (policies.bad_line number is ends_so says) = no_device status ends.Query ends_so query_is_none
policies_are_of_no_device d bytes status text (policies.judged rules is judged) =
    no_device status (status_of (tally_of judged.judged)) judged.status_is (counted_is_none (nat_lt 0 (failing judged.judged)) (nat_lt 0 (left_open judged.judged)))
