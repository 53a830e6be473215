-- Rules judged one after another, and counted.
use Rattle.std.proofs.Common.{◌+◌, ◌≡◌, ◌<◌, ◌∙◌, ◌++◌, ◌∷◌, [], Bool, List, ap, arith, cond, get_or, length, refl, sym, take, ℕ}
use Rattle.std.specs.Prelude.{count_by}
use Rattle.std.specs.List.{flat_map}
use Rattle.std.proofs.lemmas.List.{length-map, length-take, map-append, take_more}
use Rattle.std.proofs.lemmas.List.Elements.{All-append, All-cons, All-nil}
use Rattle.std.proofs.lemmas.List.Sums.{sum_by-cons, sum_by_push}
use Rattle.vpc_base.proofs.Steps.{pushed-flat_map}
use Rattle.vpc_laws.specs.Types.{Description}
use Rattle.command_job.specs.declared.status.Status.{Status}
use Rattle.policy_check.specs.Policy.{AddsLine, AddsLines, AreJudged, IsJudged, Judged, is_failed, is_held, is_unknown, judged_line, status_of, tally_line, tally_of, with_one}
use Rattle.policy_check.specs.declared.counts.Tally.{Tally}
use Rattle.policy_check.specs.declared.judging.Finding.{Finding}
use Rattle.policy_check.specs.declared.judging.Finding.TheVariants as findings
use Rattle.policy_check.specs.declared.rules.PolicyRule.{PolicyRule}

-- ---- one rule more

abbrev of_rule : Judged → PolicyRule
of_rule j = j.rule

abbrev with_found : PolicyRule → Finding → Judged
with_found rule found = record { rule = rule; found = found }

-- of how many rules this is found
abbrev counted : (Finding → Bool) → List Judged → ℕ
counted test judged = count_by (λ j. test j.found) judged

abbrev one_if : Bool → ℕ
one_if b = cond b 1 0

pushed : (test : Finding → Bool) (judged : List Judged) (j : Judged) (n : ℕ)
    → one_if (test j.found) ≡ n → counted test judged + n ≡ counted test (judged ++ j ∷ [])
pushed test judged j n is =
    ap (λ (k : ℕ). counted test judged + k) (sym is) ∙ sym (sum_by_push (λ (x : Judged). cond (test x.found) 1 0) judged j)

no_more : (a b : ℕ) → a + 0 ≡ b → a ≡ b
no_more a b is = omega arith

not_pushed : (test : Finding → Bool) (judged : List Judged) (j : Judged)
    → one_if (test j.found) ≡ 0 → counted test judged ≡ counted test (judged ++ j ∷ [])
not_pushed test judged j is = no_more (counted test judged) (counted test (judged ++ j ∷ [])) (pushed test judged j 0 is)

abbrev tally_with : ℕ → ℕ → ℕ → Tally
tally_with hold fail unknown = record { hold = hold; fail = fail; unknown = unknown }

same-tally : (a b c x y z : ℕ) → a ≡ x → b ≡ y → c ≡ z → tally_with a b c ≡ tally_with x y z
same-tally a b c x y z hold fail unknown =
    ap (λ (n : ℕ). tally_with n b c) hold ∙ (ap (λ (n : ℕ). tally_with x n c) fail ∙ ap (λ (n : ℕ). tally_with x y n) unknown)

tally_of-push : (judged : List Judged) (rule : PolicyRule) (found : Finding) → with_one (tally_of judged) found ≡ tally_of (judged ++ with_found rule found ∷ [])
tally_of-push judged rule findings.Held =
    let j = with_found rule findings.Held in
    same-tally _ _ _ _ _ _ (pushed is_held judged j 1 refl) (not_pushed is_failed judged j refl) (not_pushed is_unknown judged j refl)
tally_of-push judged rule (findings.Failed failure) =
    let j = with_found rule (findings.Failed failure) in
    same-tally _ _ _ _ _ _ (not_pushed is_held judged j refl) (pushed is_failed judged j 1 refl) (not_pushed is_unknown judged j refl)
tally_of-push judged rule (findings.NotKnown halt) =
    let j = with_found rule (findings.NotKnown halt) in
    same-tally _ _ _ _ _ _ (not_pushed is_held judged j refl) (not_pushed is_failed judged j refl) (pushed is_unknown judged j 1 refl)

pub adds_more : (d : Description) (rules : List PolicyRule) (i : ℕ) (e : PolicyRule) (old mid new : List ℕ) (tally : Tally) (found : Finding)
    → i < length rules → AddsLines d (take i rules) old mid tally → AddsLine d (get_or rules i e) mid new found
    → AddsLines d (take (i + 1) rules) old new (with_one tally found)
adds_more d rules i e old mid new tally found below before adds =
    let rule = get_or rules i e in
    let j = with_found rule found in
    record {
      judged = before.judged ++ j ∷ [];
      of_rules = map-append of_rule before.judged (j ∷ [])
          ∙ (ap (λ (rs : List PolicyRule). rs ++ rule ∷ []) before.of_rules ∙ sym (take_more rules i e below));
      each = All-append (IsJudged d) before.judged (j ∷ []) before.each (All-cons (IsJudged d) j [] adds.is_found (All-nil (IsJudged d)));
      text_is = pushed-flat_map (judged_line d) before.judged j old mid new before.text_is adds.text_is;
      tally_is = ap (λ (t : Tally). with_one t found) before.tally_is ∙ tally_of-push before.judged rule found;
    }

-- ---- counts

abbrev sum_of : Tally → ℕ
sum_of t = t.hold + t.fail + t.unknown

one_of_three : (x : Finding) (h f u n : ℕ) → h + f + u ≡ n → (cond (is_held x) 1 0 + h) + (cond (is_failed x) 1 0 + f) + (cond (is_unknown x) 1 0 + u) ≡ n + 1
one_of_three findings.Held h f u n is = omega arith
one_of_three (findings.Failed failure) h f u n is = omega arith
one_of_three (findings.NotKnown halt) h f u n is = omega arith

three_more : (h f u a b c n m : ℕ) → h ≡ a → f ≡ b → u ≡ c → a + b + c ≡ n + 1 → m ≡ n + 1 → h + f + u ≡ m
three_more h f u a b c n m hold fail unknown all more = omega arith

-- each rule is counted once
sum_of-tally_of : (judged : List Judged) → sum_of (tally_of judged) ≡ length judged
sum_of-tally_of [] = refl
sum_of-tally_of (j ∷ judged) =
    three_more (counted is_held (j ∷ judged)) (counted is_failed (j ∷ judged)) (counted is_unknown (j ∷ judged)) _ _ _ (length judged) (length (j ∷ judged))
    (sum_by-cons (λ (x : Judged). cond (is_held x.found) 1 0) j judged)
    (sum_by-cons (λ (x : Judged). cond (is_failed x.found) 1 0) j judged)
    (sum_by-cons (λ (x : Judged). cond (is_unknown x.found) 1 0) j judged)
    (one_of_three j.found (counted is_held judged) (counted is_failed judged) (counted is_unknown judged) (length judged) (sum_of-tally_of judged))
    (omega arith)

-- so fewer were counted than there are rules
pub adds-room : (d : Description) (rules : List PolicyRule) (i : ℕ) (old new : List ℕ) (tally : Tally)
    → i < length rules → AddsLines d (take i rules) old new tally → tally.hold + tally.fail + tally.unknown < length rules
adds-room d rules i old new tally below adds =
    let counts : sum_of tally ≡ length adds.judged = ap sum_of adds.tally_is ∙ sum_of-tally_of adds.judged in
    let all : length adds.judged ≡ length (take i rules) = sym (length-map adds.judged of_rule) ∙ ap length adds.of_rules in
    omega (arith, length-take i rules)

-- ---- answers

-- what was added to no text, and the counts behind it
pub are_judged : (d : Description) (rules : List PolicyRule) (old mid text : List ℕ) (tally : Tally) (status : Status)
    → old ≡ [] → AddsLines d rules old mid tally → text ≡ mid ++ tally_line tally → status ≡ status_of tally → AreJudged d rules status text
are_judged d rules old mid text tally status empty adds says ends_so =
    record {
      judged = adds.judged;
      of_rules = adds.of_rules;
      each = adds.each;
      status_is = ends_so ∙ ap status_of adds.tally_is;
      text_is = says
          ∙ (ap (λ (t : List ℕ). t ++ tally_line tally) (adds.text_is ∙ ap (λ (t : List ℕ). t ++ flat_map (judged_line d) adds.judged) empty)
          ∙ ap (λ (t : Tally). flat_map (judged_line d) adds.judged ++ tally_line t) adds.tally_is);
    }
