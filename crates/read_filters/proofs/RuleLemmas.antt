-- Rules read row by row.
use Rattle.std.proofs.Common.{◌≡◌, ◌∙◌, ◌++◌, ◌+◌, ◌<◌, ℕ, List, Option, Result, Ok, Err, refl, ap, subst, sym, map, drop, get_or, length, append_assoc, codes}
use Rattle.std.specs.Prelude.{IsErrAnd, option_to_list}
use Rattle.vpc_base.proofs.Steps.{drop-next}
use Rattle.serde_json.specs.Data.{Data}
use Rattle.json_fields.specs.FieldFault.{Reads, and_then}
use Rattle.json_fields.specs.Paths.{at_row}
use Rattle.json_fields.specs.declared.fault.FieldFault.{FieldFault}
use Rattle.json_fields.specs.declared.fault.FieldFault.TheVariants.{WrongShape, BadText, Memory}
use Rattle.read_filters.specs.GroupRules.{rule_if, rules_from, seen_with}
use Rattle.read_filters.specs.declared.group_rules.GroupRule.{GroupRule}

-- one more row
pub rules_from-step : {R : Type 0} (shown : R → Data) (number_of : List ℕ → Option ℕ) (seen : List (List ℕ)) (rows : List R) (k : ℕ) (row : R) (all : List GroupRule)
    → k < length rows → row ≡ get_or rows k row
    → and_then (rules_from number_of seen k (map shown (drop k rows))) (λ others. Ok (all ++ others))
    ≡ and_then (rule_if number_of seen (shown row) (at_row (codes "SecurityGroupRules") k)) (λ rule.
    and_then (rules_from number_of (seen_with seen rule) (k + 1) (map shown (drop (k + 1) rows))) (λ others. Ok ((all ++ option_to_list rule) ++ others)))
rules_from-step shown number_of seen rows k row all within at =
    rw (drop-next rows k row within at) (by (rule_if number_of seen (shown row) (at_row (codes "SecurityGroupRules") k)))
  where
    joined : (rule : Option GroupRule) (others : Result (List GroupRule) FieldFault)
        → and_then (and_then others (λ o. Ok (option_to_list rule ++ o))) (λ o. Ok (all ++ o)) ≡ and_then others (λ o. Ok ((all ++ option_to_list rule) ++ o))
    joined rule (Err fault) = refl
    joined rule (Ok others) = ap Ok (sym (append_assoc all (option_to_list rule) others))

    by : (r : Result (Option GroupRule) FieldFault)
        → and_then (and_then r (λ rule. and_then (rules_from number_of (seen_with seen rule) (k + 1) (map shown (drop (k + 1) rows))) (λ o. Ok (option_to_list rule ++ o)))) (λ o. Ok (all ++ o))
        ≡ and_then r (λ rule. and_then (rules_from number_of (seen_with seen rule) (k + 1) (map shown (drop (k + 1) rows))) (λ o. Ok ((all ++ option_to_list rule) ++ o)))
    by (Err fault) = refl
    by (Ok rule) = joined rule (rules_from number_of (seen_with seen rule) (k + 1) (map shown (drop (k + 1) rows)))

-- the first fault is the whole answer
pub Reads-and_then : {A B C D : Type 0} (shows : A → B) (shown : C → D) (meant : Result B FieldFault) (next : B → Result D FieldFault) (whole : Result D FieldFault) (fault : FieldFault)
    → and_then meant next ≡ whole → Reads shows meant (Err fault) → Reads shown whole (Err fault)
Reads-and_then shows shown meant next whole (WrongShape path) e told = sym e ∙ ap (λ m. and_then m next) told
Reads-and_then shows shown meant next whole (BadText path) e told = sym e ∙ ap (λ m. and_then m next) told
Reads-and_then shows shown meant next whole Memory e told = told

-- a row that was read leaves the remaining ones
pub rules_from-next : {R : Type 0} (shown : R → Data) (number_of : List ℕ → Option ℕ) (seen : List (List ℕ)) (rows : List R) (k : ℕ) (row : R) (all : List GroupRule) (rule : Option GroupRule)
    → k < length rows → row ≡ get_or rows k row
    → rule_if number_of seen (shown row) (at_row (codes "SecurityGroupRules") k) ≡ Ok rule
    → and_then (rules_from number_of (seen_with seen rule) (k + 1) (map shown (drop (k + 1) rows))) (λ others. Ok ((all ++ option_to_list rule) ++ others))
    ≡ and_then (rules_from number_of seen k (map shown (drop k rows))) (λ others. Ok (all ++ others))
rules_from-next shown number_of seen rows k row all rule within at read =
    sym
    (rules_from-step shown number_of seen rows k row all within at
    ∙ ap (λ r. and_then r (λ told. and_then (rules_from number_of (seen_with seen told) (k + 1) (map shown (drop (k + 1) rows))) (λ others. Ok ((all ++ option_to_list told) ++ others)))) read)

-- the fault of a row is the whole answer
pub rules_from-fault : {R C : Type 0} (shown : R → Data) (items : C → List GroupRule) (number_of : List ℕ → Option ℕ) (seen : List (List ℕ)) (rows : List R) (k : ℕ) (row : R) (all : List GroupRule) (fault : FieldFault) (whole : Result (List GroupRule) FieldFault) (r : Result C FieldFault)
    → k < length rows → row ≡ get_or rows k row
    → Reads (λ x. x) (rule_if number_of seen (shown row) (at_row (codes "SecurityGroupRules") k)) (Err fault)
    → and_then (rules_from number_of seen k (map shown (drop k rows))) (λ others. Ok (all ++ others)) ≡ whole
    → IsErrAnd r (λ e. e ≡ fault)
    → Reads items whole r
rules_from-fault shown items number_of seen rows k row all fault whole (Ok c) within at told rest same = absurd same
rules_from-fault shown items number_of seen rows k row all fault whole (Err e) within at told rest same =
    let given = Reads-and_then (λ x. x) items (rule_if number_of seen (shown row) (at_row (codes "SecurityGroupRules") k)) (λ rule. and_then (rules_from number_of (seen_with seen rule) (k + 1) (map shown (drop (k + 1) rows))) (λ others. Ok ((all ++ option_to_list rule) ++ others))) whole fault (sym (rules_from-step shown number_of seen rows k row all within at) ∙ rest) told in
    subst (λ f. Reads items whole (Err f)) (sym same) given
