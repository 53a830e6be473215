-- The rules of a policy: a text with one rule a line, `reachable`, `blocked` or `open` before the words of a query.
use Rattle.std.specs.Prelude.{◌&&◌, ◌==◌, ◌≡◌, ◌-◌, ◌∷◌, [], if◌then◌else◌, Bool, Err, List, None, Ok, Option, Result, Some, bytes_eq, codes, is_none, length, nat_le, not, option_map, slice_index_or, true, ℕ}
use Rattle.std.specs.List.{enumerate_from, filter, filter_map, find}
use Rattle.std.specs.Option.{option_zip}
use Rattle.std.specs.Result.{result_ok}
use Rattle.std.specs.declared.vec.Vec.{Vec}
use Rattle.query_words.specs.Events.{lines_of, words_of}
use Rattle.query_words.specs.Query.{query_of}
use Rattle.query_words.specs.declared.queries.Query.{Query}
use Rattle.vpc_laws.specs.Types.{Description}
use Rattle.policy_check.specs.declared.rules.PolicyRule.{PolicyRule}
use Rattle.policy_check.specs.declared.rules.RulesFault.{RulesFault}
use Rattle.policy_check.specs.declared.rules.RulesFault.TheVariants as faults
use Rattle.policy_check.specs.declared.rules.Wanted.{Wanted}
use Rattle.policy_check.specs.declared.rules.Wanted.TheVariants as wants

-- ---- lines

-- an empty line, or one that begins with `#`
abbrev pub is_passed_over : List ℕ → Bool
is_passed_over [] = true
is_passed_over (c ∷ cs) = c == 35

-- the other lines, each with its number, from 1, among all of them
abbrev pub rule_lines : List (List ℕ) → List (ℕ × List ℕ)
rule_lines lines = filter (λ l. not (is_passed_over l.1)) (enumerate_from 1 lines)

-- ---- rules

-- what is wanted by this name
abbrev pub wanted_of : List ℕ → Option Wanted
wanted_of name =
    if bytes_eq name (codes "reachable") then Some wants.Reachable
    else (if bytes_eq name (codes "blocked") then Some wants.Blocked
    else (if bytes_eq name (codes "open") then Some wants.Open else None))

-- the last pair of a query's words is `max N`, which could stand nowhere else
abbrev pub names_max : List (List ℕ) → Bool
names_max words = bytes_eq (slice_index_or words (length words - 2) []) (codes "max")

-- two ends and at most five pairs
abbrev pub are_query_words : List (List ℕ) → Bool
are_query_words words = nat_le 4 (length words) && (nat_le (length words) 14 && not (names_max words))

-- the query of the words of `ask` after its name and its file, without `max N`
abbrev pub query_in : Description → List (List ℕ) → Option Query
query_in d words = if are_query_words words then result_ok (query_of d (codes "ask" ∷ [] ∷ words)) else None

-- the rule of a line's words
abbrev pub rule_in : Description → ℕ → List (List ℕ) → Option PolicyRule
rule_in d number [] = None
rule_in d number (name ∷ words) =
    option_map (λ r. record { line = number; wanted = r.0; query = r.1 }) (option_zip (wanted_of name) (query_in d words))

-- the rule of a line with its number, if it is one
abbrev pub rule_of : Description → ℕ × List ℕ → Option PolicyRule
rule_of d l = rule_in d l.0 (words_of l.1)

-- ---- policies

-- the first of the lines that is no rule
abbrev pub bad_line : Description → List (ℕ × List ℕ) → Option (ℕ × List ℕ)
bad_line d lines = find (λ l. is_none (rule_of d l)) lines

-- the rules of the lines, or the number of the one that is none
abbrev pub rules_in : Description → List (ℕ × List ℕ) → Option (ℕ × List ℕ) → Result (List PolicyRule) ℕ
rules_in d lines (Some l) = Err l.0
rules_in d lines None = Ok (filter_map (rule_of d) lines)

-- the rules among lines, or the number of the first line that is neither passed over nor a rule
abbrev pub rules_among : Description → List (List ℕ) → Result (List PolicyRule) ℕ
rules_among d lines = let read = rule_lines lines in rules_in d read (bad_line d read)

-- those of a text
abbrev pub rules_of : Description → List ℕ → Result (List PolicyRule) ℕ
rules_of d text = rules_among d (lines_of text)

-- the rules that are meant, or the first bad line, or memory was wanting
abbrev pub AreRead : {A : Type 0} → Result (List PolicyRule) ℕ → Result (Vec PolicyRule A) RulesFault → Type 0
AreRead meant (Ok rules) = meant ≡ Ok rules.items
AreRead meant (Err (faults.BadLine number)) = meant ≡ Err number
AreRead meant (Err faults.Memory) = Unit {0}
