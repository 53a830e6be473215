-- What `unused` answers in a described network.
use Rattle.std.specs.Prelude.{◌<◌, ◌≡◌, ◌≤◌, Err, List, Ok, codes, length, ℕ}
use Rattle.command_job.specs.Lines.{line, query_refusal_line}
use Rattle.command_job.specs.declared.status.Status.{Status}
use Rattle.command_job.specs.declared.status.Status.TheVariants as ends
use Rattle.query_words.specs.Unbounded.{unbounded_query_of}
use Rattle.query_words.specs.declared.queries.Query.{Query}
use Rattle.query_words.specs.declared.refusal.QueryRefusal.{QueryRefusal}
use Rattle.vpc_laws.specs.Types.{Description}
use Rattle.unused_rules.specs.Lines.{IsRulesText}
use Rattle.unused_rules.specs.Rules.{rules_of}

-- how many rules are judged at most
abbrev pub rule_limit : ℕ
rule_limit = 2000

-- the line of the refusal of a network with more
abbrev pub too_many_line : List ℕ
too_many_line = line (codes "refused unused TooManyRules")

-- each rule is judged
pub record AreJudgedFor (d : Description) (query : Query) (status : Status) (text : List ℕ) : Type 0 where
  pub status_is : status ≡ ends.Yes
  pub rules : IsRulesText d query text

-- that there are too many rules, whether the query's requests meet them or not; or each of them judged
pub data IsUnusedFor (d : Description) (query : Query) (status : Status) (text : List ℕ) : Type 0 where
  too_many : rule_limit < length (rules_of d) → status ≡ ends.Query → text ≡ too_many_line → IsUnusedFor d query status text
  told : length (rules_of d) ≤ rule_limit → AreJudgedFor d query status text → IsUnusedFor d query status text

-- what `unused` answers to its words: why they can't be taken, or what is answered for the query that they give
pub data IsUnusedAnswered (d : Description) (words : List (List ℕ)) (status : Status) (text : List ℕ) : Type 0 where
  refused : (refusal : QueryRefusal) → unbounded_query_of d words ≡ Err refusal → status ≡ ends.Query → text ≡ query_refusal_line refusal → IsUnusedAnswered d words status text
  answered : (query : Query) → unbounded_query_of d words ≡ Ok query → IsUnusedFor d query status text → IsUnusedAnswered d words status text

-- ---- completeness

-- where the words are right and the rules few enough, each rule is judged
pub record IsUnusedDecided (d : Description) (words : List (List ℕ)) (status : Status) : Type 0 where
  pub yes : (query : Query) → unbounded_query_of d words ≡ Ok query → length (rules_of d) ≤ rule_limit → status ≡ ends.Yes
