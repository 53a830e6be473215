-- Which rules a query needs.
use Rattle.std.specs.Prelude.{◌≡◌, None, Option, Some, true}
use Rattle.header_boxes.specs.Boxes.{IsValid, holds}
use Rattle.query_words.specs.declared.queries.Query.{Query}
use Rattle.vpc_base.specs.Header.{IsBefore}
use Rattle.vpc_laws.specs.Types.{Description, End, Header}
use Rattle.vpc_model.specs.Appliances.{appliances_of}
use Rattle.vpc_model.specs.Sound.{is_end}
use Rattle.vpc_model.specs.Verdict.{verdict_of}
use Rattle.unused_rules.specs.Without.{without}
use Rattle.unused_rules.specs.declared.rules.RuleName.{RuleName}

-- ---- one request

-- its verdict is the same value without the rule: it gets through both times, or one thing stops it, or its reply
abbrev pub StaysTheSame : Description → RuleName → End → End → Header → Type 0
StaysTheSame d rule start goal h =
    verdict_of (without d rule) (appliances_of d) start goal h ≡ verdict_of d (appliances_of d) start goal h

-- it is another, even where it gets through neither time
abbrev pub IsAnother : Description → RuleName → End → End → Header → Type 0
IsAnother d rule start goal h = ¬ (StaysTheSame d rule start goal h)

-- ---- the requests of a query

-- the ends are described, and no side is empty
pub record IsAskedIn (d : Description) (query : Query) : Type 0 where
  pub start : is_end d query.start ≡ true
  pub goal : is_end d query.goal ≡ true
  pub sides : IsValid query.sides

-- no verdict is another: the rule decides nothing
abbrev pub DecidesNothing : Description → RuleName → Query → Type 0
DecidesNothing d rule query = (h : Header) → holds h query.sides ≡ true → StaysTheSame d rule query.start query.goal h

-- the first whose verdict is another
pub record IsFirstAnother (d : Description) (rule : RuleName) (query : Query) (h : Header) : Type 0 where
  pub inside : holds h query.sides ≡ true
  pub another : IsAnother d rule query.start query.goal h
  pub first : (k : Header) → holds k query.sides ≡ true → IsBefore k h → StaysTheSame d rule query.start query.goal k

-- the request that needs the rule first, if one does
abbrev pub IsNeed : Description → RuleName → Query → Option Header → Type 0
IsNeed d rule query (Some h) = IsFirstAnother d rule query h
IsNeed d rule query None = DecidesNothing d rule query
