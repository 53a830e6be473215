-- What a matrix has to do with the questions of `ask`.
use Rattle.std.specs.Prelude.{◌↔◌, ◌≡◌, ◌≤◌, [], List, Option, is_some, true, ℕ}
use Rattle.header_boxes.specs.Boxes.{holds}
use Rattle.header_boxes.specs.Rows.{IsFirst, NoneThrough}
use Rattle.network_reach.specs.Reached.{meaning_in}
use Rattle.ordered_cover.specs.Ports.{is_in_ranges}
use Rattle.query_words.specs.declared.queries.Query.{Query}
use Rattle.vpc_laws.specs.Types.{Description, EniNo, Header}
use Rattle.vpc_model.specs.Appliances.{appliances_of}
use Rattle.vpc_model.specs.Verdict.{verdict_of}
use Rattle.vpc_model.specs.declared.outcomes.Verdict.TheVariants as verdicts
use Rattle.reach_matrix.specs.Pairs.{query_between}
use Rattle.reach_matrix.specs.Ranges.{ArePairRanges}

-- some request of the query gets through, and its reply
pub record SomeGetsThrough (d : Description) (query : Query) : Type 0 where
  pub header : Header
  pub inside : holds header query.sides ≡ true
  pub through : verdict_of d (appliances_of d) query.start query.goal header ≡ verdicts.Through

-- a port that is asked for is in a pair's ranges exactly where some request of the query about that port alone gets through
abbrev pub PortsAreAnswered : Type 0
PortsAreAnswered =
    (d : Description) (ports : ℕ × ℕ) (pair : EniNo × EniNo) (ranges : List (ℕ × ℕ)) (port : ℕ) → ArePairRanges d ports pair ranges → ports.0 ≤ port → port ≤ ports.1
    → (is_in_ranges ranges port ≡ true) ↔ SomeGetsThrough d (query_between d pair (port, port))

-- and so exactly where that query has a first one
abbrev pub PortsHaveFirsts : Type 0
PortsHaveFirsts =
    (d : Description) (ports : ℕ × ℕ) (pair : EniNo × EniNo) (ranges : List (ℕ × ℕ)) (port : ℕ) (found : Option Header) → ArePairRanges d ports pair ranges → ports.0 ≤ port → port ≤ ports.1
    → let query = query_between d pair (port, port) in IsFirst (meaning_in d query) query.sides found → is_in_ranges ranges port ≡ is_some found

-- no other port is in them
abbrev pub PortsAreAsked : Type 0
PortsAreAsked =
    (d : Description) (ports : ℕ × ℕ) (pair : EniNo × EniNo) (ranges : List (ℕ × ℕ)) (port : ℕ) → ArePairRanges d ports pair ranges → is_in_ranges ranges port ≡ true → (ports.0 ≤ port) × (port ≤ ports.1)

-- a pair is blocked exactly where no request of the query about all the ports gets through
abbrev pub BlockedPairsAreAnswered : Type 0
BlockedPairsAreAnswered =
    (d : Description) (ports : ℕ × ℕ) (pair : EniNo × EniNo) →
    ArePairRanges d ports pair [] ↔ (let query = query_between d pair ports in NoneThrough (meaning_in d query) query.sides)
