-- Which TCP ports of one interface another one reaches.
use Rattle.std.specs.Prelude.{List, ℕ}
use Rattle.ordered_cover.specs.Ports.{AreOpenPorts}
use Rattle.network_reach.specs.Reached.{meaning_in}
use Rattle.vpc_laws.specs.Types.{Description, EniNo}
use Rattle.reach_matrix.specs.Pairs.{query_between}

-- the ranges ascend, neither overlap nor touch, and hold exactly those of the ports to which some request of the query gets through, from whatever port
abbrev pub ArePairRanges : Description → ℕ × ℕ → EniNo × EniNo → List (ℕ × ℕ) → Type 0
ArePairRanges d ports pair ranges = let query = query_between d pair ports in AreOpenPorts (meaning_in d query) query.sides ranges
