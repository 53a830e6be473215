-- The words of `reach FILE`: `from END`, `to END`, `proto PROTO`, `src PREFIX`, `dst PREFIX`, `sport A-B`, `port A-B` and `max N`,
-- in this order and each at most once.
use Rattle.std.specs.Prelude.{◌≡◌, ◌≤◌, ◌||◌, if◌then◌else◌, Bool, Err, IfSome, List, None, Ok, Option, Result, Some, codes, is_some, true, ℕ}
use Rattle.vpc_laws.specs.Types.{Description, End}
use Rattle.vpc_model.specs.Sound.{is_end}
use Rattle.vpc_model.specs.declared.places.End.TheVariants as ends
use Rattle.query_words.specs.Ends.{end_of, start_of}
use Rattle.query_words.specs.Pairs.{IsSide, no_more, pair_or, read_max, read_ports, read_side}
use Rattle.query_words.specs.Refusal.{◌>>=◌}
use Rattle.query_words.specs.Sides.{src_of}
use Rattle.query_words.specs.Words.{has_ports, port_limit, proto_of, read_as}
use Rattle.query_words.specs.declared.pairs.Taken.{Taken}
use Rattle.query_words.specs.declared.reaches.ReachPairs.{ReachPairs}
use Rattle.query_words.specs.declared.reaches.ReachQuery.{ReachQuery}
use Rattle.query_words.specs.declared.refusal.QueryRefusal.{QueryRefusal}
use Rattle.query_words.specs.declared.refusal.QueryRefusal.TheVariants as refusals

-- ---- ends

-- END
abbrev pub given_end : Description → List (List ℕ) → ℕ → Result (Option End) QueryRefusal
given_end d words n = end_of d words n >>= (λ e. Ok (Some e))

-- END, from which requests are sent
abbrev pub given_start : Description → List (List ℕ) → ℕ → Result (Option End) QueryRefusal
given_start d words n = start_of d words n >>= (λ e. Ok (Some e))

-- not the internet both
abbrev pub apart : Option End → Option End → Result (Unit {0}) QueryRefusal
apart (Some ends.Internet) (Some ends.Internet) = Err refusals.BothInternet
apart start goal = Ok tt

-- ---- protocols and ports

-- PROTO
abbrev pub read_given_proto : List (List ℕ) → ℕ → Result (Option ℕ) QueryRefusal
read_given_proto words n = read_as proto_of words n >>= (λ proto. Ok (Some proto))

-- A-B
abbrev pub read_given_ports : List (List ℕ) → ℕ → Result (Option (ℕ × ℕ)) QueryRefusal
read_given_ports words n = read_ports words n >>= (λ ports. Ok (Some ports))

-- ports may be given where no protocol is
abbrev pub may_have_ports : Option ℕ → Bool
may_have_ports None = true
may_have_ports (Some proto) = has_ports proto

-- `sport` and `port`; a protocol without ports has none of the two words
abbrev pub given_ports : Option ℕ → List ℕ → List (List ℕ) → ℕ → Result (Taken (Option (ℕ × ℕ))) QueryRefusal
given_ports proto name words n =
    if may_have_ports proto then pair_or None name read_given_ports words n
    else Ok (record { value = None; next = n })

-- the protocol that is given; else TCP where ports are, and all where none are
abbrev pub protos_of : Option ℕ → Bool → ℕ × ℕ
protos_of (Some proto) ports = (proto, proto)
protos_of None ports = if ports then (6, 6) else (0, 255)

-- the ports that are given; else all that the protocol has
abbrev pub ports_of : Option ℕ → Option (ℕ × ℕ) → ℕ × ℕ
ports_of proto (Some ports) = ports
ports_of (Some proto) None = (0, port_limit proto)
ports_of None None = (0, 65535)

-- ---- the pairs after the ends

-- from the word with this number on, or the first word that can't be taken
abbrev pub reach_pairs_of : List (List ℕ) → ℕ → Result ReachPairs QueryRefusal
reach_pairs_of words n = do
  proto ← pair_or None (codes "proto") read_given_proto words n
  src ← pair_or None (codes "src") read_side words proto.next
  dst ← pair_or None (codes "dst") read_side words src.next
  sport ← given_ports proto.value (codes "sport") words dst.next
  port ← given_ports proto.value (codes "port") words sport.next
  max ← pair_or 20000 (codes "max") read_max words port.next
  end ← no_more words max.next
  Ok (record {
    proto = protos_of proto.value (is_some sport.value || is_some port.value);
    src = src.value;
    dst = dst.value;
    p = ports_of proto.value sport.value;
    q = ports_of proto.value port.value;
    max = max.value;
  })

-- no side is empty, and the number of rows is in its range
pub record AreReachPairs (pairs : ReachPairs) : Type 0 where
  pub proto : IsSide pairs.proto
  pub src : IfSome pairs.src IsSide
  pub dst : IfSome pairs.dst IsSide
  pub p : IsSide pairs.p
  pub q : IsSide pairs.q
  pub least : 1 ≤ pairs.max
  pub most : pairs.max ≤ 20000

-- ---- the query

-- a start that is given has a source: that which is given, or its own
abbrev pub sourced : Description → Option End → Option (ℕ × ℕ) → Result (Unit {0}) QueryRefusal
sourced d None src = Ok tt
sourced d (Some start) src = src_of d start src >>= (λ side. Ok tt)

-- the query, or the first word that can't be taken; that an address is missing is told last
abbrev pub reach_query_of : Description → List (List ℕ) → Result ReachQuery QueryRefusal
reach_query_of d words = do
  from ← pair_or None (codes "from") (given_start d) words 3
  to ← pair_or None (codes "to") (given_end d) words from.next
  both ← apart from.value to.value
  pairs ← reach_pairs_of words to.next
  source ← sourced d from.value pairs.src
  Ok (record { start = from.value; goal = to.value; pairs = pairs })

-- the ends that are given are described
pub record AreGivenEnds (d : Description) (query : ReachQuery) : Type 0 where
  pub start : IfSome query.start (λ e. is_end d e ≡ true)
  pub goal : IfSome query.goal (λ e. is_end d e ≡ true)
