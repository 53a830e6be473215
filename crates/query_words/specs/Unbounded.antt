-- The words of a query about which no report is made: those of `ask` without `max N`.
use Rattle.std.specs.Prelude.{List, None, Ok, Result, codes, ℕ}
use Rattle.vpc_laws.specs.Types.{Description}
use Rattle.query_words.specs.declared.pairs.Pairs.{Pairs}
use Rattle.query_words.specs.declared.queries.Query.{Query}
use Rattle.query_words.specs.declared.refusal.QueryRefusal.{QueryRefusal}
use Rattle.query_words.specs.Ends.{ends_of}
use Rattle.query_words.specs.Pairs.{no_more, pair_or, ports_pair, read_side}
use Rattle.query_words.specs.Refusal.{◌>>=◌}
use Rattle.query_words.specs.Sides.{sides_of}
use Rattle.query_words.specs.Words.{proto_of, read_as}

-- the pairs from the seventh word on, or the first word that can't be taken; `max` is one that can't
abbrev pub unbounded_pairs_of : List (List ℕ) → Result Pairs QueryRefusal
unbounded_pairs_of words = do
  proto ← pair_or 6 (codes "proto") (read_as proto_of) words 7
  src ← pair_or None (codes "src") read_side words proto.next
  dst ← pair_or None (codes "dst") read_side words src.next
  p ← ports_pair proto.value (codes "sport") words dst.next
  q ← ports_pair proto.value (codes "port") words p.next
  end ← no_more words q.next
  Ok (record { proto = proto.value; src = src.value; dst = dst.value; p = p.value; q = q.value; max = 20000 })

-- the query, or the first word that can't be taken; that an address is missing is told last
abbrev pub unbounded_query_of : Description → List (List ℕ) → Result Query QueryRefusal
unbounded_query_of d words = do
  ends ← ends_of d words
  pairs ← unbounded_pairs_of words
  sides ← sides_of d ends pairs
  Ok (record { start = ends.start; goal = ends.goal; sides = sides; max = pairs.max })
