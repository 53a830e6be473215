-- The words of a query: `ask FILE from END to END` and pairs.
use Rattle.std.specs.Prelude.{List, Ok, Result, ℕ}
use Rattle.vpc_laws.specs.Types.{Description}
use Rattle.query_words.specs.declared.queries.Query.{Query}
use Rattle.query_words.specs.declared.refusal.QueryRefusal.{QueryRefusal}
use Rattle.query_words.specs.Ends.{ends_of}
use Rattle.query_words.specs.Pairs.{pairs_of}
use Rattle.query_words.specs.Refusal.{◌>>=◌}
use Rattle.query_words.specs.Sides.{sides_of}

-- the query, or the first word that can't be taken; that an address is missing is told last
abbrev pub query_of : Description → List (List ℕ) → Result Query QueryRefusal
query_of d words = do
  ends ← ends_of d words
  pairs ← pairs_of words
  sides ← sides_of d ends pairs
  Ok (record { start = ends.start; goal = ends.goal; sides = sides; max = pairs.max })
