-- Laws of the queries that words give.
use Rattle.std.specs.Prelude.{◌≡◌, All, List, bytes_eq, codes, drop, false, ℕ}
use Rattle.vpc_laws.specs.Types.{Description}
use Rattle.query_words.specs.Query.{query_of}
use Rattle.query_words.specs.Unbounded.{unbounded_query_of}

-- no word from the seventh on, where pairs begin, is `max`
abbrev pub HasNoMax : List (List ℕ) → Type 0
HasNoMax words = All (λ w. bytes_eq w (codes "max") ≡ false) (drop 6 words)

-- words without `max` give the query of `ask`, or its refusal, where no report is made too
abbrev pub WithoutMaxQueriesAreOne : Type 0
WithoutMaxQueriesAreOne = (d : Description) (words : List (List ℕ)) → HasNoMax words → unbounded_query_of d words ≡ query_of d words
