-- The words of `reach`, read with `max N` behind them or without.
use Rattle.std.proofs.Common.{◌≡◌, ◌∙◌, ◌+◌, ◌<◌, ◌≤◌, List, None, Ok, Option, Result, ap, arith, codes, refl, subst, ℕ}
use Rattle.query_words.specs.ReachQuery.{apart, given_end, given_start, reach_pairs_of, reach_query_of, sourced}
use Rattle.query_words.specs.Refusal.{◌>>=◌}
use Rattle.query_words.specs.declared.reaches.ReachPairs.{ReachPairs}
use Rattle.query_words.specs.declared.reaches.ReachQuery.{ReachQuery}
use Rattle.query_words.specs.declared.refusal.QueryRefusal.{QueryRefusal}
use Rattle.vpc_laws.specs.Types.{Description, End}
use Rattle.report_reader.proofs.AskedEnds.{ok_is, was_taken}
use Rattle.listing_laws.specs.Typed.{HasTypedRows}
use Rattle.listing_laws.proofs.PairsRead.{ArePairsFit, Ended, PairsRead, is_named, pairs_read}
use Rattle.listing_laws.proofs.Readers.{IsAny, given_end_reader, given_start_reader}
use Rattle.listing_laws.proofs.Taking.{Agree, Passed, pair_step, pair_took, passed_both, passed_order}

-- ---- what follows the ends

abbrev reach_with : Option End → Option End → ReachPairs → ReachQuery
reach_with start goal pairs = record { start = start; goal = goal; pairs = pairs }

abbrev with_source : Description → Option End → Option End → ReachPairs → Result ReachQuery QueryRefusal
with_source d start goal pairs = sourced d start pairs.src >>= (λ source. Ok (reach_with start goal pairs))

abbrev after_to : Description → List (List ℕ) → Option End → Option End → ℕ → Result ReachQuery QueryRefusal
after_to d words start goal n = apart start goal >>= (λ both. reach_pairs_of words n >>= with_source d start goal)

abbrev after_from : Description → List (List ℕ) → Option End → ℕ → Result ReachQuery QueryRefusal
after_from d words start n = pair_step None (codes "to") (given_end d) words n (after_to d words start)

-- ---- the query

-- the same question, for as many rows as may be asked for
abbrev pub for_most : ReachQuery → ReachQuery
for_most query = record query { pairs = (let pairs = query.pairs in record pairs { max = 20000 }) }

-- the words up to `max` or the end
pub record ReachRead (d : Description) (words : List (List ℕ)) (query : ReachQuery) : Type 0 where
  pub stop : ℕ
  pub passed : Passed words 3 stop
  pub short : stop ≤ 17
  pub fits : ArePairsFit query.pairs
  pub ended : Ended words stop
  pub again : (last : ℕ) (others : List (List ℕ)) → Agree 2 last words others → stop ≡ last + 1
      → reach_query_of d others ≡ Ok (for_most query)

-- what is read after the ends
record PairsFollow (d : Description) (words : List (List ℕ)) (start goal : Option End) (n : ℕ) (query : ReachQuery) : Type 0 where
  stop : ℕ
  passed : Passed words n stop
  short : stop ≤ n + 10
  fits : ArePairsFit query.pairs
  ended : Ended words stop
  again : (last : ℕ) (others : List (List ℕ)) → 2 < n → Agree 2 last words others → stop ≡ last + 1
      → after_to d others start goal n ≡ Ok (for_most query)

pairs_follow : (d : Description) (words : List (List ℕ)) (start goal : Option End) (n : ℕ) (query : ReachQuery)
    → after_to d words start goal n ≡ Ok query → PairsFollow d words start goal n query
pairs_follow d words start goal n query is =
    let both = was_taken (apart start goal) (λ u. reach_pairs_of words n >>= with_source d start goal) query is in
    let pairs = was_taken (reach_pairs_of words n) (with_source d start goal) query both.follows in
    let source = was_taken (sourced d start pairs.value.src) (λ u. Ok (reach_with start goal pairs.value)) query pairs.follows in
    follow (pairs_read words n pairs.value pairs.taken) both.value source.value both.taken source.taken
    (ok_is (reach_with start goal pairs.value) query source.follows)
  where
    follow : {pairs : ReachPairs} → PairsRead words n pairs → (u v : Unit {0}) → apart start goal ≡ Ok u → sourced d start pairs.src ≡ Ok v
        → reach_with start goal pairs ≡ query → PairsFollow d words start goal n query
    follow {pairs = pairs} r u v both source same = record {
      stop = r.stop;
      passed = r.passed;
      short = r.short;
      fits = subst (λ (q : ReachQuery). ArePairsFit q.pairs) same r.fits;
      ended = r.ended;
      again = λ last others over agree stops.
          ap (λ (x : Result (Unit {0}) QueryRefusal). x >>= (λ w. reach_pairs_of others n >>= with_source d start goal)) both
          ∙ (ap (λ (x : Result ReachPairs QueryRefusal). x >>= with_source d start goal) (r.again 2 last others over agree stops)
          ∙ (ap (λ (x : Result (Unit {0}) QueryRefusal). x >>= (λ w. Ok (reach_with start goal (record pairs { max = 20000 })))) source
          ∙ ap (λ (q : ReachQuery). Ok (for_most q)) same));
    }

pub reach_read : (d : Description) (words : List (List ℕ)) (query : ReachQuery) → HasTypedRows d → reach_query_of d words ≡ Ok query
    → ReachRead d words query
reach_read d words query typed is =
    let from = pair_took None (codes "from") (given_start d) IsAny words 3 (after_from d words) query
    (is_named (codes "from") refl refl) (given_start_reader d typed) tt is in
    let to = pair_took None (codes "to") (given_end d) IsAny words from.after (after_to d words from.value) query
    (is_named (codes "to") refl refl) (given_end_reader d typed) tt from.follows in
    let f = pairs_follow d words from.value to.value to.after query to.follows in
    let a = passed_order words 3 from.after from.passed in
    let b = passed_order words from.after to.after to.passed in
    let c = passed_order words to.after f.stop f.passed in
    record {
      stop = f.stop;
      passed = passed_both words 3 from.after f.stop from.passed (passed_both words from.after to.after f.stop to.passed f.passed);
      short = omega (arith, from.short, to.short, f.short);
      fits = f.fits;
      ended = f.ended;
      again = λ last others agree stops.
          from.again 2 last others (after_from d others) (for_most query) (omega arith) agree (omega (arith, b, c, stops))
          (to.again 2 last others (after_to d others from.value) (for_most query) (omega (arith, a)) agree (omega (arith, c, stops))
          (f.again last others (omega (arith, a, b)) agree stops));
    }
