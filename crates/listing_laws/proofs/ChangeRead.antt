-- The words of `diff`, read with `max N` behind them or without.
use Rattle.std.proofs.Common.{Bool, Err, List, None, Ok, Option, Result, Some, ap, arith, bytes_eq, codes, false, if◌then◌else◌, refl, subst, sym, true, ℕ, ◌+◌, ◌<◌, ◌∙◌, ◌≡◌, ◌≤◌}
use Rattle.query_words.specs.Terms.{apart, before_of, change_query_of, change_sourced, changed_end_of, changed_opens, changed_start_of, end_with, given_changed_end, given_changed_start, in_either, internet_in_both, named_end, reach_pairs_of, word_at, ◌>>=◌}
use Rattle.query_words.specs.declared.changes.ChangeQuery.{ChangeQuery}
use Rattle.query_words.specs.declared.changes.ChangedEnd.{ChangedEnd}
use Rattle.query_words.specs.declared.reaches.ReachPairs.{ReachPairs}
use Rattle.query_words.specs.declared.refusal.QueryRefusal.{QueryRefusal}
use Rattle.vpc_laws.specs.Types.{Description, End}
use Rattle.report_reader.proofs.AskedEnds.{ok_is, was_taken}
use Rattle.listing_laws.proofs.ShortWords.{IsShortWord}
use Rattle.listing_laws.specs.Typed.{HasTypedRows}
use Rattle.listing_laws.proofs.PairsRead.{ArePairsFit, Ended, PairsRead, is_named, pairs_read}
use Rattle.listing_laws.proofs.Readers.{IsAny, internet_or, named_word, then_reader}
use Rattle.listing_laws.proofs.Taking.{Agree, IsReader, Passed, pair_step, pair_took, passed_both, passed_order}

-- ---- ends

some_named : (before after : Description) (id : List ℕ) (n : ℕ) (b a : Option End) (e : ChangedEnd) → HasTypedRows before → HasTypedRows after
    → end_with before id ≡ Ok b → end_with after id ≡ Ok a → in_either (record { before = b; after = a }) n ≡ Ok e → IsShortWord id
some_named before after id n (Some x) a e first second one other is = named_word before id x first one
some_named before after id n None (Some y) e first second one other is = named_word after id y second other
some_named before after id n None None e first second one other is = absurd (cc)

end_word : (before after : Description) (id : List ℕ) (n : ℕ) (e : ChangedEnd) → HasTypedRows before → HasTypedRows after
    → named_end before after id n ≡ Ok e → IsShortWord id
end_word before after id n e first second is =
    let one = was_taken (end_with before id) (λ b. end_with after id >>= (λ a. in_either (record { before = b; after = a }) n)) e is in
    let other = was_taken (end_with after id) (λ a. in_either (record { before = one.value; after = a }) n) e one.follows in
    some_named before after id n one.value other.value e first second one.taken other.taken other.follows

changed_reader : (before after : Description) → HasTypedRows before → HasTypedRows after → IsReader (changed_end_of before after) IsAny
changed_reader before after first second = record {
  spelled = λ words n e is.
      let id = word_at words n in
      internet_or id internet_in_both (named_end before after id n) e (bytes_eq id (codes "internet")) refl
      (end_word before after id n e first second) is;
  value = λ words n e is. tt;
  same =
      λ words others n same. ap (λ (id : List ℕ). if bytes_eq id (codes "internet") then Ok internet_in_both else named_end before after id n)
      same;
}

given_changed_reader : (before after : Description) → HasTypedRows before → HasTypedRows after
    → IsReader (given_changed_end before after) IsAny
given_changed_reader before after first second =
    then_reader (changed_end_of before after) IsAny (λ n e. Ok (Some e)) IsAny (changed_reader before after first second)
    (λ n a b fits is. tt)

changed_start_reader : (before after : Description) → HasTypedRows before → HasTypedRows after → IsReader (changed_start_of before after) IsAny
changed_start_reader before after first second =
    then_reader (changed_end_of before after) IsAny (changed_opens before after) IsAny (changed_reader before after first second)
    (λ n a b fits is. tt)

given_changed_start_reader : (before after : Description) → HasTypedRows before → HasTypedRows after
    → IsReader (given_changed_start before after) IsAny
given_changed_start_reader before after first second =
    then_reader (changed_start_of before after) IsAny (λ n e. Ok (Some e)) IsAny (changed_start_reader before after first second)
    (λ n a b fits is. tt)

-- ---- what follows the ends

abbrev change_with : Option ChangedEnd → Option ChangedEnd → ReachPairs → ChangeQuery
change_with start goal pairs = record { start = start; goal = goal; pairs = pairs }

abbrev with_source : Description → Description → Option ChangedEnd → Option ChangedEnd → ReachPairs → Result ChangeQuery QueryRefusal
with_source before after start goal pairs = change_sourced before after start pairs.src >>= (λ source. Ok (change_with start goal pairs))

abbrev after_to : Description → Description → List (List ℕ) → Option ChangedEnd → Option ChangedEnd → ℕ → Result ChangeQuery QueryRefusal
after_to before after words start goal n =
    apart (before_of start) (before_of goal) >>= (λ both. reach_pairs_of words n >>= with_source before after start goal)

abbrev after_from : Description → Description → List (List ℕ) → Option ChangedEnd → ℕ → Result ChangeQuery QueryRefusal
after_from before after words start n =
    pair_step None (codes "to") (given_changed_end before after) words n (after_to before after words start)

-- ---- the query

-- the same question, for as many rows as may be asked for
abbrev pub for_most : ChangeQuery → ChangeQuery
for_most query = record query { pairs = (let pairs = query.pairs in record pairs { max = 20000 }) }

-- the words up to `max` or the end
pub record ChangeRead (before after : Description) (words : List (List ℕ)) (query : ChangeQuery) : Type 0 where
  pub stop : ℕ
  pub passed : Passed words 4 stop
  pub short : stop ≤ 18
  pub fits : ArePairsFit query.pairs
  pub ended : Ended words stop
  pub again : (last : ℕ) (others : List (List ℕ)) → Agree 3 last words others → stop ≡ last + 1
      → change_query_of before after others ≡ Ok (for_most query)

-- what is read after the ends
record PairsFollow (before after : Description) (words : List (List ℕ)) (start goal : Option ChangedEnd) (n : ℕ)
    (query : ChangeQuery) : Type 0 where
  stop : ℕ
  passed : Passed words n stop
  short : stop ≤ n + 10
  fits : ArePairsFit query.pairs
  ended : Ended words stop
  again : (last : ℕ) (others : List (List ℕ)) → 3 < n → Agree 3 last words others → stop ≡ last + 1
      → after_to before after others start goal n ≡ Ok (for_most query)

pairs_follow : (before after : Description) (words : List (List ℕ)) (start goal : Option ChangedEnd) (n : ℕ) (query : ChangeQuery)
    → after_to before after words start goal n ≡ Ok query
    → PairsFollow before after words start goal n query
pairs_follow before after words start goal n query is =
    let both = was_taken (apart (before_of start) (before_of goal))
    (λ u. reach_pairs_of words n >>= with_source before after start goal) query is in
    let pairs = was_taken (reach_pairs_of words n) (with_source before after start goal) query both.follows in
    let source = was_taken (change_sourced before after start pairs.value.src)
    (λ u. Ok (change_with start goal pairs.value)) query pairs.follows in
    follow (pairs_read words n pairs.value pairs.taken) both.value source.value both.taken source.taken
    (ok_is (change_with start goal pairs.value) query source.follows)
  where
    follow : {pairs : ReachPairs} → PairsRead words n pairs → (u v : Unit {0}) → apart (before_of start) (before_of goal) ≡ Ok u
        → change_sourced before after start pairs.src ≡ Ok v → change_with start goal pairs ≡ query
        → PairsFollow before after words start goal n query
    follow {pairs = pairs} r u v both source same = record {
      stop = r.stop;
      passed = r.passed;
      short = r.short;
      fits = subst (λ (q : ChangeQuery). ArePairsFit q.pairs) same r.fits;
      ended = r.ended;
      again = λ last others over agree stops.
          ap (λ (x : Result (Unit {0}) QueryRefusal). x >>= (λ w. reach_pairs_of others n >>= with_source before after start goal)) both
          ∙ (ap (λ (x : Result ReachPairs QueryRefusal). x >>= with_source before after start goal) (r.again 3 last others over agree stops)
          ∙ (ap (λ (x : Result (Unit {0}) QueryRefusal). x >>= (λ w. Ok (change_with start goal (record pairs { max = 20000 })))) source
          ∙ ap (λ (q : ChangeQuery). Ok (for_most q)) same));
    }

pub change_read : (before after : Description) (words : List (List ℕ)) (query : ChangeQuery) → HasTypedRows before
    → HasTypedRows after → change_query_of before after words ≡ Ok query
    → ChangeRead before after words query
change_read before after words query typed_before typed_after is =
    let from = pair_took None (codes "from") (given_changed_start before after) IsAny words 4 (after_from before after words) query
    (is_named (codes "from") refl refl) (given_changed_start_reader before after typed_before typed_after) tt is in
    let to =
    pair_took None (codes "to") (given_changed_end before after) IsAny words from.after (after_to before after words from.value) query
    (is_named (codes "to") refl refl) (given_changed_reader before after typed_before typed_after) tt from.follows in
    let f = pairs_follow before after words from.value to.value to.after query to.follows in
    let a = passed_order words 4 from.after from.passed in
    let b = passed_order words from.after to.after to.passed in
    let c = passed_order words to.after f.stop f.passed in
    record {
      stop = f.stop;
      passed = passed_both words 4 from.after f.stop from.passed (passed_both words from.after to.after f.stop to.passed f.passed);
      short = omega (arith, from.short, to.short, f.short);
      fits = f.fits;
      ended = f.ended;
      again = λ last others agree stops.
          from.again 3 last others (after_from before after others) (for_most query) (omega arith) agree (omega (arith, b, c, stops))
          (to.again 3 last others (after_to before after others from.value) (for_most query) (omega (arith, a)) agree
          (omega (arith, c, stops)) (f.again last others (omega (arith, a, b)) agree stops));
    }
