-- The words of a rule's line.
use Rattle.std.proofs.Common.{◌&&◌, ◌≡◌, ◌∙◌, ◌<◌, ◌≤◌, ◌∷◌, [], Bool, List, None, Option, ap, arith, false, if◌then◌else◌, length, refl, sym, take, true, ℕ}
use Rattle.std.specs.Prelude.{codes, nat_le, not, option_map}
use Rattle.std.specs.Option.{option_zip}
use Rattle.std.specs.Result.{result_ok}
use Rattle.std.proofs.Math.Seq.{take-length}
use Rattle.std.proofs.lemmas.Bool.Decides.{nat_tests}
use Rattle.std.proofs.lemmas.List.{length-take, take_min}
use Rattle.query_words.specs.Query.{query_of}
use Rattle.query_words.specs.declared.queries.Query.{Query}
use Rattle.vpc_laws.specs.Types.{Description}
use Rattle.policy_check.specs.Rules.{names_max, query_in, rule_in, wanted_of}
use Rattle.policy_check.specs.declared.rules.Wanted.{Wanted}

-- ---- words past those of a query tell as much as one of them

too_many : (n : ℕ) (others : Bool) → 14 < n → (nat_le 4 n && (nat_le n 14 && others)) ≡ false
too_many n others more = grind (arith, nat_tests)

query_in-too_many : (d : Description) (words : List (List ℕ)) → 14 < length words → query_in d words ≡ None
query_in-too_many d words more =
    ap (λ (b : Bool). if b then result_ok (query_of d (codes "ask" ∷ [] ∷ words)) else None) (too_many (length words) (not (names_max words)) more)

taken_all : {X : Type 0} (xs : List X) → length xs ≤ 15 → take 15 xs ≡ xs
taken_all xs few = sym (take_min 15 xs) ∙ (ap (λ n. take n xs) (omega arith) ∙ take-length xs)

taken-length : {X : Type 0} (xs : List X) → 14 < length xs → 14 < length (take 15 xs)
taken-length xs many = omega (arith, length-take 15 xs)

query_in-taken : (d : Description) (words : List (List ℕ)) → query_in d (take 15 words) ≡ query_in d words
query_in-taken d words = by_count (nat_le (length words) 14) refl
  where
    by_count : (b : Bool) → nat_le (length words) 14 ≡ b → query_in d (take 15 words) ≡ query_in d words
    by_count true few = ap (query_in d) (taken_all words (grind (arith, nat_tests)))
    by_count false many =
        let more : 14 < length words = grind (arith, nat_tests) in
        query_in-too_many d (take 15 words) (taken-length words more) ∙ sym (query_in-too_many d words more)

pub rule_in-taken : (d : Description) (number : ℕ) (words : List (List ℕ)) → rule_in d number (take 16 words) ≡ rule_in d number words
rule_in-taken d number [] = refl
rule_in-taken d number (name ∷ words) =
    ap (λ (q : Option Query). option_map (λ (r : Wanted × Query). record { line = number; wanted = r.0; query = r.1 }) (option_zip (wanted_of name) q))
    (query_in-taken d words)
