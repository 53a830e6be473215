-- A text of two lines and others, as it is read: what it is, the words of its question, and the lines after these.
use Rattle.std.proofs.Common.{◌≡◌, ◌∙◌, ◌++◌, ◌∷◌, All, Bool, List, None, Ok, Some, ap, codes, drop, if◌then◌else◌, refl, slice_get, true, ℕ}
use Rattle.std.specs.Option.{option_and_then}
use Rattle.std.specs.Str.{bytes_eq}
use Rattle.vpc_base.proofs.Bytes.{bytes_self}
use Rattle.listing_check.specs.Lines.{all_lines, are_question, begins_with, query_words, question_words}
use Rattle.listing_reader.proofs.ReadLists.{lines_follow_two}
use Rattle.listing_reader.specs.Listings.{lists_in}
use Rattle.listing_reader.specs.ReadsBack.{IsOneLine}
use Rattle.listing_reader.specs.declared.origins.Origin.{Origin}
use Rattle.query_words.specs.Events.{words_of}
use Rattle.report_reader.specs.Reports.{is_ended, pieces_of}
use Rattle.vpc_laws.specs.Types.{Row}
use Rattle.listing_laws.proofs.ShortWords.{IsShortWord, IsShortWord-id}
use Rattle.listing_laws.proofs.Listings.{lists_from}
use Rattle.listing_laws.proofs.SecondLines.{first_line, one_line-spaced, second_line, spaced, words_of-spaced}

pub record HasTwoLines (tag : List ℕ) (given : List (List ℕ)) (body bytes : List ℕ) : Type 0 where
  pub first : begins_with tag (all_lines bytes) ≡ true
  pub words : question_words (all_lines bytes) ≡ Some (codes "query" ∷ given)
  pub reads : (origins : List Origin) (lists : List (List (Row (List ℕ))))
      → lists_from origins body ≡ Ok lists
      → lists_in origins (is_ended (pieces_of bytes)) (drop 2 (all_lines bytes)) ≡ Ok lists

words_are : (given : List (List ℕ)) (second : List ℕ) (lines : List (List ℕ)) → words_of second ≡ codes "query" ∷ given
    → are_question (codes "query" ∷ given) ≡ true → slice_get lines 1 ≡ Some second
    → question_words lines ≡ Some (codes "query" ∷ given)
words_are given second lines cut asked at =
    ap (option_and_then query_words) at
    ∙ (ap (λ (words : List (List ℕ)). if are_question words then Some words else None) cut
    ∙ ap (λ (b : Bool). if b then Some (codes "query" ∷ given) else None) asked)

pub has_two_lines : (tag : List ℕ) (given : List (List ℕ)) (body : List ℕ) → IsOneLine tag → All IsShortWord given
    → are_question (codes "query" ∷ given) ≡ true
    → HasTwoLines tag given body (tag ++ 10 ∷ (spaced (codes "query") given ++ 10 ∷ body))
has_two_lines tag given body one spelled asked =
    let query = IsShortWord-id (codes "query") refl in
    let second = spaced (codes "query") given in
    let two = one_line-spaced (codes "query") given query spelled in
    let bytes = tag ++ 10 ∷ (second ++ 10 ∷ body) in
    let after = lines_follow_two tag second body one two in
    record {
      first = ap (λ (line : List ℕ). bytes_eq line tag) (first_line tag second body one two) ∙ bytes_self tag;
      words =
          words_are given second (all_lines bytes) (words_of-spaced (codes "query") given query spelled) asked
          (second_line tag second body one two);
      reads = λ origins lists is.
          ap (λ (ended : Bool). lists_in origins ended (drop 2 (all_lines bytes))) after.1
          ∙ (ap (λ (lines : List (List ℕ)). lists_in origins (is_ended (pieces_of body)) lines) after.0 ∙ is);
    }
