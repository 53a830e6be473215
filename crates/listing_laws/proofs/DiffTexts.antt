-- The text that `diff` prints.
use Rattle.std.proofs.Common.{List, [], ap, codes, map, refl, ℕ, ◌++◌, ◌-◌, ◌∙◌, ◌∷◌, ◌≡◌}
use Rattle.std.proofs.lemmas.List.Elements.{All-cons, All-nil}
use Rattle.change_report.specs.Terms.{ChangeRows, Comparison, lines_at, whole_text}
use Rattle.listing_text.specs.Terms.{given_words, row_count, told_lines_from}
use Rattle.listing_reader.specs.Terms.{IsOneLine, Printed, end_line, lines_from}
use Rattle.listing_laws.proofs.ShortWords.{IsShortWord, IsShortWord-id}
use Rattle.listing_laws.proofs.ChangeLines.{printed_from, told_lines}
use Rattle.listing_laws.proofs.SecondLines.{one_line-spaced, spaced, two_before}

abbrev pub printed : Comparison → List (ℕ × ℕ) → List ChangeRows → List Printed
printed c targets told = map (printed_from c targets) told

abbrev pub body : Comparison → List (ℕ × ℕ) → List ChangeRows → List ℕ
body c targets told = lines_from 1 (printed c targets told) ++ end_line (row_count told)

pub text_is : (c : Comparison) (targets : List (ℕ × ℕ)) (words : List (List ℕ)) (told : List ChangeRows)
    → whole_text c words told ≡ codes "vpc-diff 1" ++ 10 ∷ (spaced (codes "query") (given_words 3 words) ++ 10 ∷ body c targets told)
text_is c targets words told =
    two_before (codes "vpc-diff 1") (spaced (codes "query") (given_words 3 words)) (told_lines_from (lines_at c) 1 told) (end_line (row_count told))
    ∙ ap (λ (lines : List ℕ).
    codes "vpc-diff 1" ++ 10 ∷ (spaced (codes "query") (given_words 3 words) ++ 10 ∷ (lines ++ end_line (row_count told))))
    (told_lines c targets 1 told)

-- the first line
pub tag_is_line : IsOneLine (codes "vpc-diff 1")
tag_is_line =
    one_line-spaced (codes "vpc-diff") (codes "1" ∷ []) (IsShortWord-id (codes "vpc-diff") refl)
    (All-cons IsShortWord (codes "1") [] (IsShortWord-id (codes "1") refl) (All-nil IsShortWord))
