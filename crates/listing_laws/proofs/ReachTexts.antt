-- The text that `reach` prints.
use Rattle.std.proofs.Common.{List, [], ap, codes, map, refl, ℕ, ◌++◌, ◌-◌, ◌∙◌, ◌∷◌, ◌≡◌}
use Rattle.std.proofs.lemmas.List.Elements.{All-cons, All-nil}
use Rattle.end_reach.specs.Terms.{StartRows, row_lines_from, whole_text}
use Rattle.listing_text.specs.Terms.{given_words, row_count, told_lines_from}
use Rattle.listing_reader.specs.Terms.{IsOneLine, Printed, end_line, lines_from}
use Rattle.query_words.specs.declared.reaches.ReachQuery.{ReachQuery}
use Rattle.vpc_laws.specs.Types.{Description}
use Rattle.listing_laws.proofs.ShortWords.{IsShortWord, IsShortWord-id}
use Rattle.listing_laws.proofs.ReachLines.{printed_from, told_lines}
use Rattle.listing_laws.proofs.SecondLines.{one_line-spaced, spaced, two_before}

abbrev pub printed : Description → ReachQuery → List (ℕ × ℕ) → List StartRows → List Printed
printed d query targets told = map (printed_from d query targets) told

abbrev pub body : Description → ReachQuery → List (ℕ × ℕ) → List StartRows → List ℕ
body d query targets told = lines_from 1 (printed d query targets told) ++ end_line (row_count told)

pub text_is : (d : Description) (query : ReachQuery) (targets : List (ℕ × ℕ)) (words : List (List ℕ)) (told : List StartRows)
    → whole_text d words told ≡ codes "vpc-reach 1" ++ 10 ∷ (spaced (codes "query") (given_words 2 words) ++ 10 ∷ body d query targets told)
text_is d query targets words told =
    two_before (codes "vpc-reach 1") (spaced (codes "query") (given_words 2 words)) (told_lines_from (row_lines_from d) 1 told) (end_line (row_count told))
    ∙ ap (λ (lines : List ℕ).
    codes "vpc-reach 1" ++ 10 ∷ (spaced (codes "query") (given_words 2 words) ++ 10 ∷ (lines ++ end_line (row_count told))))
    (told_lines d query targets 1 told)

-- the first line
pub tag_is_line : IsOneLine (codes "vpc-reach 1")
tag_is_line =
    one_line-spaced (codes "vpc-reach") (codes "1" ∷ []) (IsShortWord-id (codes "vpc-reach") refl)
    (All-cons IsShortWord (codes "1") [] (IsShortWord-id (codes "1") refl) (All-nil IsShortWord))
