-- The lines that `reach` prints.
use Rattle.std.proofs.Common.{List, [], ap, length, map, refl, sym, ℕ, ◌++◌, ◌+◌, ◌∙◌, ◌∷◌, ◌≡◌}
use Rattle.vpc_base.proofs.Lemmas.{length-map}
use Rattle.end_reach.specs.Terms.{StartRows, row_line, row_lines_from}
use Rattle.listing_text.specs.Terms.{row_count, told_lines_from}
use Rattle.listing_reader.specs.Terms.{Printed, lines_from, lists_of}
use Rattle.listing_reader.specs.Printed as lines
use Rattle.listing_reader.specs.Listings as listings
use Rattle.query_words.specs.declared.reaches.ReachQuery.{ReachQuery}
use Rattle.vpc_laws.specs.Types.{Description, End, Row}
use Rattle.vpc_model.specs.Terms.{end_id}
use Rattle.reach_check.specs.Reaches.{asked_from}
use Rattle.listing_laws.proofs.ShortWords.{}
use Rattle.listing_laws.proofs.Listings.{printed_at, same_count}
use Rattle.listing_laws.proofs.Shown.{all_shown}

-- the start of rows
abbrev pub start_of : StartRows → End
start_of t = t.start

-- rows with the ids of the ends that they tell
abbrev pub rows_of : Description → StartRows → List (Row (List ℕ))
rows_of d t = all_shown (end_id d) t.rows

abbrev pub printed_from : Description → ReachQuery → List (ℕ × ℕ) → StartRows → Printed
printed_from d query targets t = printed_at start_of (asked_from d query targets) (rows_of d) t

-- ---- their lines

row_lines : (d : Description) (n : ℕ) (start : End) (rows : List (Row End))
    → row_lines_from d n start rows ≡ lines.row_lines_from n (end_id d start) (all_shown (end_id d) rows)
row_lines d n start [] = refl
row_lines d n start (row ∷ rows) = ap (λ (text : List ℕ). row_line d n start row ++ text) (row_lines d (n + 1) start rows)

pub told_lines : (d : Description) (query : ReachQuery) (targets : List (ℕ × ℕ)) (n : ℕ) (told : List StartRows)
    → told_lines_from (row_lines_from d) n told ≡ lines_from n (map (printed_from d query targets) told)
told_lines d query targets n [] = refl
told_lines d query targets n (t ∷ told) =
    let size : length t.rows ≡ length (rows_of d t) = sym (length-map t.rows _) in
    ap (λ (text : List ℕ). text ++ told_lines_from (row_lines_from d) (n + length t.rows) told) (row_lines d n t.start t.rows)
    ∙ (ap (λ (text : List ℕ). lines.row_lines_from n (end_id d t.start) (rows_of d t) ++ text)
    (told_lines d query targets (n + length t.rows) told)
    ∙ ap (λ (k : ℕ). lines.row_lines_from n (end_id d t.start) (rows_of d t) ++ lines_from (n + k)
    (map (printed_from d query targets) told)) size)

pub told_count : (d : Description) (query : ReachQuery) (targets : List (ℕ × ℕ)) (told : List StartRows)
    → listings.row_count (lists_of (map (printed_from d query targets) told)) ≡ row_count told
told_count d query targets told =
    same_count start_of (asked_from d query targets) (rows_of d) (λ t. length t.rows) (λ t. length-map t.rows _) told
