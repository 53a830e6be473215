-- What `reach` prints, as starts with their rows.
use Rattle.std.proofs.Common.{All, AllPairs, List, arith, get_or, map, subst, sym, ℕ, ◌≢◌}
use Rattle.vpc_base.proofs.Lemmas.{All-map, AllPairs-map}
use Rattle.end_reach.specs.Terms.{AreToldAll, StartRows, boxes_at, reached_in, wanted}
use Rattle.listing_laws.specs.Terms.{ArePrintable, HasTypedRows, IsPrintable, IsToldFrom, IsTrueOf, Printed, ReachQuery}
use Rattle.vpc_laws.specs.Types.{Description, End, Row}
use Rattle.vpc_model.specs.Terms.{cuts_of, end_id}
use Rattle.reach_check.specs.Reaches.{asked_from}
use Rattle.listing_laws.proofs.Lengths.{HasShortRows, HasShortText}
use Rattle.listing_laws.proofs.Listings.{listed_at}
use Rattle.listing_laws.proofs.Pairwise.{pairs_unmap}
use Rattle.listing_laws.proofs.PairsRead.{ArePairsFit}
use Rattle.listing_laws.proofs.ReachBoxes.{FitsRange, boxes_fit}
use Rattle.listing_laws.proofs.ReachStarts.{HaveOwnIds}
use Rattle.listing_laws.proofs.Shown.{all_shown_printable, shown, shown_is_true}
use Rattle.listing_laws.proofs.Typing.{IsShortWord-end_id}
use Rattle.listing_laws.proofs.ReachLines.{printed_from, rows_of, start_of, told_count}

module _ (d : Description) (query : ReachQuery) (targets : List (ℕ × ℕ)) (typed : HasTypedRows d) (fits : ArePairsFit query.pairs)
    (targets_fit : All FitsRange targets) where
  start_printable : (t : StartRows) → IsToldFrom (wanted d query targets) t → IsPrintable (printed_from d query targets t)
  start_printable t told =
      let id = IsShortWord-end_id d t.start typed.interfaces typed.fars in
      record {
        id_line = id.no_newline;
        id_word = id.no_blank;
        rows =
            all_shown_printable (cuts_of d) (boxes_at d query targets t.start) (end_id d) t.rows
            (boxes_fit d query targets t.start typed.interfaces fits targets_fit) told.rows_are.parts
            (λ e. let w = IsShortWord-end_id d e typed.interfaces typed.fars in w.no_newline);
      }

  pub are_printable : (starts : List End) (told : List StartRows) → AllPairs (HaveOwnIds d) starts → AreToldAll d query targets starts told
      → ArePrintable (map (printed_from d query targets) told)
  are_printable starts told apart are =
      let count = told_count d query targets told in
      let few = are.few in
      let most = fits.max in
      record {
        each = All-map IsPrintable (printed_from d query targets) told (λ k x within. start_printable _ (are.each k x within));
        apart = AllPairs-map (λ (p q : Printed). p.origin.id ≢ q.origin.id) (printed_from d query targets) told
            (pairs_unmap (HaveOwnIds d) start_of told (subst (AllPairs (HaveOwnIds d)) (sym are.starts_are) apart));
        few = omega (arith, count, few, most);
      }

  text_short : (row : Row End) → HasShortText (shown (end_id d) row)
  text_short row =
      let word = IsShortWord-end_id d row.word typed.interfaces typed.fars in
      let short = word.short in
      omega (arith, short)

  pub are_short : (told : List StartRows) → All HasShortRows (map (printed_from d query targets) told)
  are_short told =
      All-map HasShortRows (printed_from d query targets) told (λ k x within. short_at (get_or told k x))
    where
      short_at : (t : StartRows) → HasShortRows (printed_from d query targets t)
      short_at t =
          let id = IsShortWord-end_id d t.start typed.interfaces typed.fars in
          record {
            id = id.short;
            rows = All-map HasShortText (shown (end_id d)) t.rows (λ k row within. text_short (get_or t.rows k row));
          }

  pub are_true : (told : List StartRows) → All (IsToldFrom (wanted d query targets)) told
      → All (λ t. IsTrueOf (listed_at start_of (asked_from d query targets) (rows_of d) t)) told
  are_true told each = λ k x within. true_at _ (each k x within)
    where
      true_at : (t : StartRows) → IsToldFrom (wanted d query targets) t → IsTrueOf (listed_at start_of (asked_from d query targets) (rows_of d) t)
      true_at t whole =
          let asked = asked_from d query targets t.start in
          shown_is_true (reached_in d query t.start) (cuts_of d) (boxes_at d query targets t.start) _ t.rows
          (end_id d) asked.id asked.outcome whole
