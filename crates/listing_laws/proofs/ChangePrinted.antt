-- What `diff` prints, as starts with their rows.
use Rattle.std.proofs.Common.{All, AllPairs, List, arith, get_or, map, subst, sym, ℕ, ◌≢◌}
use Rattle.vpc_base.proofs.Lemmas.{All-map, AllPairs-map}
use Rattle.listing_laws.specs.Terms.{ArePrintable, Change, ChangedEnd, HasTypedRows, IsPrintable, IsToldFrom, IsTrueOf, Printed, word}
use Rattle.change_report.specs.Terms.{AreToldAll, ChangeRows, Comparison, boxes_at, change_in, cuts_in, start_id, wanted}
use Rattle.vpc_laws.specs.Types.{Row}
use Rattle.diff_check.specs.Diffs.{asked_from}
use Rattle.listing_laws.proofs.ChangeBoxes.{boxes_fit}
use Rattle.listing_laws.proofs.ChangeStarts.{HaveOwnIn}
use Rattle.listing_laws.proofs.Lengths.{HasShortRows, HasShortText}
use Rattle.listing_laws.proofs.Listings.{listed_at}
use Rattle.listing_laws.proofs.Pairwise.{pairs_unmap}
use Rattle.listing_laws.proofs.PairsRead.{ArePairsFit}
use Rattle.listing_laws.proofs.ReachBoxes.{FitsRange}
use Rattle.listing_laws.proofs.Shown.{all_shown_printable, shown, shown_is_true}
use Rattle.listing_laws.proofs.StopTexts.{word_piece}
use Rattle.listing_laws.proofs.ChangeLines.{IsShortWord-changed_id, change_line, printed_from, rows_of, start_of, text_at, told_count}

module _ (c : Comparison) (targets : List (ℕ × ℕ)) (first : HasTypedRows c.before) (second : HasTypedRows c.after)
    (fits : (let query = c.query in ArePairsFit query.pairs)) (targets_fit : All FitsRange targets) where
  start_printable : (t : ChangeRows) → IsToldFrom (wanted c targets) t → IsPrintable (printed_from c targets t)
  start_printable t told =
      let query = c.query in
      let id = IsShortWord-changed_id c.before c.after t.start first second in
      record {
        id_line = id.no_newline;
        id_word = id.no_blank;
        rows =
            all_shown_printable (cuts_in c) (boxes_at c targets t.start) (text_at c t.start) t.rows
            (boxes_fit c.before c.after query.pairs targets t.start first.interfaces second.interfaces fits targets_fit) told.rows_are.parts
            (λ change.
            let line = change_line c.before c.after (start_id c t.start) change first second (word_piece (start_id c t.start) id) in
            line.line);
      }

  pub are_printable : (starts : List ChangedEnd) (told : List ChangeRows) → AllPairs (HaveOwnIn c.before c.after) starts
      → AreToldAll c targets starts told → ArePrintable (map (printed_from c targets) told)
  are_printable starts told apart are =
      let count = told_count c targets told in
      let few = are.few in
      let most = fits.max in
      record {
        each = All-map IsPrintable (printed_from c targets) told (λ k x within. start_printable _ (are.each k x within));
        apart = AllPairs-map (λ (p q : Printed). p.origin.id ≢ q.origin.id) (printed_from c targets) told
            (pairs_unmap (HaveOwnIn c.before c.after) start_of told
            (subst (AllPairs (HaveOwnIn c.before c.after)) (sym are.starts_are) apart));
        few = omega (arith, count, few, most);
      }

  text_short : (start : ChangedEnd) (row : Row Change) → HasShortText (shown (text_at c start) row)
  text_short start row =
      let id = IsShortWord-changed_id c.before c.after start first second in
      let line = change_line c.before c.after (start_id c start) row.word first second (word_piece (start_id c start) id) in
      line.short

  pub are_short : (told : List ChangeRows) → All HasShortRows (map (printed_from c targets) told)
  are_short told = All-map HasShortRows (printed_from c targets) told (λ k x within. short_at (get_or told k x))
    where
      short_at : (t : ChangeRows) → HasShortRows (printed_from c targets t)
      short_at t =
          let id = IsShortWord-changed_id c.before c.after t.start first second in
          record {
            id = id.short;
            rows = All-map HasShortText (shown (text_at c t.start)) t.rows (λ k row within. text_short t.start (get_or t.rows k row));
          }

pub are_true : (c : Comparison) (targets : List (ℕ × ℕ)) (told : List ChangeRows) → All (IsToldFrom (wanted c targets)) told
    → All (λ t. IsTrueOf (listed_at start_of (asked_from c targets) (rows_of c) t)) told
are_true c targets told each = λ k x within. true_at _ (each k x within)
  where
    true_at : (t : ChangeRows) → IsToldFrom (wanted c targets) t → IsTrueOf (listed_at start_of (asked_from c targets) (rows_of c) t)
    true_at t whole =
        let asked = asked_from c targets t.start in
        shown_is_true (change_in c t.start) (cuts_in c) (boxes_at c targets t.start) _ t.rows
        (text_at c t.start) asked.id asked.outcome whole
