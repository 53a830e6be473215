-- What `diff` prints of all requests is true.
use Rattle.std.proofs.Common.{List, Ok, [], ap, arith, codes, length, option_and_then, refl, subst, sym, ℕ, ◌-◌, ◌∙◌, ◌∷◌, ◌≡◌, ◌≤◌, ◌⊎◌}
use Rattle.listing_laws.specs.Terms.{CanBeListed, ChangeQuery, ChangedEnd, DiffTextsAreTrue, DiffTextsFit, DiffTextsPass, Status, change_query_of, given_words, length_limit, lists_of, origins_of, result_ok, row_count}
use Rattle.diff_check.specs.Diffs.{IsTrueDiff, all_asked, asked_from}
use Rattle.change_report.specs.Terms.{AreStarts, AreTargets, AreToldAll, ChangeRows, IsDiffAnswered, IsDiffTold, IsToldUnlessTooMany, IsTooMany, comparison, whole_text}
use Rattle.change_report.specs.Answered as answered
use Rattle.command_job.specs.declared.status.Status.TheVariants as ends
use Rattle.listing_text.specs.Answered as tellings
use Rattle.vpc_laws.specs.Types.{Description}
use Rattle.listing_laws.proofs.ChangeBoxes.{targets_fit}
use Rattle.listing_laws.proofs.ChangeLines.{rows_of, start_of, told_count}
use Rattle.listing_laws.proofs.ChangePrinted.{are_printable, are_short, are_true}
use Rattle.listing_laws.proofs.ChangeRead.{ChangeRead, change_read, for_most}
use Rattle.listing_laws.proofs.ChangeStarts.{starts_apart}
use Rattle.listing_laws.proofs.Given.{AreGiven, are_given}
use Rattle.listing_laws.proofs.Lengths.{listing_fits}
use Rattle.listing_laws.proofs.Listings.{all_true, lists_read}
use Rattle.listing_laws.proofs.Statuses.{more_is_not_all, query_is_not_all}
use Rattle.listing_laws.proofs.Taking.{passed_order}
use Rattle.listing_laws.proofs.TwoLines.{has_two_lines}
use Rattle.listing_laws.proofs.DiffTexts.{body, printed, tag_is_line, text_is}

few_for : (before after : Description) (query : ChangeQuery) → (IsTooMany (comparison before after query) → ⊥)
    → IsTooMany (comparison before after (for_most query)) → ⊥
few_for before after query few many = few (record { start = many.start; goal = many.goal; many = many.many })

-- the words before those of the second line
abbrev front : List (List ℕ)
front = codes "diff" ∷ [] ∷ codes "query" ∷ []

-- they ask for as many rows as there may be
asks_again : (before after : Description) (words : List (List ℕ)) (query : ChangeQuery) (r : ChangeRead before after words query)
    → AreGiven 3 r.stop words front
    → change_query_of before after (codes "diff" ∷ [] ∷ codes "query" ∷ given_words 3 words) ≡ Ok (for_most query)
asks_again before after words query r given =
    let order = passed_order words 4 r.stop r.passed in
    r.again (r.stop - 1) (codes "diff" ∷ [] ∷ codes "query" ∷ given_words 3 words) given.agree (omega (arith, order))

-- such a text is true, and can be read as a file
record IsTrueText (before after : Description) (text : List ℕ) : Type 0 where
  is_true : IsTrueDiff before after text
  fits : length text ≤ length_limit

module _ (before after : Description) (words : List (List ℕ)) (first : CanBeListed before) (second : CanBeListed after) where
  whole_is_true : (query : ChangeQuery) (targets : List (ℕ × ℕ)) (starts : List ChangedEnd) (told : List ChangeRows)
      → change_query_of before after words ≡ Ok query → (IsTooMany (comparison before after query) → ⊥)
      → AreTargets (comparison before after query) targets → AreStarts (comparison before after query) starts
      → AreToldAll (comparison before after query) targets starts told
      → IsTrueText before after (whole_text (comparison before after query) words told)
  whole_is_true query targets starts told read few targets_are starts_are are =
      let one = first.typed in
      let two = second.typed in
      let r = change_read before after words query one two read in
      let given = are_given 3 r.stop words front refl r.passed r.ended in
      let again = asks_again before after words query r given in
      let fits = r.fits in
      let pairs = query.pairs in
      let all = targets_fit before after pairs.dst query.goal targets one.interfaces two.interfaces fits.dst targets_are in
      let apart =
      starts_apart before after query.pairs.src query.start query.goal starts first.accepted second.accepted first.named second.named starts_are in
      let printable = are_printable (comparison before after query) targets one two fits all starts told apart are in
      let each = are_true (comparison before after query) targets told are.each in
      let lists = lists_of (printed (comparison before after query) targets told) in
      let lines = has_two_lines (codes "vpc-diff 1") (given_words 3 words)
      (body (comparison before after query) targets told) tag_is_line given.spelled given.asked in
      let ask = asked_from (comparison before after query) targets in
      subst (IsTrueText before after) (sym (text_is (comparison before after query) targets words told)) (record {
        is_true = record {
          first = lines.first;
          query = for_most query;
          question =
              ap (option_and_then (λ words. result_ok (change_query_of before after (codes "diff" ∷ [] ∷ words)))) lines.words
              ∙ ap result_ok again;
          few = few_for before after query few;
          targets = targets;
          targets_are = targets_are;
          starts = starts;
          starts_are = starts_are;
          lists = lists;
          reads = lines.reads (origins_of (all_asked (comparison before after query) targets starts)) lists
              (lists_read start_of ask (rows_of (comparison before after query)) told starts (row_count told) are.starts_are
              (told_count (comparison before after query) targets told) printable);
          true_listing = all_true start_of ask (rows_of (comparison before after query)) told starts are.starts_are each;
        };
        fits = listing_fits (codes "vpc-diff 1") (given_words 3 words) (printed (comparison before after query) targets told) (row_count told)
            (omega arith) given.spelled (omega (arith, given.count, r.short)) printable
            (are_short (comparison before after query) targets one two fits all told)
            (told_count (comparison before after query) targets told);
      })

  -- ---- all answers

  module _ (status : Status) (text : List ℕ) (whole : (status ≡ ends.Yes) ⊎ (status ≡ ends.No)) where
    told_true : (query : ChangeQuery) (targets : List (ℕ × ℕ)) (starts : List ChangedEnd) → change_query_of before after words ≡ Ok query
        → (IsTooMany (comparison before after query) → ⊥)
        → AreTargets (comparison before after query) targets → AreStarts (comparison before after query) starts
        → IsDiffTold (comparison before after query) words targets starts status text → IsTrueText before after text
    told_true query targets starts read few targets_are starts_are (tellings.some told are rows status_is text_is) =
        subst (IsTrueText before after) (sym text_is) (whole_is_true query targets starts told read few targets_are starts_are are)
    told_true query targets starts read few targets_are starts_are (tellings.none told are rows status_is text_is) =
        subst (IsTrueText before after) (sym text_is) (whole_is_true query targets starts told read few targets_are starts_are are)
    told_true query targets starts read few targets_are starts_are (tellings.more told last next are status_is text_is) =
        absurd (more_is_not_all status status_is whole)

    unless_true : (query : ChangeQuery) → change_query_of before after words ≡ Ok query
        → IsToldUnlessTooMany (comparison before after query) words status text → IsTrueText before after text
    unless_true query read (answered.too_many many status_is text_is) = absurd (query_is_not_all status status_is whole)
    unless_true query read (answered.told few answer) =
        told_true query answer.targets answer.starts read few answer.targets_are answer.starts_are answer.told

    answer_true : IsDiffAnswered before after words status text → IsTrueText before after text
    answer_true (answered.refused refusal is status_is text_is) = absurd (query_is_not_all status status_is whole)
    answer_true (answered.answered query read answer) = unless_true query read answer

pub diff_texts_are_true : DiffTextsAreTrue
diff_texts_are_true before after words text first second t =
    let answer = answer_true before after words first second t.status text t.whole t.answered in
    answer.is_true

pub diff_texts_fit : DiffTextsFit
diff_texts_fit before after words text first second t =
    let answer = answer_true before after words first second t.status text t.whole t.answered in
    answer.fits

pub diff_texts_pass : DiffTextsPass
diff_texts_pass before after words text status first second t decided =
    decided.1 (diff_texts_are_true before after words text first second t)
