-- What `reach` prints of all requests is true.
use Rattle.std.proofs.Common.{List, Ok, [], ap, arith, codes, drop, false, length, option_and_then, refl, subst, sym, true, ℕ, ◌-◌, ◌∙◌, ◌∷◌, ◌≡◌, ◌≤◌}
use Rattle.listing_laws.specs.Terms.{HasTypedRows, ReachQuery, given_words, length_limit, lists_of, origins_of, reach_query_of, result_ok, row_count}
use Rattle.listing_check.specs.Lines.{all_lines, begins_with}
use Rattle.reach_check.specs.Reaches.{IsTrueReach, all_asked, asked_from}
use Rattle.end_reach.specs.Terms.{AreStarts, AreTargets, AreToldAll, IsTooMany, StartRows, whole_text}
use Rattle.vpc_laws.specs.Types.{Description, End}
use Rattle.vpc_model.specs.Lookup.{has_interface}
use Rattle.listing_laws.proofs.Given.{AreGiven, are_given}
use Rattle.listing_laws.proofs.Lengths.{listing_fits}
use Rattle.listing_laws.proofs.Listings.{all_true, lists_read}
use Rattle.listing_laws.proofs.ReachBoxes.{targets_fit}
use Rattle.listing_laws.proofs.ReachLines.{rows_of, start_of, told_count}
use Rattle.listing_laws.proofs.ReachPrinted.{are_printable, are_short, are_true}
use Rattle.listing_laws.proofs.ReachRead.{ReachRead, for_most, reach_read}
use Rattle.listing_laws.proofs.ReachStarts.{starts_apart}
use Rattle.listing_laws.proofs.Taking.{passed_order}
use Rattle.listing_laws.proofs.TwoLines.{has_two_lines}
use Rattle.listing_laws.proofs.ReachTexts.{body, printed, tag_is_line, text_is}

few_for : (d : Description) (query : ReachQuery) → (IsTooMany d query → ⊥) → IsTooMany d (for_most query) → ⊥
few_for d query few many = few (record { start = many.start; goal = many.goal; many = many.many })

-- the words of the second line ask for as many rows as there may be
asks_again : (d : Description) (words : List (List ℕ)) (query : ReachQuery) → (r : ReachRead d words query)
    → AreGiven 2 r.stop words (codes "reach" ∷ [] ∷ [])
    → reach_query_of d (codes "reach" ∷ [] ∷ given_words 2 words) ≡ Ok (for_most query)
asks_again d words query r given =
    let order = passed_order words 3 r.stop r.passed in
    r.again (r.stop - 1) (codes "reach" ∷ [] ∷ given_words 2 words) given.agree (omega (arith, order))

-- such a text begins with its first line, is true, and can be read as a file
pub record IsTrueText (d : Description) (text : List ℕ) : Type 0 where
  pub first : begins_with (codes "vpc-reach 1") (all_lines text) ≡ true
  pub is_true : IsTrueReach d text
  pub fits : length text ≤ length_limit

pub whole_is_true : (d : Description) (words : List (List ℕ)) (query : ReachQuery) (targets : List (ℕ × ℕ)) (starts : List End)
    (told : List StartRows) → HasTypedRows d → has_interface d (codes "internet") ≡ false
    → reach_query_of d words ≡ Ok query → (IsTooMany d query → ⊥) → AreTargets d query.pairs.dst query.goal targets
    → AreStarts d query.pairs.src query.start query.goal starts → AreToldAll d query targets starts told
    → IsTrueText d (whole_text d words told)
whole_is_true d words query targets starts told typed named read few targets_are starts_are are =
    let r = reach_read d words query typed read in
    let given = are_given 2 r.stop words (codes "reach" ∷ [] ∷ []) refl r.passed r.ended in
    let again = asks_again d words query r given in
    let fits = r.fits in
    let pairs = query.pairs in
    let all = targets_fit d pairs.dst query.goal targets typed.interfaces fits.dst targets_are in
    let printable = are_printable d query targets typed fits all starts told
    (starts_apart d query.pairs.src query.start query.goal starts named starts_are) are in
    let each = are_true d query targets typed fits all told are.each in
    let lists = lists_of (printed d query targets told) in
    let lines = has_two_lines (codes "vpc-reach 1") (given_words 2 words) (body d query targets told) tag_is_line given.spelled given.asked in
    let ask = asked_from d query targets in
    subst (IsTrueText d) (sym (text_is d query targets words told)) (record {
      first = lines.first;
      is_true = record {
        query = for_most query;
        question =
            ap (option_and_then (λ words. result_ok (reach_query_of d (codes "reach" ∷ [] ∷ drop 1 words)))) lines.words
            ∙ ap result_ok again;
        few = few_for d query few;
        targets = targets;
        targets_are = targets_are;
        starts = starts;
        starts_are = starts_are;
        lists = lists;
        reads =
            lines.reads (origins_of (all_asked d query targets starts)) lists
            (lists_read start_of ask (rows_of d) told starts (row_count told) are.starts_are (told_count d query targets told) printable);
        true_listing = all_true start_of ask (rows_of d) told starts are.starts_are each;
      };
      fits =
          listing_fits (codes "vpc-reach 1") (given_words 2 words) (printed d query targets told) (row_count told) (omega arith) given.spelled
          (omega (arith, given.count, r.short)) printable (are_short d query targets typed fits all told) (told_count d query targets told);
    })
