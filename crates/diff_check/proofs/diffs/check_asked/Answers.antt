use Rattle.std.proofs.Common.{◌≡◌, ◌∙◌, List, ap, arith, drop, length, map, sym, ℕ}
use Rattle.std.proofs.lemmas.List.{drop-map}
use Rattle.vpc_base.proofs.Results.{if_ok}
use Rattle.changed_ends.specs.Asked.{Comparison, comparison}
use Rattle.listing_check.specs.Answered.{IsListingChecked}
use Rattle.diff_check.specs.Diffs.{IsCheckedFor, all_asked}
use Rattle.diff_check.proofs.Checking.{checked_for}
use Rattle.diff_check.proofs.Lists.{few_changed_starts}
use Rattle.diff_check.proofs.diffs.check_asked.Goals as goal

pub check_starts-requires-clause-few : goal.check_starts-requires-clause-few
check_starts-requires-clause-few g c =
    let few = few_changed_starts (comparison c.before-before.result.now c.after-after.result.now c.query-query.result.now) c.in_ok-starts.starts.items c.description.ensures.accepted c.description-2.ensures.accepted
    c.in_ok-starts.ensures.starts in
    let lent = ap length c.as_slice-2.ensures.value in
    omega (arith, few, lent)

pub returns : goal.returns
returns g c =
    let all : Comparison = c.args.asked.now.compared in
    let targets = c.as_slice.result.now in
    let starts = c.as_slice-2.result.now in
    let given = c.args.lines.now in
    let ended = c.args.ended in
    let lines : List (List ℕ) = map (λ l. l.now) given in
    let later : List (List ℕ) = map (λ l. l.now) c.later_lines.result.now in
    let after_two : later ≡ drop 2 lines = ap (map (λ l. l.now)) c.later_lines.ensures ∙ sym (drop-map _ 2 given) in
    if_ok (λ a. IsListingChecked (all_asked all targets starts) ended later a.status a.text.items) (λ a. IsCheckedFor all lines ended a.status a.text.items) c.check_starts.result
    (λ a found.
    checked_for all c.before-before.result.now c.after-after.result.now c.query-query.result.now c.in_ok-targets.targets.items targets c.in_ok-starts.starts.items starts lines later ended a.status a.text.items
    c.before-before.ensures c.after-after.ensures c.query-query.ensures c.as_slice.ensures.value c.in_ok-targets.ensures c.as_slice-2.ensures.value c.in_ok-starts.ensures.starts after_two found)
    c.check_starts.ensures
