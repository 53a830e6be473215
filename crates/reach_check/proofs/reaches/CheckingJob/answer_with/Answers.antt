use Rattle.std.proofs.Common.{◌≡◌, ◌∙◌, ◌<◌, ◌^◌, List, ap, length, map, subst, sym, ℕ}
use Rattle.std.specs.Prelude.{drop}
use Rattle.std.proofs.lemmas.List.{drop-map}
use Rattle.vpc_base.proofs.Results.{if_ok}
use Rattle.end_reach.specs.Asked.{AreStarts, AreTargets}
use Rattle.listing_check.specs.Answered.{IsListingChecked}
use Rattle.listing_check.specs.Asked.{Asked}
use Rattle.listing_check.specs.Terms.{origins_of}
use Rattle.vpc_laws.specs.Types.{Description, End, FarNo}
use Rattle.reach_check.specs.Questions.{CanBeAsked, asked_in}
use Rattle.reach_check.specs.Reaches.{IsCheckedFor}
use Rattle.end_reach.proofs.Few.{few_starts}
use Rattle.reach_check.proofs.Starts.{asked_in-origins, few_origins, links_are, origins_are, origins_of-asked}
use Rattle.reach_check.proofs.reaches.CheckingJob.answer_with.Goals as goal

pub origins_of-requires-clause-query : goal.origins_of-requires-clause-query
origins_of-requires-clause-query g c = subst (λ (d : Description). CanBeAsked d c.args.self.now.query.now) (sym c.network-n.ensures) c.requires.fits

pub answer_lines-requires-clause-origins : goal.answer_lines-requires-clause-origins
answer_lines-requires-clause-origins g c =
    let q = c.args.self.now.query.now in
    let targets = c.as_slice.result.now in
    let starts = c.as_slice-starts.result.now in
    let d = c.args.f.now in
    let origins = c.as_slice-origins.result.now in
    let links =
    links_are c.network-n.result.now d q c.in_ok-links.links.items c.as_slice-2.result.now c.as_slice-2.ensures.value c.in_ok-links.ensures c.network-n.ensures in
    subst (λ (l : List FarNo). origins ≡ origins_of (asked_in d l q.goal origins starts)) (sym links)
    (origins_of-asked d q targets starts origins
    (origins_are c.network-n.result.now d q targets starts c.in_ok-all_origins.all_origins.items origins
    c.as_slice-origins.ensures.value c.in_ok-all_origins.ensures.value c.network-n.ensures))

pub answer_lines-requires-clause-starts : goal.answer_lines-requires-clause-starts
answer_lines-requires-clause-starts g c =
    let n = c.network-n.result.now in
    let q = c.args.self.now.query.now in
    few_origins n q c.as_slice.result.now c.as_slice-starts.result.now c.in_ok-all_origins.all_origins.items c.as_slice-origins.result.now
    c.as_slice-origins.ensures.value c.in_ok-all_origins.ensures.value
    (subst (λ (l : List End). length l < 2 ^ 32) (sym c.as_slice-starts.ensures.value)
    (few_starts n q.pairs.src q.start q.goal c.in_ok-all_starts.all_starts.items c.description.ensures.accepted c.in_ok-all_starts.ensures.starts))

pub returns : goal.returns
returns g c =
    let d = c.args.f.now in
    let q = c.args.self.now.query.now in
    let targets = c.as_slice.result.now in
    let starts = c.as_slice-starts.result.now in
    let origins = c.as_slice-origins.result.now in
    let are = origins_are c.network-n.result.now d q targets starts c.in_ok-all_origins.all_origins.items origins c.as_slice-origins.ensures.value c.in_ok-all_origins.ensures.value c.network-n.ensures in
    let links =
    links_are c.network-n.result.now d q c.in_ok-links.links.items c.as_slice-2.result.now c.as_slice-2.ensures.value c.in_ok-links.ensures c.network-n.ensures in
    let lines : List (List ℕ) = map (λ l. l.now) c.args.self.now.lines.now in
    let later : map (λ l. l.now) c.later_lines.result.now ≡ drop 2 lines = ap (map (λ l. l.now)) c.later_lines.ensures ∙ sym (drop-map _ 2 c.args.self.now.lines.now) in
    if_ok (λ a. IsListingChecked (asked_in d c.as_slice-2.result.now q.goal origins starts) c.args.self.now.ended (map (λ l. l.now) c.later_lines.result.now) a.status a.text.items)
    (λ a. IsCheckedFor d q lines c.args.self.now.ended a.status a.text.items) c.answer_lines.result
    (λ a found. record {
      targets = targets;
      targets_are = subst (λ (l : List _). AreTargets d q.pairs.dst q.goal l) (sym c.as_slice.ensures.value) (subst (λ (x : Description). AreTargets x q.pairs.dst q.goal c.in_ok-targets.targets.items) c.network-n.ensures c.in_ok-targets.ensures);
      starts = starts;
      starts_are = subst (λ (l : List End). AreStarts d q.pairs.src q.start q.goal l) (sym c.as_slice-starts.ensures.value) (subst (λ (x : Description). AreStarts x q.pairs.src q.start q.goal c.in_ok-all_starts.all_starts.items) c.network-n.ensures c.in_ok-all_starts.ensures.starts);
      checked = subst (λ (asked : List Asked). IsListingChecked asked c.args.self.now.ended (drop 2 lines) a.status a.text.items) (asked_in-origins d q targets starts origins are)
          (subst (λ (l : List FarNo). IsListingChecked (asked_in d l q.goal origins starts) c.args.self.now.ended (drop 2 lines) a.status a.text.items) links
          (subst (λ (ls : List (List ℕ)). IsListingChecked (asked_in d c.as_slice-2.result.now q.goal origins starts) c.args.self.now.ended ls a.status a.text.items) later found));
    })
    c.answer_lines.ensures
