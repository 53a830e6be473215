-- What `check` answers to a listing of `reach`, or to a report, is decided by it, and tells of no device.
use Rattle.std.proofs.Common.{List, None, Some, ap, codes, drop, subst, sym, ℕ, ◌∙◌, ◌≡◌}
use Rattle.std.proofs.lemmas.Bool.{both_ways}
use Rattle.command_job.proofs.Devices.{no_device, query_is_none}
use Rattle.command_job.specs.Status.{IsOfDevice}
use Rattle.command_job.specs.declared.status.Status.{Status}
use Rattle.command_job.specs.declared.status.Status.TheVariants as ends
use Rattle.end_reach.proofs.Decided.{same_targets}
use Rattle.end_reach.specs.Terms.{AreStarts, AreTargets, IsTooMany}
use Rattle.listing_check.proofs.Decided.{AreTrueLines, listing_is_decided, listing_is_none}
use Rattle.listing_check.specs.Asked.{Asked}
use Rattle.query_words.specs.declared.reaches.ReachQuery.{ReachQuery}
use Rattle.report_check.proofs.Decided.{check_is_decided, check_is_none}
use Rattle.report_reader.specs.Reports.{is_ended, pieces_of}
use Rattle.vpc_laws.specs.Types.{Description, End}
use Rattle.listing_check.specs.Lines.{all_lines, begins_with}
use Rattle.reach_check.specs.Reaches.{IsCheckedFor, IsReachChecked, IsReachListingDecided, IsTrueReach, all_asked, reach_question}
use Rattle.reach_check.specs.Texts.{IsTextChecked, IsTextDecided}
use Rattle.reach_check.specs.Reaches as reaches
use Rattle.reach_check.specs.Texts as texts
use Rattle.end_reach.proofs.Same.{same_starts}

query_is_no_yes : (status : Status) → status ≡ ends.Query → status ≡ ends.Yes → ⊥
query_is_no_yes status is said = let wrong : ends.Query ≡ ends.Yes = sym is ∙ said in cc

-- ---- a listing of `reach`

same_query : (d : Description) (lines : List (List ℕ)) (x y : ReachQuery) → reach_question d lines ≡ Some x → reach_question d lines ≡ Some y → x ≡ y
same_query d lines x y a b = let same : Some x ≡ Some y = sym a ∙ b in cc

-- the same is asked, by whatever destinations and starts
same_asked : (d : Description) (x y : ReachQuery) (tx ty : List (ℕ × ℕ)) (sx sy : List End) → x ≡ y
    → AreTargets d x.pairs.dst x.goal tx → AreTargets d y.pairs.dst y.goal ty → AreStarts d x.pairs.src x.start x.goal sx → AreStarts d y.pairs.src y.start y.goal sy
    → all_asked d x tx sx ≡ all_asked d y ty sy
same_asked d x y tx ty sx sy same targets_x targets_y starts_x starts_y =
    let targets = same_targets d y.pairs.dst y.goal tx ty (subst (λ (q : ReachQuery). AreTargets d q.pairs.dst q.goal tx) same targets_x) targets_y in
    let starts = same_starts d y.pairs.src y.start y.goal sx sy (subst (λ (q : ReachQuery). AreStarts d q.pairs.src q.start q.goal sx) same starts_x) starts_y in
    ap (λ (q : ReachQuery). all_asked d q tx sx) same ∙ (ap (λ (t : List (ℕ × ℕ)). all_asked d y t sx) targets ∙ ap (all_asked d y ty) starts)

module _ (d : Description) (bytes : List ℕ) (query : ReachQuery) (question : reach_question d (all_lines bytes) ≡ Some query) where
  no_truth_if_many : IsTooMany d query → IsTrueReach d bytes → ⊥
  no_truth_if_many many truth = truth.few (subst (IsTooMany d) (same_query d (all_lines bytes) query truth.query question truth.question) many)

  -- a true listing is one by the destinations and the starts of the answer
  reading_of : (targets : List (ℕ × ℕ)) (starts : List End) → AreTargets d query.pairs.dst query.goal targets → AreStarts d query.pairs.src query.start query.goal starts → IsTrueReach d bytes
      → AreTrueLines (all_asked d query targets starts) (is_ended (pieces_of bytes)) (drop 2 (all_lines bytes))
  reading_of targets starts targets_are starts_are truth =
      subst (λ (asked : List Asked). AreTrueLines asked (is_ended (pieces_of bytes)) (drop 2 (all_lines bytes)))
      (same_asked d truth.query query truth.targets targets truth.starts starts (same_query d (all_lines bytes) truth.query query truth.question question)
      truth.targets_are targets_are truth.starts_are starts_are)
      (record { lists = truth.lists; reads = truth.reads; true_listing = truth.true_listing })

  found_decides : (status : Status) (text : List ℕ) → (IsTooMany d query → ⊥) → IsCheckedFor d query (all_lines bytes) (is_ended (pieces_of bytes)) status text
      → IsReachListingDecided d bytes status
  found_decides status text few found =
      let asked = all_asked d query found.targets found.starts in
      let decided = listing_is_decided asked (is_ended (pieces_of bytes)) (drop 2 (all_lines bytes)) status text found.checked in (
        λ said.
            let reading = decided.0 said in
            record {
              query = query;
              question = question;
              few = few;
              targets = found.targets;
              targets_are = found.targets_are;
              starts = found.starts;
              starts_are = found.starts_are;
              lists = reading.lists;
              reads = reading.reads;
              true_listing = reading.true_listing;
            },
        λ truth. decided.1 (reading_of found.targets found.starts found.targets_are found.starts_are truth),
      )

no_truth : (d : Description) (bytes : List ℕ) → reach_question d (all_lines bytes) ≡ None → IsTrueReach d bytes → ⊥
no_truth d bytes none truth = let wrong : None ≡ Some truth.query = sym none ∙ truth.question in cc

pub reach_is_decided : (d : Description) (bytes : List ℕ) (status : Status) (text : List ℕ) → IsReachChecked d bytes status text → IsReachListingDecided d bytes status
reach_is_decided d bytes status text (reaches.no_question none status_is text_is) =
    (λ said. absurd (query_is_no_yes status status_is said), λ truth. absurd (no_truth d bytes none truth))
reach_is_decided d bytes status text (reaches.too_many query question many status_is text_is) =
    (λ said. absurd (query_is_no_yes status status_is said), λ truth. absurd (no_truth_if_many d bytes query question many truth))
reach_is_decided d bytes status text (reaches.checked query question few found) = found_decides d bytes query question status text few found

-- ---- a text

pub text_is_decided : (d : Description) (bytes : List ℕ) (status : Status) (text : List ℕ) → IsTextChecked d bytes status text → IsTextDecided d bytes status
text_is_decided d bytes status text (texts.report other answer) = record {
  report = λ is. check_is_decided d bytes status text answer;
  reach = λ is. absurd (both_ways (begins_with (codes "vpc-reach 1") (all_lines bytes)) other is);
}
text_is_decided d bytes status text (texts.reach begins answer) = record {
  report = λ is. absurd (both_ways (begins_with (codes "vpc-reach 1") (all_lines bytes)) is begins);
  reach = λ is. reach_is_decided d bytes status text answer;
}

-- ---- no device

reach_is_none : (d : Description) (bytes : List ℕ) (status : Status) (text : List ℕ) → IsReachChecked d bytes status text → IsOfDevice status → ⊥
reach_is_none d bytes status text (reaches.no_question none status_is text_is) h = no_device status ends.Query status_is query_is_none h
reach_is_none d bytes status text (reaches.too_many query question many status_is text_is) h = no_device status ends.Query status_is query_is_none h
reach_is_none d bytes status text (reaches.checked query question few found) h =
    listing_is_none (all_asked d query found.targets found.starts) (is_ended (pieces_of bytes)) (drop 2 (all_lines bytes)) status text found.checked h

pub text_is_none : (d : Description) (bytes : List ℕ) (status : Status) (text : List ℕ) → IsTextChecked d bytes status text → IsOfDevice status → ⊥
text_is_none d bytes status text (texts.report other answer) h = check_is_none d bytes status text answer h
text_is_none d bytes status text (texts.reach begins answer) h = reach_is_none d bytes status text answer h
