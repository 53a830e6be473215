-- What `check` answers to what `diff` prints is decided by the text, and tells of no device.
use Rattle.std.proofs.Common.{◌≡◌, ◌∙◌, Bool, List, None, Option, Some, drop, false, subst, sym, true, ℕ}
use Rattle.change_report.proofs.Decided.{same_targets}
use Rattle.change_report.specs.Answered.{IsTooMany}
use Rattle.changed_ends.specs.Asked.{AreStarts, AreTargets, Comparison, comparison}
use Rattle.command_job.proofs.Devices.{no_device, query_is_none}
use Rattle.command_job.specs.Status.{IsOfDevice}
use Rattle.command_job.specs.declared.status.Status.{Status}
use Rattle.command_job.specs.declared.status.Status.TheVariants as ends
use Rattle.listing_check.proofs.Decided.{AreTrueLines, listing_is_decided, listing_is_none}
use Rattle.query_words.specs.declared.changes.ChangeQuery.{ChangeQuery}
use Rattle.query_words.specs.declared.changes.ChangedEnd.{ChangedEnd}
use Rattle.report_reader.specs.Reports.{is_ended, pieces_of}
use Rattle.vpc_laws.specs.Types.{Description}
use Rattle.vpc_model.specs.Accepted.{IsAccepted}
use Rattle.diff_check.proofs.Order.{one_list_of_starts}
use Rattle.diff_check.specs.Diffs.{IsCheckedFor, IsDiffChecked, IsDiffListingDecided, IsTrueDiff, all_asked, diff_question}
use Rattle.diff_check.specs.Diffs as diffs
use Rattle.listing_check.specs.Lines.{all_lines}

not_yes : (status other : Status) → status ≡ other → (other ≡ ends.Yes → ⊥) → status ≡ ends.Yes → ⊥
not_yes status other is not is_yes = not (sym is ∙ is_yes)

query_is_no_yes : ends.Query ≡ ends.Yes → ⊥
query_is_no_yes same = cc

-- ---- lines that are a true listing

-- with the destinations and the starts that the question is about
record AreTrueFor (c : Comparison) (lines : List (List ℕ)) (ended : Bool) : Type 0 where
  pub targets : List (ℕ × ℕ)
  pub targets_are : AreTargets c targets
  pub starts : List ChangedEnd
  pub starts_are : AreStarts c starts
  pub true_lines : AreTrueLines (all_asked c targets starts) ended (drop 2 lines)

module _ (c : Comparison) (lines : List (List ℕ)) (ended : Bool) (first : IsAccepted c.before) (second : IsAccepted c.after) where
  -- they are those of the answer
  yes_if_true : (status : Status) (text : List ℕ) → IsCheckedFor c lines ended status text → AreTrueFor c lines ended → status ≡ ends.Yes
  yes_if_true status text answer truth =
      let targets = same_targets c.before c.after c.query.pairs.dst c.query.goal truth.targets answer.targets truth.targets_are answer.targets_are in
      let starts = one_list_of_starts c truth.starts answer.starts first second truth.starts_are answer.starts_are in
      let here : AreTrueLines (all_asked c answer.targets answer.starts) ended (drop 2 lines) =
      subst (λ (l : List ChangedEnd). AreTrueLines (all_asked c answer.targets l) ended (drop 2 lines)) starts
      (subst (λ (l : List (ℕ × ℕ)). AreTrueLines (all_asked c l truth.starts) ended (drop 2 lines)) targets truth.true_lines) in
      let decided = listing_is_decided (all_asked c answer.targets answer.starts) ended (drop 2 lines) status text answer.checked in
      decided.1 here

  true_if_yes : (status : Status) (text : List ℕ) → IsCheckedFor c lines ended status text → status ≡ ends.Yes → AreTrueFor c lines ended
  true_if_yes status text answer is_yes =
      let decided = listing_is_decided (all_asked c answer.targets answer.starts) ended (drop 2 lines) status text answer.checked in
      record {
        targets = answer.targets;
        targets_are = answer.targets_are;
        starts = answer.starts;
        starts_are = answer.starts_are;
        true_lines = decided.0 is_yes;
      }

-- ---- texts

one_question : (o : Option ChangeQuery) (x y : ChangeQuery) → o ≡ Some x → o ≡ Some y → x ≡ y
one_question o x y a b = let same : Some x ≡ Some y = sym a ∙ b in cc

module _ (before after : Description) (bytes : List ℕ) where
  true_for : (truth : IsTrueDiff before after bytes) → AreTrueFor (comparison before after truth.query) (all_lines bytes) (is_ended (pieces_of bytes))
  true_for truth = record {
    targets = truth.targets;
    targets_are = truth.targets_are;
    starts = truth.starts;
    starts_are = truth.starts_are;
    true_lines = record { lists = truth.lists; reads = truth.reads; true_listing = truth.true_listing };
  }

  -- the truth about the query that is answered
  true_of_query : (query : ChangeQuery) (truth : IsTrueDiff before after bytes) → diff_question before after (all_lines bytes) ≡ Some query
      → AreTrueFor (comparison before after query) (all_lines bytes) (is_ended (pieces_of bytes))
  true_of_query query truth asked =
      subst (λ (q : ChangeQuery). AreTrueFor (comparison before after q) (all_lines bytes) (is_ended (pieces_of bytes)))
      (one_question (diff_question before after (all_lines bytes)) truth.query query truth.question asked) (true_for truth)

  few_of_query : (query : ChangeQuery) (truth : IsTrueDiff before after bytes) → diff_question before after (all_lines bytes) ≡ Some query → IsTooMany (comparison before after query) → ⊥
  few_of_query query truth asked many =
      truth.few (subst (λ (q : ChangeQuery). IsTooMany (comparison before after q))
      (one_question (diff_question before after (all_lines bytes)) query truth.query asked truth.question) many)

-- a yes to a text of accepted networks says that it is a true listing, and each true one gets it
pub diff_check_is_decided : (before after : Description) (bytes : List ℕ) (status : Status) (text : List ℕ) → IsAccepted before → IsAccepted after
    → IsDiffChecked before after bytes status text → IsDiffListingDecided before after bytes status
diff_check_is_decided before after bytes status text one other (diffs.no_diff first status_is text_is) = (
  (λ is_yes. absurd (not_yes status ends.Query status_is query_is_no_yes is_yes)),
  (λ truth. let wrong : true ≡ false = sym truth.first ∙ first in absurd (cc)),
)
diff_check_is_decided before after bytes status text one other (diffs.no_question first none status_is text_is) = (
  (λ is_yes. absurd (not_yes status ends.Query status_is query_is_no_yes is_yes)),
  (λ truth. let wrong : Some truth.query ≡ None = sym truth.question ∙ none in absurd (cc)),
)
diff_check_is_decided before after bytes status text one other (diffs.too_many first query asked many status_is text_is) = (
  (λ is_yes. absurd (not_yes status ends.Query status_is query_is_no_yes is_yes)),
  (λ truth. absurd (few_of_query before after bytes query truth asked many)),
)
diff_check_is_decided before after bytes status text one other (diffs.checked first query asked few answer) = (
  (λ is_yes.
      let found = true_if_yes (comparison before after query) (all_lines bytes) (is_ended (pieces_of bytes)) one other status text answer is_yes in
      record {
        first = first;
        query = query;
        question = asked;
        few = few;
        targets = found.targets;
        targets_are = found.targets_are;
        starts = found.starts;
        starts_are = found.starts_are;
        lists = found.true_lines.lists;
        reads = found.true_lines.reads;
        true_listing = found.true_lines.true_listing;
      }),
  (λ truth.
      yes_if_true (comparison before after query) (all_lines bytes) (is_ended (pieces_of bytes)) one other status text answer (true_of_query before after bytes query truth asked)),
)

-- ---- no device

pub diff_check_is_none : (before after : Description) (bytes : List ℕ) (status : Status) (text : List ℕ) → IsDiffChecked before after bytes status text → IsOfDevice status → ⊥
diff_check_is_none before after bytes status text (diffs.no_diff first status_is text_is) h = no_device status ends.Query status_is query_is_none h
diff_check_is_none before after bytes status text (diffs.no_question first none status_is text_is) h = no_device status ends.Query status_is query_is_none h
diff_check_is_none before after bytes status text (diffs.too_many first query asked many status_is text_is) h = no_device status ends.Query status_is query_is_none h
diff_check_is_none before after bytes status text (diffs.checked first query asked few answer) h =
    listing_is_none (all_asked (comparison before after query) answer.targets answer.starts) (is_ended (pieces_of bytes)) (drop 2 (all_lines bytes)) status text answer.checked h
