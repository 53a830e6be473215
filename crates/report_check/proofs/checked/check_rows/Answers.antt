use Rattle.std.proofs.Common.{◌+◌, List, arith, subst}
use Rattle.std.specs.Prelude.{All}
use Rattle.box_survey.specs.Survey.{IsHeldIn, IsSurvey}
use Rattle.header_boxes.specs.Boxes.{IsWithin}
use Rattle.header_boxes.specs.Rows.{AreWhole, IsFirstOutside}
use Rattle.vpc_laws.specs.Types.{Row, StopText}
use Rattle.report_check.proofs.Boxes.{apart_if_disjoint, outside_if_uncovered, overlap-few, pair_if_overlap, whole_if_all}
use Rattle.report_check.proofs.Shapes.{valid_rows}
use Rattle.report_check.proofs.Truth.{told_if_least}
use Rattle.report_check.specs.Checked.{AreApart, IsLeastPair, boxes_of}
use Rattle.vpc_model.specs.Accepted.{IsAccepted}
use Rattle.report_check.specs.Rows.{IsRowSearch}
use Rattle.report_check.proofs.checked.check_rows.Goals as goal

pub overflow_add-result-in-Overlap : goal.overflow_add-result-in-Overlap
overflow_add-result-in-Overlap g c =
    let r = c.args.report.now in
    let rows = c.args.rows.now in
    let overlap = subst (IsSurvey (IsHeldIn r.sides) (boxes_of rows)) c.in-Overlap.is c.in_ok-i.ensures in
    omega (arith, overlap-few rows c.in-Overlap.i c.in-Overlap.j c.requires.few overlap)

pub returns-in-Overlap-clause-checked : goal.returns-in-Overlap-clause-checked
returns-in-Overlap-clause-checked g c =
    let r = c.args.report.now in
    let rows = c.args.rows.now in
    let i = c.in-Overlap.i in
    let j = c.in-Overlap.j in
    subst (λ (all : List (Row StopText)). IsLeastPair all (i + 1) (j + 1)) c.requires.rows
    (pair_if_overlap rows i j (subst (IsSurvey (IsHeldIn r.sides) (boxes_of rows)) c.in-Overlap.is c.in_ok-i.ensures))

pub returns-in-Uncovered-clause-checked : goal.returns-in-Uncovered-clause-checked
returns-in-Uncovered-clause-checked g c =
    let r = c.args.report.now in
    let rows = c.args.rows.now in
    let survey = subst (IsSurvey (IsHeldIn r.sides) (boxes_of rows)) c.in-Uncovered.is c.in_ok-i.ensures in
    subst (λ (all : List (Row StopText)). AreApart all × IsFirstOutside r.sides all c.in-Uncovered.h) c.requires.rows
    (apart_if_disjoint rows survey.0, outside_if_uncovered r.sides rows c.in-Uncovered.h survey.1)

pub first_untrue-requires-clause-valid : goal.first_untrue-requires-clause-valid
first_untrue-requires-clause-valid g c = valid_rows c.args.report.now.sides c.args.rows.now c.requires.within

pub returns-in-None-clause-checked : goal.returns-in-None-clause-checked
returns-in-None-clause-checked g c =
    let r = c.args.report.now in
    let rows = c.args.rows.now in
    let survey = subst (IsSurvey (IsHeldIn r.sides) (boxes_of rows)) c.in-Whole.is c.in_ok-i.ensures in
    record {
      are_true = record {
        within = subst (All (λ (row : Row StopText). IsWithin row.part r.sides)) c.requires.rows c.requires.within;
        disjoint = subst AreApart c.requires.rows (apart_if_disjoint rows survey.0);
        word = subst (IsRowSearch c.args.f.now r) c.in-None.is c.in_ok-first_untrue-in-Whole.ensures;
      };
      holds_all = subst (AreWhole r.sides) c.requires.rows (whole_if_all r.sides rows survey.1);
    }

pub returns-in-Some-clause-checked : goal.returns-in-Some-clause-checked
returns-in-Some-clause-checked g c =
    let r = c.args.report.now in
    let rows = c.args.rows.now in
    let survey = subst (IsSurvey (IsHeldIn r.sides) (boxes_of rows)) c.in-Whole.is c.in_ok-i.ensures in (
      subst AreApart c.requires.rows (apart_if_disjoint rows survey.0),
      (subst (AreWhole r.sides) c.requires.rows (whole_if_all r.sides rows survey.1), subst (IsRowSearch c.args.f.now r) c.in-Some.is c.in_ok-first_untrue-in-Whole.ensures),
    )

pub returns-in-Some-clause-told : goal.returns-in-Some-clause-told
returns-in-Some-clause-told g c =
    let d = c.args.f.now in
    let r = c.args.report.now in
    let accepted = subst IsAccepted c.network.ensures c.description.ensures.accepted in
    told_if_least d r _ _ _ accepted c.requires.report (subst (IsRowSearch d r) c.in-Some.is c.in_ok-first_untrue-in-Whole.ensures)
