use Rattle.std.proofs.Common.{subst}
use Rattle.report_check.proofs.Shapes.{rows_are_apart, rows_are_whole, tree_is_true}
use Rattle.report_check.proofs.Truth.{told_if_least}
use Rattle.vpc_model.specs.Accepted.{IsAccepted}
use Rattle.report_check.specs.Rows.{IsRowSearch}
use Rattle.report_check.proofs.checked.check_tree.Goals as goal

pub returns-in-None-clause-checked : goal.returns-in-None-clause-checked
returns-in-None-clause-checked g c =
    let d = c.args.f.now in
    let r = c.args.report.now in
    tree_is_true d r c.args.nodes.now c.requires.report c.requires.tree c.requires.rows (subst (IsRowSearch d r) c.in-None.is c.in_ok-first_untrue_leaf.ensures)

pub returns-in-Some-clause-checked : goal.returns-in-Some-clause-checked
returns-in-Some-clause-checked g c =
    let d = c.args.f.now in
    let r = c.args.report.now in (
      rows_are_apart d r c.args.nodes.now c.requires.tree c.requires.rows,
      (rows_are_whole d r c.args.nodes.now c.requires.tree c.requires.rows, subst (IsRowSearch d r) c.in-Some.is c.in_ok-first_untrue_leaf.ensures),
    )

pub returns-in-Some-clause-told : goal.returns-in-Some-clause-told
returns-in-Some-clause-told g c =
    let d = c.args.f.now in
    let r = c.args.report.now in
    let accepted = subst IsAccepted c.network.ensures c.description.ensures.accepted in
    told_if_least d r _ _ _ accepted c.requires.report (subst (IsRowSearch d r) c.in-Some.is c.in_ok-first_untrue_leaf.ensures)
