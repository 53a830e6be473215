use Rattle.std.proofs.Common.{◌+◌, ◌∙◌, Option, ap, arith, subst}
use Rattle.std.proofs.lemmas.List.{take_all}
use Rattle.header_boxes.specs.Rows.{IsFirst}
use Rattle.vpc_laws.specs.Types.{Header}
use Rattle.vpc_model.specs.Appliances.{Appliances}
use Rattle.vpc_model.specs.Verdict.{alone, verdict_of}
use Rattle.report_check.proofs.TrueRows.{first_in, least_untrue_is, true_more}
use Rattle.report_check.specs.Agreement.{agreement_of}
use Rattle.report_check.specs.Checked.{AreTrue}
use Rattle.report_check.proofs.rows.first_untrue.Goals as goal

pub returns-in-Some : goal.returns-in-Some
returns-in-Some g c =
    let d = c.args.f.now in
    let r = c.args.report.now in
    let row = c.row-item.result in
    let h = c.in-Some.header in
    let found = first_in c.network.result.now d _ _ row c.in_ok-header.field-0 c.network.ensures (c.look_ahead.ensures ∙ c.of-walks.ensures) c.in_ok-header.ensures in
    least_untrue_is d r c.args.rows.now c.loop-row.row-index (c.loop-row.number + 1) row h c.round-verdict.result
    c.requires.rows (omega arith) (omega arith) c.row-item.is c.loop-row.invariant.before
    (c.round-verdict.ensures ∙ ap (λ (a : Appliances). verdict_of d a r.start r.goal h) c.requires.appliances)
    (subst (λ (o : Option Header). IsFirst (agreement_of d (alone r.start) r.goal row.word) row.part o) c.in-Some.is found)

pub loop-row-preserved : goal.loop-row-preserved
loop-row-preserved g c =
    let d = c.args.f.now in
    let r = c.args.report.now in
    let row = c.row-item.result in
    let found = first_in c.network.result.now d _ _ row c.in_ok-header.field-0 c.network.ensures (c.look_ahead.ensures ∙ c.of-walks.ensures) c.in_ok-header.ensures in
    record {
      number = omega arith;
      before = true_more d r c.args.rows.now c.loop-row.row-index row (omega arith) c.row-item.is c.loop-row.invariant.before
          (subst (λ (o : Option Header). IsFirst (agreement_of d (alone r.start) r.goal row.word) row.part o) c.in_default.is found);
    }

pub returns : goal.returns
returns g c =
    let d = c.args.f.now in
    let r = c.args.report.now in
    subst (AreTrue d r) c.requires.rows (subst (AreTrue d r) (take_all c.loop-row.row-index c.args.rows.now (omega arith)) c.loop-row.invariant.before)
