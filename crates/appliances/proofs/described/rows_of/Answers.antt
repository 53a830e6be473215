use Rattle.std.proofs.Common.{◌∙◌, sym}
use Rattle.vpc_laws.specs.Types.{Appliance}
use Rattle.vpc_model.specs.Appliances.{boxes_of_kind, is_at_interface}
use Rattle.vpc_model.specs.Lookup.{eni_no}
use Rattle.appliances.proofs.Kept.{kept-more, kept-same}
use Rattle.appliances.proofs.described.rows_of.Goals.{then-is_at_interface+in_ok-row_of+in_ok-add, else-is_at_interface}
use Rattle.appliances.proofs.described.rows_of.Goals as goal

pub loop-appliance-preserved : goal.loop-appliance-preserved
loop-appliance-preserved c =
    let d = c.args.n.now in
    let rows = c.as_slice-appliances.result.now in
    let k = c.loop-appliance.appliance-index in
    let old = c.loop-appliance.rows.items in
    let new = c.if-is_at_interface.rows.items in
    elim c.if-is_at_interface.branch [
      | then-is_at_interface+in_ok-row_of+in_ok-add w ↦
          kept-more (λ (a : Appliance). is_at_interface a.at) (λ (a : Appliance). (eni_no d a.id, boxes_of_kind a.kind)) rows k c.appliance-item.result old new c.loop-appliance-test.true c.appliance-item.is c.loop-appliance.invariant
          (sym c.is_at_interface.ensures ∙ w.if-is_at_interface.true)
          (let row = w.in_ok-row_of.ensures in let added = w.in_ok-add.ensures in cc)
      | else-is_at_interface w ↦
          kept-same (λ (a : Appliance). is_at_interface a.at) (λ (a : Appliance). (eni_no d a.id, boxes_of_kind a.kind)) rows k c.appliance-item.result old new c.loop-appliance-test.true c.appliance-item.is c.loop-appliance.invariant
          (sym c.is_at_interface.ensures ∙ w.if-is_at_interface.false)
          (let same = w.rows-is in cc)
    ]
