use Rattle.std.proofs.Common.{◌∙◌}
use Rattle.transit_gateway.proofs.ByNumber.{row-table}
use Rattle.transit_gateway.proofs.associations.table_of.Goals as goal

pub returns : goal.returns
returns c =
    c.table_at.ensures
    ∙ row-table c.args.n.now c.description.result.now c.args.attachment.now c.as_slice-rows.result.now c.args.associated.now c.bytes.result.now c.get.result c.description.ensures.value c.as_slice-rows.ensures c.bytes.ensures.value c.get.ensures c.requires
