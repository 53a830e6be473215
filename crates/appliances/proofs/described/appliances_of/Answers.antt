use Rattle.std.proofs.Common.{◌∙◌}
use Rattle.appliances.proofs.Rows.{length-appliances}
use Rattle.appliances.proofs.described.appliances_of.Goals as goal

pub returns-clause-few : goal.returns-clause-few
returns-clause-few c = length-appliances c.args.n.now c.of.result c.description.ensures.accepted (c.of.ensures ∙ c.in_ok-rows.ensures)
