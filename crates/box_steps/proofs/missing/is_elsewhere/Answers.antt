use Rattle.std.proofs.Common.{◌∙◌, sym}
use Rattle.box_steps.proofs.Away.{elsewhere-appliance, elsewhere-other}
use Rattle.box_steps.proofs.missing.is_elsewhere.Goals as goal

pub returns-in-Some : goal.returns-in-Some
returns-in-Some g c = elsewhere-appliance c.args.aim.now.deciders.now.appliances c.args.aim.now.goal c.args.e c.in-Some.field-0 (sym c.in-Some.is ∙ c.number.ensures)

pub returns-in-None : goal.returns-in-None
returns-in-None g c = elsewhere-other c.args.aim.now.deciders.now.appliances c.args.aim.now.goal c.args.e c.is_goal.result (sym c.in-None.is ∙ c.number.ensures) c.is_goal.ensures
