use Rattle.box_steps.proofs.RouteAnswers.{answers_of_far_table}
use Rattle.box_steps.proofs.choosing.tgw_route_from.Goals as goal

pub returns : goal.returns
returns c = answers_of_far_table c.args.f.now c.args.k c.args.t c.args.i.now c.tgw_search_on.result c.requires.attachment c.requires.own c.tgw_search_on.ensures
