use Rattle.box_steps.proofs.RouteAnswers.{answers_of_tgw_table}
use Rattle.box_steps.proofs.choosing.tgw_route_on.Goals as goal

pub returns : goal.returns
returns c = λ entered. answers_of_tgw_table c.args.f.now c.args.a entered c.args.t c.args.i.now c.tgw_search_on.result c.requires.own c.tgw_search_on.ensures
