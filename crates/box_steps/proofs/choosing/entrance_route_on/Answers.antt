use Rattle.box_steps.proofs.RouteAnswers.{answers_of_entrance}
use Rattle.box_steps.proofs.choosing.entrance_route_on.Goals as goal

pub returns : goal.returns
returns c =
    answers_of_entrance c.args.f.now c.args.v c.args.by c.args.t c.routes.result.now c.args.i.now c.search_on.result c.requires.own c.routes.ensures c.requires.valid c.search_on.ensures
