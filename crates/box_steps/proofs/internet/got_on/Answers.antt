use Rattle.box_steps.proofs.GatewayOutward.{answers_of_publics, answers_with, answers_without}
use Rattle.box_steps.proofs.PairAnswers.{gateway-vpc}
use Rattle.box_steps.proofs.internet.got_on.Goals as goal

pub blocked_on-blocked-requires-clause-vpc : goal.blocked_on-blocked-requires-clause-vpc
blocked_on-blocked-requires-clause-vpc c = gateway-vpc c.args.f.now c.args.v c.requires.gateway

pub returns-in_default : goal.returns-in_default
returns-in_default c =
    let d = c.args.f.now in
    let lies = gateway-vpc d c.args.v c.requires.gateway in
    answers_without d c.args.v c.args.i.now c.out_addr_on-public.result c.no_public.result c.in_default.is c.no_public.ensures
    (answers_of_publics d c.edges.result.now c.args.v c.args.i.now c.out_addr_on-public.result c.edges.ensures lies c.requires.valid c.out_addr_on-public.ensures)

pub returns : goal.returns
returns c =
    let d = c.args.f.now in
    let lies = gateway-vpc d c.args.v c.requires.gateway in
    answers_with d c.args.v c.args.i.now c.within.result c.out_addr_on-public.result c.blocked_on-blocked.result c.in-Some.a c.unless_blocked.result c.requires.valid.part c.within.ensures.image c.in-Some.is c.unless_blocked.ensures
    (answers_of_publics d c.edges.result.now c.args.v c.args.i.now c.out_addr_on-public.result c.edges.ensures lies c.requires.valid c.out_addr_on-public.ensures)
    c.blocked_on-blocked.ensures
