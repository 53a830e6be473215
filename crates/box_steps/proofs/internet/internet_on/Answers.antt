use Rattle.std.proofs.Common.{subst}
use Rattle.vpc_model.specs.Accepted.{IsAccepted}
use Rattle.box_steps.proofs.InternetAnswers.{answers_routable, answers_unroutable, owner_lies}
use Rattle.box_steps.proofs.internet.internet_on.Goals as goal

pub returns-then-unroutable : goal.returns-then-unroutable
returns-then-unroutable c = answers_unroutable c.args.f.now c.args.i.now c.unroutable_on-unroutable.result c.if-unroutable.true c.unroutable_on-unroutable.ensures

pub to_owner-requires : goal.to_owner-requires
to_owner-requires c =
    owner_lies _ c.args.f.now c.edges.result.now c.within.result c.in_addr_on-owner.result (subst IsAccepted c.network.ensures c.description.ensures.accepted) c.edges.ensures c.in_addr_on-owner.ensures

pub returns : goal.returns
returns c =
    answers_routable c.args.f.now c.edges.result.now c.args.i.now c.within.result c.unroutable_on-unroutable.result c.in_addr_on-owner.result c.to_owner.result
    c.requires.valid.part c.edges.ensures c.if-unroutable.false c.within.ensures.image c.to_owner.ensures c.unroutable_on-unroutable.ensures c.in_addr_on-owner.ensures
