use Rattle.box_steps.proofs.HostAnswers.{accepted-as, answers_of_hosts, answers_of_rest}
use Rattle.box_steps.proofs.hosts.found_on.Goals as goal

pub returns-in-Some : goal.returns-in-Some
returns-in-Some c =
    answers_of_hosts c.args.f.now c.hosts.result.now c.args.v c.args.side c.args.i.now c.entry_on-assigned.result c.in-Some.field-0
    (accepted-as c.network.result.now c.args.f.now c.network.ensures c.description.ensures.accepted)
    c.hosts.ensures c.requires.vpc c.requires.valid c.requires.address c.in-Some.is c.entry_on-assigned.ensures

pub returns-in-None : goal.returns-in-None
returns-in-None c =
    answers_of_rest c.args.f.now c.hosts.result.now c.args.v c.args.side c.args.i.now c.within.result c.entry_on-assigned.result c.delegated_on.result
    (accepted-as c.network.result.now c.args.f.now c.network.ensures c.description.ensures.accepted)
    c.hosts.ensures c.requires.vpc c.requires.valid c.requires.address c.in-None.is c.within.ensures.image c.entry_on-assigned.ensures c.delegated_on.ensures
