use Rattle.std.proofs.Common.{subst}
use Rattle.vpc_base.specs.declared.headers.Dir.TheVariants as dirs
use Rattle.vpc_model.specs.Accepted.{IsAccepted}
use Rattle.vpc_model.specs.Appliances.{appliances_of}
use Rattle.box_steps.proofs.Narrowing.{moment-narrowed}
use Rattle.box_steps.proofs.StoppedSteps.{stopped_step}
use Rattle.box_steps.proofs.PassedSteps.{passed_step}
use Rattle.box_steps.proofs.PlainSteps.{walk_of_moment}
use Rattle.box_steps.proofs.interface.into_on.Goals as goal

pub returns-in-Some : goal.returns-in-Some
returns-in-Some g c =
    stopped_step c.args.f.now (appliances_of c.args.f.now) c.args.label c.args.i dirs.Inward c.args.m.now c.barrier_on.new.m c.barrier_on.result c.in-Some.stop c.requires.place c.requires.moment
    c.in-Some.is c.barrier_on.ensures

pub taken_in_on-taken-requires-clause-walk : goal.taken_in_on-taken-requires-clause-walk
taken_in_on-taken-requires-clause-walk g c =
    let d = c.args.f.now in
    let left = c.barrier_on.new.m in
    walk_of_moment d c.args.label left
    (moment-narrowed d c.args.label left.header.part c.args.m.now left c.requires.moment c.barrier_on.ensures.answers.body.within c.barrier_on.ensures.narrowed)

pub returns-in-None : goal.returns-in-None
returns-in-None g c =
    let d = c.args.f.now in
    passed_step d (appliances_of d) c.args.label c.args.i dirs.Inward c.args.m.now c.barrier_on.new.m c.pass.new.m c.barrier_on.result c.taken_in_on-taken.result c.pass.result
    (subst IsAccepted c.network.ensures c.description.ensures.accepted) c.requires.place c.requires.moment c.requires.room c.in-None.is c.barrier_on.ensures c.taken_in_on-taken.ensures c.pass.ensures
