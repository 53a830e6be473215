use Rattle.std.proofs.Common.{ap}
use Rattle.vpc_laws.specs.Types.{Interface}
use Rattle.box_steps.proofs.Barriers.{tells_checked, tells_failed}
use Rattle.box_steps.proofs.Narrowing.{moment-narrowed}
use Rattle.box_steps.proofs.PlainSteps.{walk_of_moment}
use Rattle.box_steps.proofs.interface.checked_on.Goals as goal

pub own_on-own-requires-clause-walk : goal.own_on-own-requires-clause-walk
own_on-own-requires-clause-walk c = walk_of_moment c.args.f.now c.args.label c.args.m.now c.requires.moment

pub groups_on-requires-then-own-clause-moment : goal.groups_on-requires-then-own-clause-moment
groups_on-requires-then-own-clause-moment c =
    moment-narrowed c.args.f.now c.args.label c.own_on-own.result.body c.args.m.now c.narrow.new.self c.requires.moment c.own_on-own.ensures.body.within c.narrow.ensures

pub returns-then-own : goal.returns-then-own
returns-then-own c =
    tells_checked c.args.f.now c.args.label c.args.i c.args.dir c.args.m.now c.narrow.new.self c.groups_on-then-own.new.m c.own_on-own.result c.groups_on-then-own.result c.requires.moment.valid.part
    c.if-own.true c.narrow.ensures c.own_on-own.ensures c.groups_on-then-own.ensures

pub returns-else-own : goal.returns-else-own
returns-else-own c =
    tells_failed c.args.f.now c.args.label c.args.i c.args.dir c.args.m.now c.narrow.new.self c.own_on-own.result c.interface_at.result.now.checked c.check_stop.result c.if-own.false
    c.if-not-interface_at.false (ap (λ (e : Interface). e.checked) c.interface_at.ensures) c.check_stop.ensures c.narrow.ensures c.own_on-own.ensures
