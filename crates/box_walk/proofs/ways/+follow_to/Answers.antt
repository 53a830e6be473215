use Rattle.std.proofs.Common.{◌-◌, arith, subst}
use Rattle.box_steps.specs.Moments.{IsStepOn}
use Rattle.box_steps.specs.declared.onward.Onward.{Onward}
use Rattle.vpc_base.specs.declared.headers.Label.TheVariants as labels
use Rattle.vpc_model.specs.Appliances.{appliances_of}
use Rattle.box_walk.proofs.WayLemmas.{followed_here, followed_on_if}
use Rattle.box_walk.proofs.ways.+follow_to.Goals as goal

pub returns-then-is_wanted : goal.returns-then-is_wanted
returns-then-is_wanted g t c =
    let d = c.args.f.now in
    followed_here d (appliances_of d) c.in-Into.e c.args.left c.args.visited.now.items c.args.m.now c.in-Into.is
    c.requires.moment c.requires.remembered c.requires.fresh c.requires.some c.requires.few

pub returns-else-left-eq1 : goal.returns-else-left-eq1
returns-else-left-eq1 g t c =
    let some = c.requires.some in
    let d = c.args.f.now in
    followed_on_if d (appliances_of d) c.follow_to.result c.args.left (c.args.left - 1) c.args.visited.now.items c.push.new.self.items c.args.m.now c.step_in_place.new.m c.follow_to.new.m c.in-Go.place (omega arith) c.requires.fresh
    (subst (λ (o : Onward). IsStepOn d (appliances_of d) labels.Opening c.args.m.now c.step_in_place.new.m o) c.in-Go.is c.step_in_place.ensures)
    c.push.ensures.items c.follow_to.ensures
