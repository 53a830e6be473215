use Rattle.std.proofs.Common.{◌∙◌, ◌-◌, List, ap, arith, subst, sym}
use Rattle.box_images.specs.declared.images.Image.{Image}
use Rattle.box_steps.specs.Moments.{IsStepOn}
use Rattle.box_steps.specs.declared.moment.BoxMoment.{BoxMoment}
use Rattle.box_steps.specs.declared.onward.Onward.{Onward}
use Rattle.box_walk.proofs.Rests.{rest_arrives, rest_goes_far, rest_goes_on, rest_loops, rest_stops}
use Rattle.box_walk.specs.Rests.{is_among}
use Rattle.vpc_laws.specs.Types.{Place}
use Rattle.vpc_model.specs.Appliances.{appliances_of}
use Rattle.box_walk.proofs.walks.+rest_on.Goals as goal

pub returns-then-is_among : goal.returns-then-is_among
returns-then-is_among g t c =
    let some = c.requires.some in
    rest_loops c.args.f.now (appliances_of c.args.f.now) c.args.label c.args.left (c.args.left - 1) c.args.visited.now.items c.args.m.now c.step_in_place.new.m c.in-Go.place (omega arith) c.requires.fresh
    (subst (λ (o : Onward). IsStepOn c.args.f.now (appliances_of c.args.f.now) c.args.label c.args.m.now c.step_in_place.new.m o) c.in-Go.is c.step_in_place.ensures)
    (ap (λ (ps : List Place). is_among ps c.in-Go.place) (sym c.push.ensures.items ∙ sym c.as_slice.ensures.value) ∙ (sym c.is_among.ensures ∙ c.if-is_among.true))

pub returns-then-left-eq1 : goal.returns-then-left-eq1
returns-then-left-eq1 g t c =
    rest_goes_far c.args.f.now (appliances_of c.args.f.now) c.args.label c.args.left c.args.visited.now.items c.args.m.now c.step_in_place.new.m c.in-Go.place c.if-left-eq1.true c.requires.fresh
    (subst (λ (o : Onward). IsStepOn c.args.f.now (appliances_of c.args.f.now) c.args.label c.args.m.now c.step_in_place.new.m o) c.in-Go.is c.step_in_place.ensures)
    (ap (λ (ps : List Place). is_among ps c.in-Go.place) (sym c.push.ensures.items ∙ sym c.as_slice.ensures.value) ∙ (sym c.is_among.ensures ∙ c.if-is_among.false))

pub returns-in-Arrive : goal.returns-in-Arrive
returns-in-Arrive g t c =
    let some = c.requires.some in
    let with_header : Image → BoxMoment = λ i. record c.step_in_place.new.m { header = i } in
    rest_arrives c.args.f.now (appliances_of c.args.f.now) c.args.label c.args.left (c.args.left - 1) c.args.visited.now.items c.args.m.now c.step_in_place.new.m _ c.in-Arrive.end (omega arith) c.requires.fresh c.requires.moment
    (subst (λ (o : Onward). IsStepOn c.args.f.now (appliances_of c.args.f.now) c.args.label c.args.m.now c.step_in_place.new.m o) c.in-Arrive.is c.step_in_place.ensures)
    (ap with_header c.within-m.ensures.image)

pub returns-in-Stop : goal.returns-in-Stop
returns-in-Stop g t c =
    let some = c.requires.some in
    rest_stops c.args.f.now (appliances_of c.args.f.now) c.args.label c.args.left (c.args.left - 1) c.args.visited.now.items c.args.m.now c.step_in_place.new.m c.in-Stop.stop (omega arith) c.requires.fresh
    (subst (λ (o : Onward). IsStepOn c.args.f.now (appliances_of c.args.f.now) c.args.label c.args.m.now c.step_in_place.new.m o) c.in-Stop.is c.step_in_place.ensures)

pub returns-else-left-eq1 : goal.returns-else-left-eq1
returns-else-left-eq1 g t c =
    let some = c.requires.some in
    rest_goes_on c.args.f.now (appliances_of c.args.f.now) c.args.label c.args.left (c.args.left - 1) c.args.visited.now.items c.push.new.self.items c.args.m.now c.step_in_place.new.m c.rest_on.new.m c.in-Go.place c.rest_on.result (omega arith) c.requires.fresh
    (subst (λ (o : Onward). IsStepOn c.args.f.now (appliances_of c.args.f.now) c.args.label c.args.m.now c.step_in_place.new.m o) c.in-Go.is c.step_in_place.ensures)
    c.push.ensures.items c.rest_on.ensures
