use Rattle.std.proofs.Common.{◌∙◌, ◌-◌, List, ap, arith, subst, sym}
use Rattle.box_images.specs.declared.images.Image.{Image}
use Rattle.box_steps.specs.Moments.{IsStepOn}
use Rattle.box_steps.specs.declared.moment.BoxMoment.{BoxMoment}
use Rattle.box_steps.specs.declared.onward.Onward.{Onward}
use Rattle.vpc_base.specs.declared.headers.Label.TheVariants as labels
use Rattle.vpc_laws.specs.Types.{Place}
use Rattle.vpc_model.specs.Appliances.{appliances_of}
use Rattle.vpc_model.specs.declared.stops.Stop.TheVariants as stops
use Rattle.box_walk.proofs.MissedRests.{missed_by_stop, missed_here, sought_later}
use Rattle.box_walk.proofs.Rests.{rest_arrives, rest_goes_far, rest_loops, rest_stops}
use Rattle.box_walk.specs.Rests.{is_among}
use Rattle.box_walk.proofs.seeking.+rest_to.Goals as goal

pub returns-in-Some : goal.returns-in-Some
returns-in-Some g t c =
    let some = c.requires.some in
    missed_here c.args.f.now (appliances_of c.args.f.now) c.args.goal c.args.left (c.args.left - 1) c.args.visited.now.items c.args.m.now c.misses_on.result c.in-Some.body (omega arith) c.requires.fresh
    c.in-Some.is c.misses_on.ensures

pub returns-then-is_among : goal.returns-then-is_among
returns-then-is_among g t c =
    let some = c.requires.some in
    let d = c.args.f.now in
    missed_by_stop d (appliances_of d) c.args.goal c.args.left c.args.visited.now.items c.args.m.now c.step_in_place.new.m (stops.Loop c.in-Go.place)
    (rest_loops d (appliances_of d) labels.Opening c.args.left (c.args.left - 1) c.args.visited.now.items c.args.m.now c.step_in_place.new.m c.in-Go.place (omega arith) c.requires.fresh
    (subst (λ (o : Onward). IsStepOn d (appliances_of d) labels.Opening c.args.m.now c.step_in_place.new.m o) c.in-Go.is c.step_in_place.ensures)
    (ap (λ (ps : List Place). is_among ps c.in-Go.place) (sym c.push.ensures.items ∙ sym c.as_slice.ensures.value) ∙ (sym c.is_among.ensures ∙ c.if-is_among.true)))

pub returns-then-left-eq1 : goal.returns-then-left-eq1
returns-then-left-eq1 g t c =
    let d = c.args.f.now in
    missed_by_stop d (appliances_of d) c.args.goal c.args.left c.args.visited.now.items c.args.m.now c.step_in_place.new.m (stops.TooFar c.in-Go.place)
    (rest_goes_far d (appliances_of d) labels.Opening c.args.left c.args.visited.now.items c.args.m.now c.step_in_place.new.m c.in-Go.place c.if-left-eq1.true c.requires.fresh
    (subst (λ (o : Onward). IsStepOn d (appliances_of d) labels.Opening c.args.m.now c.step_in_place.new.m o) c.in-Go.is c.step_in_place.ensures)
    (ap (λ (ps : List Place). is_among ps c.in-Go.place) (sym c.push.ensures.items ∙ sym c.as_slice.ensures.value) ∙ (sym c.is_among.ensures ∙ c.if-is_among.false)))

pub returns-in-Arrive : goal.returns-in-Arrive
returns-in-Arrive g t c =
    let some = c.requires.some in
    let d = c.args.f.now in
    let with_header : Image → BoxMoment = λ i. record c.step_in_place.new.m { header = i } in
    rest_arrives d (appliances_of d) labels.Opening c.args.left (c.args.left - 1) c.args.visited.now.items c.args.m.now c.step_in_place.new.m _ c.in-Arrive.end (omega arith) c.requires.fresh c.requires.moment
    (subst (λ (o : Onward). IsStepOn d (appliances_of d) labels.Opening c.args.m.now c.step_in_place.new.m o) c.in-Arrive.is c.step_in_place.ensures)
    (ap with_header c.within-m.ensures.image)

pub returns-in-Stop : goal.returns-in-Stop
returns-in-Stop g t c =
    let some = c.requires.some in
    let d = c.args.f.now in
    missed_by_stop d (appliances_of d) c.args.goal c.args.left c.args.visited.now.items c.args.m.now c.step_in_place.new.m c.in-Stop.field-0
    (rest_stops d (appliances_of d) labels.Opening c.args.left (c.args.left - 1) c.args.visited.now.items c.args.m.now c.step_in_place.new.m c.in-Stop.field-0 (omega arith) c.requires.fresh
    (subst (λ (o : Onward). IsStepOn d (appliances_of d) labels.Opening c.args.m.now c.step_in_place.new.m o) c.in-Stop.is c.step_in_place.ensures))

pub returns-else-left-eq1 : goal.returns-else-left-eq1
returns-else-left-eq1 g t c =
    let some = c.requires.some in
    let d = c.args.f.now in
    sought_later d (appliances_of d) c.args.goal c.args.left (c.args.left - 1) c.args.visited.now.items c.push.new.self.items c.args.m.now c.step_in_place.new.m c.rest_to.new.m c.in-Go.place c.rest_to.result (omega arith) c.requires.fresh
    (subst (λ (o : Onward). IsStepOn d (appliances_of d) labels.Opening c.args.m.now c.step_in_place.new.m o) c.in-Go.is c.step_in_place.ensures)
    c.push.ensures.items c.rest_to.ensures
