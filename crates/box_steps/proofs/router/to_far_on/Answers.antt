use Rattle.std.proofs.Common.{refl}
use Rattle.vpc_model.specs.Step.Router.{to_far}
use Rattle.vpc_model.specs.declared.places.Place.TheVariants as places
use Rattle.box_steps.proofs.TargetAnswers.{answers_leaving}
use Rattle.box_steps.proofs.router.to_far_on.Goals as goal

pub returns : goal.returns
returns c =
    let d = c.args.f.now in
    answers_leaving d c.args.s (places.FarOut c.args.k) (λ h. to_far d c.args.s h c.args.k) c.args.i.now c.leaving_on.result c.unless_stopped_on.result c.unless_stopped_on.ensures
    (λ h. refl) c.leaving_on.ensures
