use Rattle.box_images.specs.Images.{header_at}
use Rattle.vpc_model.specs.Step.Crossing.{entering, leaving}
use Rattle.box_steps.proofs.AclAnswers.{answers_passed, answers_stopped}
use Rattle.box_steps.proofs.crossing.between_on.Goals as goal
use Rattle.box_steps.specs.Cuts.{Standing}

pub returns-in-Some : goal.returns-in-Some
returns-in-Some c =
    let d = c.args.f.now in
    let i = c.args.i.now in
    answers_stopped (Standing d) (λ h. leaving d c.args.s (header_at i h)) (λ h. entering d c.args.t (header_at i h)) i.part
    c.leaving_on-first.result _ c.in-Some.is c.leaving_on-first.ensures

pub returns-in-None : goal.returns-in-None
returns-in-None c =
    let d = c.args.f.now in
    answers_passed (Standing d) (leaving d c.args.s) (entering d c.args.t) c.args.i.now c.within.result c.leaving_on-first.result c.entering_on.result
    c.requires.valid.part c.in-None.is c.within.ensures.image c.leaving_on-first.ensures c.entering_on.ensures
