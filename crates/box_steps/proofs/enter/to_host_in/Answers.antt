use Rattle.std.proofs.Common.{Option, subst, sym}
use Rattle.box_images.specs.Answers.{Answers}
use Rattle.box_images.specs.Images.{header_at}
use Rattle.vpc_laws.specs.Types.{EniNo, SubnetNo}
use Rattle.vpc_model.specs.Lookup.{subnet_of}
use Rattle.vpc_model.specs.Step.Crossing.{deliver, entering}
use Rattle.vpc_model.specs.Step.Enter.{enter_host}
use Rattle.box_steps.proofs.Going.{goes_on}
use Rattle.box_steps.proofs.enter.to_host_in.Goals as goal
use Rattle.box_steps.specs.Cuts.{Standing}
use Rattle.box_steps.specs.Onward.{onward_of}

pub returns-in-Some : goal.returns-in-Some
returns-in-Some c =
    let d = c.args.f.now in
    let i = c.args.i.now in
    let e = c.in-Some.e in
    subst (λ (o : Option EniNo). Answers (Standing d) (λ h. onward_of (enter_host d c.args.v (header_at i h) o)) i.part c.unless_stopped_on.result) (sym c.in-Some.is)
    (goes_on (Standing d) (λ h. entering d (subnet_of d e) (header_at i h)) (λ h. deliver d e (header_at i h)) i.part
    c.entering_on.result c.deliver_to.result c.unless_stopped_on.result c.unless_stopped_on.ensures (λ h. c.deliver_to.ensures (header_at i h))
    (subst (λ (t : SubnetNo). Answers (Standing d) (λ h. entering d t (header_at i h)) i.part c.entering_on.result) c.subnet_of.ensures.number c.entering_on.ensures))
