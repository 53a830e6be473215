use Rattle.std.proofs.Common.{refl, subst, sym}
use Rattle.vpc_base.specs.declared.headers.Label.{Label}
use Rattle.vpc_model.specs.Accepted.{IsAccepted}
use Rattle.vpc_model.specs.Appliances.{appliances_of}
use Rattle.box_steps.proofs.NatTables.{answer_at_nat_out}
use Rattle.box_steps.proofs.nat.nat_out_on.Goals as goal
use Rattle.box_steps.specs.Moments.{IsBoxMoment, IsStepOn}

pub returns-in-Answer : goal.returns-in-Answer
returns-in-Answer c =
    let d = c.args.f.now in
    let old = c.args.m.now in
    subst (λ (l : Label). IsStepOn d (appliances_of d) l old c.stop_all.new.m c.stop_all.result) (sym c.in-Answer.is)
    (answer_at_nat_out d (appliances_of d) c.args.n _ old c.stop_all.new.m c.stop_all.result
    (subst IsAccepted c.network.ensures c.description.ensures.accepted) c.requires.place
    (subst (λ (l : Label). IsBoxMoment d l old) c.in-Answer.is c.requires.moment) refl c.stop_all.ensures)
