use Rattle.std.proofs.Common.{refl, subst, sym}
use Rattle.vpc_base.specs.declared.headers.Label.{Label}
use Rattle.vpc_model.specs.Accepted.{IsAccepted}
use Rattle.vpc_model.specs.Appliances.{appliances_of}
use Rattle.box_steps.proofs.NatTables.{open_at_nat_in}
use Rattle.box_steps.proofs.nat.nat_in_on.Goals as goal
use Rattle.box_steps.specs.Moments.{IsBoxMoment, IsStepOn}

pub returns-in-Opening : goal.returns-in-Opening
returns-in-Opening c =
    let d = c.args.f.now in
    let old = c.args.m.now in
    subst (λ (l : Label). IsStepOn d (appliances_of d) l old c.stop_all.new.m c.stop_all.result) (sym c.in-Opening.is)
    (open_at_nat_in d (appliances_of d) c.args.n _ old c.stop_all.new.m c.stop_all.result
    (subst IsAccepted c.network.ensures c.description.ensures.accepted) c.requires.place
    (subst (λ (l : Label). IsBoxMoment d l old) c.in-Opening.is c.requires.moment) refl c.stop_all.ensures)
