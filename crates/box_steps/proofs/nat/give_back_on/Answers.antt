use Rattle.std.proofs.Common.{◌∙◌, ap, refl, subst, sym}
use Rattle.vpc_model.specs.Accepted.{IsAccepted}
use Rattle.vpc_model.specs.Appliances.{appliances_of}
use Rattle.box_steps.proofs.NatInward.{one_of, unsolicited_at_nat}
use Rattle.box_steps.proofs.nat.give_back_on.Goals as goal

pub give_back_by-requires-clause-found : goal.give_back_by-requires-clause-found
give_back_by-requires-clause-found c = sym (ap (one_of c.args.n) c.as_slice.ensures.value) ∙ sym c.translation_of.ensures ∙ c.in-Some.is

pub returns-in-None : goal.returns-in-None
returns-in-None c =
    let d = c.args.f.now in
    unsolicited_at_nat d (appliances_of d) c.args.n _ c.args.m.now c.stop_all.new.m c.stop_all.result
    (subst IsAccepted c.network.ensures c.description.ensures.accepted) c.requires.place c.requires.moment
    (sym (ap (one_of c.args.n) c.as_slice.ensures.value) ∙ sym c.translation_of.ensures ∙ c.in-None.is) refl c.stop_all.ensures
