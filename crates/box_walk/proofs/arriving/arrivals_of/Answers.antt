use Rattle.std.proofs.Common.{◌∙◌, ap, refl, sym}
use Rattle.std.specs.Prelude.{is_some}
use Rattle.vpc_base.proofs.Options.{none_if}
use Rattle.appliances.specs.Passing.{number_of}
use Rattle.vpc_model.specs.Appliances.{Appliances, appliances_of}
use Rattle.box_walk.specs.Asking.{homes_by}
use Rattle.box_walk.proofs.ArrivingLemmas.{are_arrivals}
use Rattle.box_walk.proofs.arriving.arrivals_of.Goals as goal

pub returns-then-is_within : goal.returns-then-is_within
returns-then-is_within g c =
    let d = c.args.f.now in
    are_arrivals d (appliances_of d) (homes_by c.args.links.now c.args.start) c.in_ok-e.e c.args.m.now c.come_to.new.m c.let_in.new.m c.word_of_arrival-back.new.m c.word_of_arrival-back.result _
    c.requires.requests c.in_ok-e.ensures
    (sym (none_if (number_of (appliances_of d) c.in_ok-e.e) (sym (ap is_some (c.number.ensures ∙ ap (λ (r : Appliances). number_of r c.in_ok-e.e) c.requires.appliances)) ∙ (sym c.is_some.ensures ∙ c.if-is_some.false))))
    (sym c.same_end.ensures ∙ c.if-same_end.false) c.let_in.ensures c.word_of_arrival-back.ensures (c.is_within.ensures c.if-is_within.true) refl
