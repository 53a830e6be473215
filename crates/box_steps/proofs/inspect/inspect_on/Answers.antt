use Rattle.std.proofs.Common.{List, ap, subst, sym}
use Rattle.box_images.specs.Answers.{Answers}
use Rattle.box_images.specs.Images.{header_at}
use Rattle.cut_laws.specs.Dividing.{Divide}
use Rattle.vpc_laws.specs.Types.{Box5, SubnetNo}
use Rattle.vpc_model.specs.Appliances.{passes}
use Rattle.vpc_model.specs.Cuts.{all_cuts, cuts_of_box}
use Rattle.vpc_model.specs.Firewalls.{boxes_behind}
use Rattle.vpc_model.specs.Step.Inspect.{firewall_subnet}
use Rattle.vpc_model.specs.Step.Words.{go}
use Rattle.vpc_model.specs.declared.places.Came.TheVariants as from
use Rattle.vpc_model.specs.declared.places.Place.TheVariants as places
use Rattle.vpc_model.specs.declared.stops.Stop.TheVariants as stops
use Rattle.box_steps.proofs.Going.{goes_if}
use Rattle.box_steps.proofs.InspectAnswers.{answers_behind}
use Rattle.box_steps.proofs.inspect.inspect_on.Goals as goal
use Rattle.box_steps.specs.Cuts.{Standing}
use Rattle.box_steps.specs.declared.onward.Onward.TheVariants as onwards

pub returns : goal.returns
returns c =
    let d = c.args.f.now in
    let e = c.args.e in
    let i = c.args.i.now in
    goes_if (Standing d) (λ h. passes (boxes_behind d e) (header_at i h)) (λ h. go (places.Router (firewall_subnet d e) (from.Firewall e)) (header_at i h)) i.part
    c.passes_on-passed.result _ (stops.InspectDrop e) c.onward_if.result c.onward_if.ensures
    (λ h. ap (λ (s : SubnetNo). onwards.Go (places.Router s (from.Firewall e))) (sym c.firewall_subnet.ensures.number))
    (answers_behind d e i c.passes_on-passed.result
    (subst (λ (boxes : List Box5). Answers (Divide (all_cuts cuts_of_box boxes)) (λ h. passes boxes (header_at i h)) i.part c.passes_on-passed.result) c.boxes_behind.ensures c.passes_on-passed.ensures))
