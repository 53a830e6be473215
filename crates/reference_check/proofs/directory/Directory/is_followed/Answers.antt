use Rattle.std.proofs.Common.{◌∙◌, List, ap, get_or, sym}
use Rattle.vpc_model.specs.Firewalls.{is_behind_endpoint}
use Rattle.vpc_model.specs.declared.rows.Appliance.{Appliance}
use Rattle.reference_check.proofs.Behind.{followed-is, followed-none}
use Rattle.reference_check.proofs.directory.Directory.is_followed.Goals as goal

pub returns-in-Some : goal.returns-in-Some
returns-in-Some c =
    let number = rw c.bytes.ensures.value at c.number.ensures.number in
    rw (← c.self.view_is)
    (c.is_behind_endpoint.ensures ∙ ap (λ (rows : List Appliance). is_behind_endpoint (get_or rows c.in-Some.k c.index-as_slice-k.result).at) c.as_slice.ensures
    ∙ followed-is c.self.inside.d _ c.args.endpoint.now.id c.in-Some.k c.index-as_slice-k.result c.self.invariant.differ c.self.invariant.numbered.gateways.appliances (sym number ∙ c.in-Some.is))

pub returns-in-None : goal.returns-in-None
returns-in-None c =
    let number = rw c.bytes.ensures.value at c.number.ensures.number in
    rw (← c.self.view_is) (followed-none c.self.inside.d _ c.args.endpoint.now.id c.self.invariant.numbered.gateways.appliances (sym number ∙ c.in-None.is))
