use Rattle.std.proofs.Common.{◌≡◌, ◌∙◌, List, Option, ap, subst}
use Rattle.std.specs.Prelude.{IfOk}
use Rattle.vpc_laws.specs.Types.{Box5, Description}
use Rattle.fabric.proofs.NamedRows.{boxes-found}
use Rattle.fabric.proofs.firewalls.boxes_of_firewall.Goals as goal

pub returns : goal.returns
returns c =
    let d = c.args.n.now in
    let same = c.as_slice-appliances.ensures ∙ ap (λ (x : Description). x.appliances) c.description.ensures.value in
    subst (λ (boxes : Option (List Box5)). IfOk c.boxes_at.result (λ o. o ≡ boxes))
    (boxes-found d c.args.behind.now c.as_slice-appliances.result.now c.args.firewall.now c.get.result c.requires same c.get.ensures) c.boxes_at.ensures
