use Rattle.std.proofs.Common.{◌∙◌, ap, arith, take}
use Rattle.vpc_base.proofs.Zips.{zip_next}
use Rattle.vpc_model.specs.declared.rows.Description.{Description}
use Rattle.security_groups.specs.Naming.{HasOwn}
use Rattle.security_groups.proofs.IdPlaces.{zip-weaker}
use Rattle.security_groups.proofs.Steps.{read_from}
use Rattle.security_groups.proofs.vpcs.own_vpcs.Goals as goal

pub loop-group-preserved : goal.loop-group-preserved
loop-group-preserved c =
    let d = c.args.n.now in
    let all = c.as_slice-group-items.ensures ∙ ap (λ (x : Description). x.groups) c.description.ensures.value in
    let i = c.loop-group.group-index in
    let at = read_from c.as_slice-group-items.result.now d.groups i c.group-item.result all (omega arith) c.group-item.is in
    let kept = zip-weaker (HasOwn c.loop-group.ids) (HasOwn c.number_or_add.new.self) (λ g v has. c.in_ok-vpc.ensures.kept g.vpc v has) (take i d.groups) c.loop-group.own.items c.loop-group.invariant in
    zip_next (HasOwn c.number_or_add.new.self) d.groups c.loop-group.own.items c.push.new.self.items i c.group-item.result c.in_ok-vpc.vpc at.0 at.1 kept c.in_ok-vpc.ensures.number c.in_ok-push.ensures.items
