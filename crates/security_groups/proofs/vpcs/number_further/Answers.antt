use Rattle.std.proofs.Common.{◌∙◌, List, ap, arith, subst}
use Rattle.std.specs.List.{All}
use Rattle.vpc_model.specs.declared.rows.Description.{Description}
use Rattle.vpc_model.specs.declared.rows.GroupVpc.{GroupVpc}
use Rattle.security_groups.specs.Naming.{HasPlace}
use Rattle.security_groups.proofs.IdPlaces.{place-next}
use Rattle.security_groups.proofs.Steps.{read_from, take_whole}
use Rattle.security_groups.proofs.vpcs.number_further.Goals as goal

pub loop-further-preserved : goal.loop-further-preserved
loop-further-preserved c =
    let d = c.args.n.now in
    let all = c.as_slice-further-items.ensures ∙ ap (λ (x : Description). x.scope.vpcs) c.description.ensures.value in
    let i = c.loop-further.further-index in
    let at = read_from c.as_slice-further-items.result.now d.scope.vpcs i c.further-item.result all (omega arith) c.further-item.is in
    place-next d.scope.vpcs i c.further-item.result c.args.ids.now c.loop-further.ids c.number_or_add.new.self c.in_ok-_number._number at.0 at.1 c.loop-further.invariant.0 c.loop-further.invariant.1 c.in_ok-_number.ensures.kept c.in_ok-_number.ensures.number

pub returns-clause-further : goal.returns-clause-further
returns-clause-further c =
    let d = c.args.n.now in
    let all = c.as_slice-further-items.ensures ∙ ap (λ (x : Description). x.scope.vpcs) c.description.ensures.value in
    subst (λ (xs : List GroupVpc). All (HasPlace c.loop-further.ids) xs) (take_whole d.scope.vpcs c.as_slice-further-items.result.now c.loop-further.further-index all c.loop-further-test.false) c.loop-further.invariant.1
