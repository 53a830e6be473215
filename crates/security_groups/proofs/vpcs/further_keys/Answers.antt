use Rattle.std.proofs.Common.{◌∙◌, ◌++◌, [], ap, arith}
use Rattle.std.specs.List.{flat_map}
use Rattle.vpc_model.specs.declared.rows.Description.{Description}
use Rattle.vpc_model.specs.declared.rows.GroupVpc.{GroupVpc}
use Rattle.security_groups.specs.Ids.{place_of}
use Rattle.security_groups.specs.Members.{number_of}
use Rattle.security_groups.specs.NumberKeys.{key_if}
use Rattle.security_groups.proofs.Steps.{flat_map-next, read_from, take_whole}
use Rattle.security_groups.proofs.vpcs.further_keys.Goals as goal

pub loop-further-preserved : goal.loop-further-preserved
loop-further-preserved c =
    let d = c.args.n.now in
    let ids = c.args.ids.now in
    let all = c.as_slice-further-items.ensures ∙ ap (λ (x : Description). x.scope.vpcs) c.description.ensures.value in
    let i = c.loop-further.further-index in
    let x = c.further-item.result in
    let at = read_from c.as_slice-further-items.result.now d.scope.vpcs i x all (omega arith) c.further-item.is in
    flat_map-next (λ (y : GroupVpc). key_if (number_of d y.group) (place_of ids y.vpc)) [] d.scope.vpcs i x c.loop-further.keys.items c.push_key.new.keys.items at.0 at.1 c.loop-further.invariant
    (c.in_ok-push_key.ensures
    ∙ ap (λ o. c.loop-further.keys.items ++ key_if o c.number.result) c.number_of.ensures
    ∙ ap (λ o. c.loop-further.keys.items ++ key_if (number_of d x.group) o) c.number.ensures)

pub returns : goal.returns
returns c =
    let d = c.args.n.now in
    let all = c.as_slice-further-items.ensures ∙ ap (λ (x : Description). x.scope.vpcs) c.description.ensures.value in
    c.loop-further.invariant ∙ ap (flat_map (λ (y : GroupVpc). key_if (number_of d y.group) (place_of c.args.ids.now y.vpc))) (take_whole d.scope.vpcs c.as_slice-further-items.result.now c.loop-further.further-index all c.loop-further-test.false)
