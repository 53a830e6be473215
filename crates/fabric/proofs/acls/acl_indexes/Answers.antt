use Rattle.std.proofs.Common.{◌∙◌, ◌<◌, ◌+◌, ap, arith, length, subst, sym, take}
use Rattle.std.specs.List.{AllZip}
use Rattle.vpc_laws.specs.Types.{Description}
use Rattle.vpc_model.specs.Lookup.{acl_at}
use Rattle.fabric.specs.Indexes.{IsAclIndex}
use Rattle.fabric.proofs.Numbered.{few-acls, zip-acls}
use Rattle.fabric.proofs.acls.acl_indexes.Goals as goal

pub overflow_cast-k : goal.overflow_cast-k
overflow_cast-k c =
    let same = c.as_slice-acls.ensures ∙ ap (λ (d : Description). d.acls) c.description-d.ensures.value in
    let few = few-acls c.args.n.now c.as_slice-acls.result.now c.loop-k.k c.description-d.ensures.accepted same (omega (arith, c.loop-k-test.true)) in
    omega (arith, few)

pub loop-k-preserved : goal.loop-k-preserved
loop-k-preserved c =
    let same = c.as_slice-acls.ensures ∙ ap (λ (d : Description). d.acls) c.description-d.ensures.value in
    let all = ap length same in
    let within : c.loop-k.k < length c.args.n.now.acls = omega (arith, c.loop-k-test.true) in
    let judged = subst (λ (d : Description). IsAclIndex (acl_at d (record { 0 = c.loop-k.k })) c.in_ok-index.index) c.description-d.ensures.value c.in_ok-index.ensures in
    subst (AllZip IsAclIndex (take (c.loop-k.k + 1) c.args.n.now.acls)) (sym c.in_ok-add.ensures)
    (zip-acls c.args.n.now c.loop-k.k c.loop-k.indexes.items c.in_ok-index.index within c.loop-k.invariant judged)
