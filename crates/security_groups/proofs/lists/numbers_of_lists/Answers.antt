use Rattle.std.proofs.Common.{◌∙◌, ap, arith}
use Rattle.vpc_model.specs.declared.rows.Description.{Description}
use Rattle.security_groups.proofs.Steps.{read_from}
use Rattle.security_groups.proofs.Counting.{lists-next}
use Rattle.security_groups.proofs.lists.numbers_of_lists.Goals as goal

pub loop-list-preserved : goal.loop-list-preserved
loop-list-preserved c =
    let d = c.args.n.now in
    let all = c.as_slice-list-items.ensures ∙ ap (λ (x : Description). x.lists) c.description.ensures.value in
    let at = read_from c.as_slice-list-items.result.now d.lists c.loop-list.list-index c.list-item.result all (omega arith) c.list-item.is in
    lists-next d c.loop-list.list-index c.list-item.result c.loop-list.numbers c.add.new.self c.description.ensures.accepted at.0 at.1 c.loop-list.invariant c.in_ok-add.ensures
