use Rattle.std.proofs.Common.{◌∙◌, List, ap, arith, map, subst}
use Rattle.vpc_model.specs.declared.rows.Description.{Description}
use Rattle.vpc_model.specs.declared.rows.Interface.{Interface}
use Rattle.security_groups.proofs.MemberSteps.{AreAdded, added-all, added-first, added-next}
use Rattle.security_groups.proofs.Steps.{read_from, take_whole}
use Rattle.security_groups.proofs.members.Membership.of.Goals as goal

pub loop-interface-init : goal.loop-interface-init
loop-interface-init c =
    added-first c.args.n.now c.as_slice.result.now c.new-interfaces.result.items c.new-keys.result.items (map (λ b. b.items) c.in_ok-delegated.delegated.items) c.new-interfaces.ensures.items c.new-keys.ensures.items
    (c.as_slice.ensures ∙ ap (λ (x : Description). x.groups) c.description.ensures.value) c.in_ok-delegated.ensures

pub loop-interface-preserved : goal.loop-interface-preserved
loop-interface-preserved c =
    let d = c.args.n.now in
    let all = c.as_slice-interface-items.ensures ∙ ap (λ (x : Description). x.interfaces) c.description-2.ensures.value in
    let at = read_from c.as_slice-interface-items.result.now d.interfaces c.loop-interface.interface-index c.interface-item.result all (omega arith) c.interface-item.is in
    added-next d d.interfaces c.loop-interface.interface-index c.interface-item.result c.loop-interface.interfaces.items c.add_interface.new.interfaces.items c.loop-interface.keys.items c.add_interface.new.keys.items
    (map (λ b. b.items) c.loop-interface.delegated.items) (map (λ b. b.items) c.add_interface.new.blocks.items) at.0 at.1 c.loop-interface.invariant c.in_ok-add_interface.ensures.named
    c.in_ok-add_interface.ensures.added c.in_ok-add_interface.ensures.fit c.in_ok-add_interface.ensures.delegated

pub returns-clause-members : goal.returns-clause-members
returns-clause-members c =
    let d = c.args.n.now in
    let all = c.as_slice-interface-items.ensures ∙ ap (λ (x : Description). x.interfaces) c.description-2.ensures.value in
    let whole = take_whole d.interfaces c.as_slice-interface-items.result.now c.loop-interface.interface-index all c.loop-interface-test.false in
    let blocks = map (λ b. b.items) c.loop-interface.delegated.items in
    let are : AreAdded d d.interfaces c.loop-interface.interfaces.items c.loop-interface.keys.items blocks =
    subst (λ (rows : List Interface). AreAdded d rows c.loop-interface.interfaces.items c.loop-interface.keys.items blocks) whole c.loop-interface.invariant in
    added-all (λ b. b.items) d c.loop-interface.interfaces.items c.loop-interface.keys.items c.of-keys.result c.loop-interface.delegated.items c.as_slice-2.result.now c.in_ok-blocks.blocks.items are c.of-keys.ensures
    c.as_slice-2.ensures.value c.in_ok-blocks.ensures
