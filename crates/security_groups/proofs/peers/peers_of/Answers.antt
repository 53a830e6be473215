use Rattle.std.proofs.Common.{◌∙◌, ◌++◌, ◌==◌, [], ap, arith}
use Rattle.std.specs.List.{flat_map, list_any}
use Rattle.vpc_model.specs.declared.rows.Description.{Description}
use Rattle.vpc_model.specs.declared.rows.Peering.{Peering}
use Rattle.number_tables.specs.Keys.{key_of}
use Rattle.security_groups.specs.NumberKeys.{both_keys, numbers_if}
use Rattle.security_groups.proofs.Steps.{flat_map-next, read_from, take_whole}
use Rattle.security_groups.proofs.VpcKeys.{peers-are}
use Rattle.security_groups.proofs.peers.peers_of.Goals as goal

pub loop-peering-preserved : goal.loop-peering-preserved
loop-peering-preserved c =
    let d = c.args.n.now in
    let ids = c.args.ids.now in
    let all = c.as_slice-peering-items.ensures ∙ ap (λ (x : Description). x.peerings) c.description.ensures.value in
    let at = read_from c.as_slice-peering-items.result.now d.peerings c.loop-peering.peering-index c.peering-item.result all (omega arith) c.peering-item.is in
    flat_map-next (λ (x : Peering). both_keys (numbers_if ids x.pair)) [] d.peerings c.loop-peering.peering-index c.peering-item.result c.loop-peering.keys.items c.add_both.new.keys.items at.0 at.1 c.loop-peering.invariant
    (c.in_ok-add_both.ensures ∙ ap (λ o. c.loop-peering.keys.items ++ both_keys o) c.numbers_if.ensures)

pub returns : goal.returns
returns c = λ v w m k at_v at_w.
    let d = c.args.n.now in
    let ids = c.args.ids.now in
    let all = c.as_slice-peering-items.ensures ∙ ap (λ (x : Description). x.peerings) c.description.ensures.value in
    c.of.ensures (key_of m k)
    ∙ ap (list_any (λ n. n == key_of m k)) (c.loop-peering.invariant ∙ ap (flat_map (λ (x : Peering). both_keys (numbers_if ids x.pair))) (take_whole d.peerings c.as_slice-peering-items.result.now c.loop-peering.peering-index all c.loop-peering-test.false))
    ∙ peers-are d ids v w m k c.requires at_v at_w
