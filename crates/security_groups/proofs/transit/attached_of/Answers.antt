use Rattle.std.proofs.Common.{◌∙◌, ◌==◌, [], ap, arith, subst, sym}
use Rattle.std.specs.List.{flat_map, list_any}
use Rattle.vpc_model.specs.declared.rows.Description.{Description}
use Rattle.number_tables.specs.Keys.{key_of}
use Rattle.security_groups.specs.Ids.{HasIds}
use Rattle.security_groups.specs.Naming.{AreAttached}
use Rattle.security_groups.specs.NumberKeys.{attached_keys}
use Rattle.security_groups.proofs.Steps.{flat_map-next, read_from, take_whole}
use Rattle.security_groups.proofs.VpcKeys.{attached-are}
use Rattle.security_groups.proofs.transit.attached_of.Goals as goal

pub loop-attachment-preserved : goal.loop-attachment-preserved
loop-attachment-preserved c =
    let d = c.args.n.now in
    let letting = c.in_ok-letting.letting in
    let all = c.as_slice-attachment-items.ensures ∙ ap (λ (x : Description). x.attachments) c.description-2.ensures.value in
    let at = read_from c.as_slice-attachment-items.result.now d.attachments c.loop-attachment.attachment-index c.attachment-item.result all (omega arith) c.attachment-item.is in
    flat_map-next (attached_keys c.args.ids.now letting.attachments letting.gateways) [] d.attachments c.loop-attachment.attachment-index c.attachment-item.result c.loop-attachment.keys.items c.add_attachment.new.keys.items at.0 at.1
    c.loop-attachment.invariant c.in_ok-add_attachment.ensures

pub returns : goal.returns
returns c =
    let d = c.args.n.now in
    let ids = c.args.ids.now in
    let letting = c.in_ok-letting.letting in
    let keys = attached_keys ids letting.attachments letting.gateways in
    let all = c.as_slice-attachment-items.ensures ∙ ap (λ (x : Description). x.attachments) c.description-2.ensures.value in
    let gateways : HasIds d.scope.gateways letting.gateways = subst (λ (x : Description). HasIds x.scope.gateways letting.gateways) c.description.ensures.value c.in_ok-letting.ensures.gateways in
    let attachments : HasIds d.scope.attachments letting.attachments = subst (λ (x : Description). HasIds x.scope.attachments letting.attachments) c.description.ensures.value c.in_ok-letting.ensures.attachments in
    subst (AreAttached d ids) (sym c.in_ok-attached.ensures)
    (record {
      gateways = letting.gateways;
      few = c.in_ok-letting.ensures.few;
      named = gateways;
      keys = λ v m k at_v small.
          c.of.ensures (key_of m k)
          ∙ ap (list_any (λ n. n == key_of m k)) (c.loop-attachment.invariant ∙ ap (flat_map keys) (take_whole d.attachments c.as_slice-attachment-items.result.now c.loop-attachment.attachment-index all c.loop-attachment-test.false))
          ∙ attached-are d ids letting.attachments letting.gateways v m k d.attachments c.in_ok-letting.ensures.few gateways attachments at_v small;
    })
