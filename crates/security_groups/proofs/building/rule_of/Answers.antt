use Rattle.std.proofs.Common.{◌∙◌, [], ap, refl, slice_index_or}
use Rattle.std.specs.List.{filter_map, list_any}
use Rattle.prefix_text.specs.Block.{holds}
use Rattle.security_groups.specs.Once.{once}
use Rattle.security_groups.specs.Resolved.{counted, list_no}
use Rattle.security_groups.proofs.building.rule_of.Goals as goal

pub returns : goal.returns
returns c = record {
  number = refl;
  proto = refl;
  from = refl;
  to = refl;
  blocks = λ a. c.in_ok-blocks.ensures a ∙ ap (list_any (holds a)) c.as_slice.ensures;
  lists = c.in_ok-lists.ensures ∙ ap (λ ids. once (filter_map (list_no c.args.n.now) ids)) c.as_slice-2.ensures;
  groups = c.in_ok-groups.ensures ∙ ap (λ ids. once (filter_map (counted c.args.n.now c.args.dir (slice_index_or c.args.named.now.naming.vpcs.ids c.args.vpc [])) ids)) c.as_slice-3.ensures;
}
