use Rattle.std.proofs.Common.{◌∙◌, ◌==◌, ap, refl}
use Rattle.std.specs.List.{list_any}
use Rattle.vpc_model.specs.Groups.{are_peers}
use Rattle.vpc_model.specs.Lookup.{group_at}
use Rattle.security_groups.specs.Naming.{further_of, over_transit}
use Rattle.security_groups.proofs.NamingLemmas.{first-of-three, further-named, further-peered, last-of-three, second-of-three}
use Rattle.security_groups.proofs.naming.may_name_further.Goals as goal

pub returns-then-has : goal.returns-then-has
returns-then-has c = λ d v naming at_v within.
    let vpcs = further_of d (group_at d (record { 0 = c.args.group })) in
    further-named d c.args.named.now c.args.dir c.args.vpc c.args.group v c.has.result (list_any (λ w. are_peers d w v) vpcs) (list_any (over_transit c.args.dir d v) vpcs) c.has.result naming at_v within
    (c.has.ensures ∙ ap (λ k. list_any (λ n. n == k) c.args.named.now.vpcs.pairs) c.key_of.ensures) refl refl (first-of-three c.has.result _ c.if-has.true)

pub returns-then-share : goal.returns-then-share
returns-then-share c = λ d v naming at_v within.
    let vpcs = further_of d (group_at d (record { 0 = c.args.group })) in
    further-named d c.args.named.now c.args.dir c.args.vpc c.args.group v c.has.result c.share.result (list_any (over_transit c.args.dir d v) vpcs) c.share.result naming at_v within
    (c.has.ensures ∙ ap (λ k. list_any (λ n. n == k) c.args.named.now.vpcs.pairs) c.key_of.ensures)
    (further-peered d c.args.named.now c.args.group c.args.vpc v c.share.result naming at_v within c.share.ensures) refl (second-of-three c.has.result c.share.result _ c.if-share.true)

pub returns-else-share : goal.returns-else-share
returns-else-share c = λ d v naming at_v within.
    further-named d c.args.named.now c.args.dir c.args.vpc c.args.group v c.has.result c.share.result c.over_further_transit.result c.over_further_transit.result naming at_v within
    (c.has.ensures ∙ ap (λ k. list_any (λ n. n == k) c.args.named.now.vpcs.pairs) c.key_of.ensures)
    (further-peered d c.args.named.now c.args.group c.args.vpc v c.share.result naming at_v within c.share.ensures) (c.over_further_transit.ensures d v naming at_v within)
    (last-of-three c.has.result c.share.result c.over_further_transit.result c.if-has.false c.if-share.false)
