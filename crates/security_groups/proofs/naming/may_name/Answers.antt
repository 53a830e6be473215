use Rattle.std.proofs.Common.{◌∙◌, ◌<◌, List, ap, arith, get_or, length, ℕ}
use Rattle.std.proofs.lemmas.List.{get_or_default}
use Rattle.vpc_base.proofs.Zips.{length-zip}
use Rattle.security_groups.specs.Naming.{HasOwn}
use Rattle.security_groups.proofs.NamingLemmas.{group-by-further, group-by-own}
use Rattle.security_groups.proofs.naming.may_name.Goals as goal

pub bounds-as_slice-group : goal.bounds-as_slice-group
bounds-as_slice-group c =
    let own = c.args.named.now.vpcs.own.items in
    let long = length-zip (HasOwn c.args.named.now.vpcs.ids) c.args.n.now.groups own c.requires.naming.vpcs.own in
    let seen = ap length c.as_slice.ensures.value in
    let within = c.requires.group in
    omega arith

pub returns-then-may_name_in : goal.returns-then-may_name_in
returns-then-may_name_in c =
    let seen = c.as_slice.result.now in
    let g = c.args.group in
    let own = get_or seen g 0 in
    let all = c.args.named.now.vpcs.own.items in
    let long = length-zip (HasOwn c.args.named.now.vpcs.ids) c.args.n.now.groups all c.requires.naming.vpcs.own in
    let same = ap length c.as_slice.ensures.value in
    let within : g < length seen = omega (arith, c.requires.group) in
    group-by-own c.args.n.now c.args.named.now c.args.dir c.args.vpc g own c.may_name_in.result c.requires.naming c.requires.vpc c.requires.group
    (get_or_default seen g 0 own within ∙ ap (λ (l : List ℕ). get_or l g own) c.as_slice.ensures.value) c.may_name_in.ensures c.if-may_name_in.true

pub returns-else-may_name_in : goal.returns-else-may_name_in
returns-else-may_name_in c =
    let seen = c.as_slice.result.now in
    let g = c.args.group in
    let own = get_or seen g 0 in
    let all = c.args.named.now.vpcs.own.items in
    let long = length-zip (HasOwn c.args.named.now.vpcs.ids) c.args.n.now.groups all c.requires.naming.vpcs.own in
    let same = ap length c.as_slice.ensures.value in
    let within : g < length seen = omega (arith, c.requires.group) in
    group-by-further c.args.n.now c.args.named.now c.args.dir c.args.vpc g own c.may_name_in.result c.may_name_further.result c.requires.naming c.requires.vpc c.requires.group
    (get_or_default seen g 0 own within ∙ ap (λ (l : List ℕ). get_or l g own) c.as_slice.ensures.value) c.may_name_in.ensures c.if-may_name_in.false c.may_name_further.ensures
