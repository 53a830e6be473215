use Rattle.std.proofs.Common.{◌∙◌, ◌==◌, ◌<◌, List, ap, arith, get_or, length, ℕ}
use Rattle.std.specs.List.{list_any}
use Rattle.std.proofs.lemmas.List.{get_or_default}
use Rattle.vpc_base.proofs.Zips.{length-zip}
use Rattle.security_groups.specs.Ids.{place_of}
use Rattle.security_groups.specs.Naming.{HasOwn}
use Rattle.security_groups.proofs.SetLemmas.{counts-at-home, counts-elsewhere, counts-further, counts-nowhere}
use Rattle.security_groups.proofs.sets.further_vpc.Goals as goal

pub returns-in_default : goal.returns-in_default
returns-in_default c =
    counts-nowhere c.args.n.now c.args.vpcs.now c.args.interface.now c.args.group c.number.result c.requires.vpcs c.requires.group (c.number.ensures ∙ ap (place_of c.args.vpcs.now.ids) c.vpc_of.ensures) c.in_default.not-Some

pub bounds-as_slice-group : goal.bounds-as_slice-group
bounds-as_slice-group c =
    let own = c.args.vpcs.now.own.items in
    let long = length-zip (HasOwn c.args.vpcs.now.ids) c.args.n.now.groups own c.requires.vpcs.own in
    let seen = ap length c.as_slice.ensures.value in
    let within = c.requires.group in
    omega arith

pub returns-then-vpc-as_slice : goal.returns-then-vpc-as_slice
returns-then-vpc-as_slice c =
    let seen = c.as_slice.result.now in
    let g = c.args.group in
    let own = get_or seen g 0 in
    let all = c.args.vpcs.now.own.items in
    let long = length-zip (HasOwn c.args.vpcs.now.ids) c.args.n.now.groups all c.requires.vpcs.own in
    let same = ap length c.as_slice.ensures.value in
    let within : g < length seen = omega (arith, c.requires.group) in
    counts-at-home c.args.n.now c.args.vpcs.now c.args.interface.now g own c.in-Some.vpc c.number.result c.requires.vpcs c.requires.group (c.number.ensures ∙ ap (place_of c.args.vpcs.now.ids) c.vpc_of.ensures) c.in-Some.is
    (get_or_default seen g 0 own within ∙ ap (λ (l : List ℕ). get_or l g own) c.as_slice.ensures.value) c.if-vpc-as_slice.true

pub returns-then-not-has : goal.returns-then-not-has
returns-then-not-has c =
    counts-elsewhere c.args.n.now c.args.vpcs.now c.args.interface.now c.args.group 0 c.in-Some.vpc c.number.result c.has.result c.requires.vpcs c.requires.group (c.number.ensures ∙ ap (place_of c.args.vpcs.now.ids) c.vpc_of.ensures) c.in-Some.is
    (c.has.ensures ∙ ap (λ k. list_any (λ n. n == k) c.args.vpcs.now.pairs) c.key_of.ensures) c.if-not-has.true

pub returns : goal.returns
returns c =
    counts-further c.args.n.now c.args.vpcs.now c.args.interface.now c.args.group c.in-Some.vpc c.number.result c.has.result c.requires.vpcs c.requires.group (c.number.ensures ∙ ap (place_of c.args.vpcs.now.ids) c.vpc_of.ensures) c.in-Some.is
    (c.has.ensures ∙ ap (λ k. list_any (λ n. n == k) c.args.vpcs.now.pairs) c.key_of.ensures) c.if-not-has.false
