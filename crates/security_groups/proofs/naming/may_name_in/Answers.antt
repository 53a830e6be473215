use Rattle.std.proofs.Common.{◌∙◌, ◌==◌, ◌||◌, ap, refl}
use Rattle.std.specs.List.{list_any}
use Rattle.std.proofs.lemmas.Bool.{eq-eqb, ne_eqb}
use Rattle.security_groups.specs.Naming.{over_transit}
use Rattle.security_groups.specs.Sharing.{has_pair}
use Rattle.security_groups.proofs.NamingLemmas.{first-of-three, last-of-three, own-named, second-of-three}
use Rattle.security_groups.proofs.naming.may_name_in.Goals as goal

pub returns-then-own-vpc : goal.returns-then-own-vpc
returns-then-own-vpc c = λ d v w naming at_v at_w.
    let own = c.args.own in
    let vpc = c.args.vpc in
    let peered = has_pair c.args.named.now.peers own vpc in
    let over = over_transit c.args.dir d v w in
    own-named d c.args.named.now c.args.dir vpc own v w peered over _ naming at_v at_w refl refl (first-of-three (own == vpc) (peered || over) (eq-eqb own vpc c.if-own-vpc.true))

pub returns-then-has : goal.returns-then-has
returns-then-has c = λ d v w naming at_v at_w.
    let own = c.args.own in
    let vpc = c.args.vpc in
    let peers = c.args.named.now.peers in
    let over = over_transit c.args.dir d v w in
    own-named d c.args.named.now c.args.dir vpc own v w c.has.result over c.has.result naming at_v at_w (c.has.ensures ∙ ap (λ k. list_any (λ n. n == k) peers) c.key_of.ensures) refl
    (second-of-three (own == vpc) c.has.result over c.if-has.true)

pub returns-else-has : goal.returns-else-has
returns-else-has c = λ d v w naming at_v at_w.
    let own = c.args.own in
    let vpc = c.args.vpc in
    let peers = c.args.named.now.peers in
    own-named d c.args.named.now c.args.dir vpc own v w c.has.result c.over_transit.result c.over_transit.result naming at_v at_w (c.has.ensures ∙ ap (λ k. list_any (λ n. n == k) peers) c.key_of.ensures)
    (c.over_transit.ensures d v w naming at_v at_w) (last-of-three (own == vpc) c.has.result c.over_transit.result (ne_eqb own vpc c.if-own-vpc.false) c.if-has.false)
