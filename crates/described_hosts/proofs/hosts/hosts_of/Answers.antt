use Rattle.std.proofs.Common.{◌≡◌, ◌<◌, ◌∙◌, ◌++◌, List, ap, arith, get_or, length}
use Rattle.vpc_laws.specs.Types.{Description, EniNo, Interface}
use Rattle.described_hosts.proofs.HostLemmas.{few_interfaces, host_or_none, hosts_more}
use Rattle.described_hosts.proofs.hosts.hosts_of.Goals as goal

pub overflow_cast-number : goal.overflow_cast-number
overflow_cast-number c =
    let d = c.args.n.now in
    let same = c.as_slice-interfaces.ensures ∙ ap (λ (n : Description). n.interfaces) c.description.ensures.value in
    let all = ap length same in
    let few = few_interfaces d c.loop-number.number c.description.ensures.accepted (omega (arith, c.loop-number-test.true)) in
    omega (arith, few)

pub loop-number-preserved : goal.loop-number-preserved
loop-number-preserved c =
    let d = c.args.n.now in
    let k = c.loop-number.number in
    let e = c.index-interfaces-number.result in
    let same = c.as_slice-interfaces.ensures ∙ ap (λ (n : Description). n.interfaces) c.description.ensures.value in
    let all = ap length same in
    let within : k < length d.interfaces = omega (arith, c.loop-number-test.true) in
    let read : e ≡ get_or d.interfaces k e = c.index-interfaces-number.is ∙ ap (λ (rows : List Interface). get_or rows k e) same in
    c.in_ok-add.ensures ∙ (ap (λ (xs : List EniNo). xs ++ host_or_none e k) c.loop-number.invariant ∙ hosts_more d k e within read)
