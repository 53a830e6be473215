use Rattle.std.proofs.Common.{◌≡◌, ◌∙◌, ◌<◌, All, ap, arith, get_or, length, subst}
use Rattle.std.proofs.lemmas.List.{take_all}
use Rattle.vpc_base.proofs.Steps.{All-one_more}
use Rattle.vpc_laws.specs.Types.{Description, Interface}
use Rattle.fabric.proofs.HostRows.{few-interfaces, interfaces_next}
use Rattle.fabric.proofs.hosts.entries_of.Goals as goal
use Rattle.fabric.specs.Hosts.{HasFit}
use Rattle.std.specs.Prelude.{List}

pub overflow_cast-number : goal.overflow_cast-number
overflow_cast-number c =
    let same = c.as_slice-interfaces.ensures ∙ ap (λ (d : Description). d.interfaces) c.description.ensures.value in
    let few = few-interfaces c.args.n.now c.as_slice-interfaces.result.now c.loop-number.number c.description.ensures.accepted same (omega (arith, c.loop-number-test.true)) in
    omega (arith, few)

pub loop-number-preserved : goal.loop-number-preserved
loop-number-preserved c =
    let d = c.args.n.now in
    let k = c.loop-number.number in
    let e = c.index-interfaces-number.result in
    let same = c.as_slice-interfaces.ensures ∙ ap (λ (n : Description). n.interfaces) c.description.ensures.value in
    let all = ap length same in
    let within : k < length d.interfaces = omega (arith, c.loop-number-test.true) in
    let read : e ≡ get_or d.interfaces k e = c.index-interfaces-number.is ∙ ap (λ (rows : List Interface). get_or rows k e) same in (
      interfaces_next d c.loop-number.entries.items c.add.new.entries.items k e within read c.loop-number.invariant.0 c.in_ok-add.ensures.added,
      All-one_more HasFit d.interfaces k e within read c.loop-number.invariant.1 c.in_ok-add.ensures.fit,
    )

pub returns-clause-fit : goal.returns-clause-fit
returns-clause-fit c =
    let d = c.args.n.now in
    let same = c.as_slice-interfaces.ensures ∙ ap (λ (n : Description). n.interfaces) c.description.ensures.value in
    let all = ap length same in
    subst (All HasFit) (take_all c.loop-number.number d.interfaces (omega (arith, c.loop-number-test.false))) c.loop-number.invariant.1
