use Rattle.std.proofs.Common.{◌≡◌, ◌∙◌, ◌++◌, List, ap, arith, length}
use Rattle.vpc_laws.specs.Types.{Description, FarNo}
use Rattle.listing_text.proofs.OutsideLemmas.{few_networks, source_or_none, sources_below, sources_more}
use Rattle.listing_text.proofs.outside.sources_of.Goals as goal

pub overflow_cast-number : goal.overflow_cast-number
overflow_cast-number c =
    let d = c.args.n.now in
    let all = ap length (c.as_slice-count.ensures ∙ ap (λ (n : Description). n.fars) c.description.ensures.value) in
    let few = few_networks d c.loop-number.number c.description.ensures.accepted (omega (arith, all, c.loop-number-test.true)) in
    omega (arith, few)

pub loop-number-preserved : goal.loop-number-preserved
loop-number-preserved c =
    let d = c.args.n.now in
    let k = c.loop-number.number in
    c.in_ok-add.ensures ∙ (ap (λ (xs : List FarNo). xs ++ source_or_none d k) c.loop-number.invariant ∙ sources_more d k)

pub returns : goal.returns
returns c =
    let d = c.args.n.now in
    let all = ap length (c.as_slice-count.ensures ∙ ap (λ (n : Description). n.fars) c.description.ensures.value) in
    let done : c.loop-number.number ≡ length d.fars = omega (arith, all, c.loop-number-test.false, c.loop-number.auto.number-end) in
    c.loop-number.invariant ∙ ap (sources_below d) done
