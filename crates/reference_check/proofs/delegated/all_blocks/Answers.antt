use Rattle.std.proofs.Common.{◌<◌, ◌≡◌, ◌∙◌, List, ap, get_or, length, subst, sym, true}
use Rattle.vpc_model.specs.Lookup.{has_subnet, no_subnet}
use Rattle.vpc_model.specs.declared.rows.Interface.{Interface}
use Rattle.reference_check.proofs.Delegating.{blocks-more}
use Rattle.reference_check.proofs.Described.{interface-described, vpc-described}
use Rattle.reference_check.proofs.delegated.all_blocks.Goals as goal

pub add_blocks-requires-clause-described : goal.add_blocks-requires-clause-described
add_blocks-requires-clause-described c =
    let n = c.loop-number.number in
    let within : n < length c.args.d.now.interfaces = rw (← c.as_slice-interface-items.ensures) c.loop-number-test.true in
    let is = c.interface-item.is ∙ ap (λ (es : List Interface). get_or es n c.interface-item.result) c.as_slice-interface-items.ensures in
    let P : Interface → Type 0 = λ e. has_subnet c.args.d.now e.subnet ≡ true in
    subst P (sym is) (interface-described c.args.d.now n c.interface-item.result c.requires.complete within)

pub loop-number-preserved : goal.loop-number-preserved
loop-number-preserved c =
    let d = c.args.d.now in
    let n = c.loop-number.number in
    let e = c.interface-item.result in
    let within : n < length d.interfaces = rw (← c.as_slice-interface-items.ensures) c.loop-number-test.true in
    let is = c.interface-item.is ∙ ap (λ (es : List Interface). get_or es n e) c.as_slice-interface-items.ensures in
    let P : Interface → Type 0 = λ x. has_subnet d x.subnet ≡ true in
    let subnet = subst P (sym is) (interface-described d n e c.requires.complete within) in
    blocks-more d n e c.loop-number.runs.items c.add_blocks.new.runs.items c.requires.once within is (vpc-described d e.subnet no_subnet c.requires.complete subnet) c.in_ok-add_blocks.ensures c.loop-number.invariant
