use Rattle.std.proofs.Common.{◌++◌, ◌+◌, ◌<◌, ◌==◌, ◌≡◌, ◌∙◌, Err, List, Option, ap, drop, get_or, length, rules, subst, sym, ℕ}
use Rattle.std.specs.List.{filter_map, flat_map}
use Rattle.vpc_model.specs.Accepted.{duplicate_publics, public_addresses, repeats_after}
use Rattle.vpc_model.specs.declared.refusals.Refusal.TheVariants as refusals
use Rattle.vpc_model.specs.declared.rows.Interface.{Interface}
use Rattle.reference_check.specs.Told.{Tells}
use Rattle.reference_check.proofs.Repeats.{repeats-later, repeats-told}
use Rattle.reference_check.proofs.addresses.duplicate_publics.Goals as goal

pub loop-interface-preserved : goal.loop-interface-preserved
loop-interface-preserved c =
    let publics_of : Interface → List ℕ = λ e. filter_map (λ x. x.1) e.addresses in
    let within : c.loop-interface.interface-index < length c.args.d.now.interfaces = rw (← c.as_slice-interface-items.ensures) c.loop-interface-test.true in
    let is = c.interface-item.is ∙ ap (λ (es : List Interface). get_or es c.loop-interface.interface-index c.interface-item.result) c.as_slice-interface-items.ensures in
    let added = c.in_ok-add_publics.ensures.added ∙ ap (λ (xs : List (ℕ × Option ℕ)). c.loop-interface.publics ++ filter_map (λ x. x.1) xs) c.as_slice.ensures in
    let told = rw c.as_slice.ensures at c.in_ok-add_publics.ensures.told in
    ap (λ (ps : List ℕ). repeats_after (λ a b. a == b) ps (flat_map publics_of (drop (c.loop-interface.interface-index + 1) c.args.d.now.interfaces))) added
    ∙ repeats-later refusals.DuplicatePublic (λ a b. a == b) c.loop-interface.publics (public_addresses c.args.d.now) publics_of c.args.d.now.interfaces c.loop-interface.interface-index c.interface-item.result within is c.loop-interface.invariant told

pub returns-in_err-add_publics : goal.returns-in_err-add_publics
returns-in_err-add_publics c =
    let publics_of : Interface → List ℕ = λ e. filter_map (λ x. x.1) e.addresses in
    let within : c.loop-interface.interface-index < length c.args.d.now.interfaces = rw (← c.as_slice-interface-items.ensures) c.loop-interface-test.true in
    let is = c.interface-item.is ∙ ap (λ (es : List Interface). get_or es c.loop-interface.interface-index c.interface-item.result) c.as_slice-interface-items.ensures in
    let told = rw c.as_slice.ensures at c.in_err-add_publics.ensures.told in
    let e : c.from_residual.result ≡ Err c.in_err-add_publics.field-0.0 = search rules in
    subst (Tells (duplicate_publics c.args.d.now)) (sym e)
    (repeats-told refusals.DuplicatePublic (λ a b. a == b) c.loop-interface.publics (public_addresses c.args.d.now) publics_of c.args.d.now.interfaces c.loop-interface.interface-index c.interface-item.result c.in_err-add_publics.field-0.0 within is c.loop-interface.invariant told)
