use Rattle.std.proofs.Common.{◌+◌, ◌<◌, ◌≡◌, ◌∙◌, Err, List, ap, drop, get_or, length, rules, subst, sym, take, true}
use Rattle.std.specs.List.{flat_map}
use Rattle.vpc_model.specs.Accepted.{Claim, claims_of, clashes_after, duplicate_addresses}
use Rattle.vpc_model.specs.Lookup.{has_subnet}
use Rattle.vpc_model.specs.declared.rows.Interface.{Interface}
use Rattle.reference_check.specs.Taken.{AreTaken}
use Rattle.reference_check.specs.Told.{Tells}
use Rattle.reference_check.proofs.Described.{interface-described}
use Rattle.reference_check.proofs.OwnClaims.{interfaces-next, interfaces-told}
use Rattle.reference_check.proofs.Repeats.{flat_map-taken}
use Rattle.reference_check.proofs.clashes.check_claims.Goals as goal

pub claim_interface-requires-clause-described : goal.claim_interface-requires-clause-described
claim_interface-requires-clause-described c =
    let within : c.loop-interface.interface-index < length c.args.d.now.interfaces = rw (← c.as_slice-interface-items.ensures) c.loop-interface-test.true in
    let is = c.interface-item.is ∙ ap (λ (es : List Interface). get_or es c.loop-interface.interface-index c.interface-item.result) c.as_slice-interface-items.ensures in
    let P : Interface → Type 0 = λ e. has_subnet c.args.d.now e.subnet ≡ true in
    subst P (sym is) (interface-described c.args.d.now c.loop-interface.interface-index c.interface-item.result c.requires.complete within)

pub loop-interface-preserved : goal.loop-interface-preserved
loop-interface-preserved c =
    let d = c.args.d.now in
    let i = c.loop-interface.interface-index in
    let e = c.interface-item.result in
    let within : i < length d.interfaces = rw (← c.as_slice-interface-items.ensures) c.loop-interface-test.true in
    let is = c.interface-item.is ∙ ap (λ (es : List Interface). get_or es i e) c.as_slice-interface-items.ensures in
    let before = flat_map (claims_of d) (take i d.interfaces) in
    let inv = c.loop-interface.invariant in
    let taken = flat_map-taken (claims_of d) d.interfaces i e within is in
    record {
      taken = subst (λ (cs : List Claim). AreTaken d cs c.claim_interface.new.taken) taken (c.in_ok-claim_interface.ensures.added before inv.taken);
      rest = ap (λ (cs : List Claim). clashes_after d cs (drop (i + 1) d.interfaces)) (sym taken)
          ∙ interfaces-next d before d.interfaces i e (duplicate_addresses d) within is (c.in_ok-claim_interface.ensures.told before inv.taken) inv.rest;
    }

pub returns-in_err-claim_interface : goal.returns-in_err-claim_interface
returns-in_err-claim_interface c =
    let d = c.args.d.now in
    let i = c.loop-interface.interface-index in
    let x = c.interface-item.result in
    let within : i < length d.interfaces = rw (← c.as_slice-interface-items.ensures) c.loop-interface-test.true in
    let is = c.interface-item.is ∙ ap (λ (es : List Interface). get_or es i x) c.as_slice-interface-items.ensures in
    let before = flat_map (claims_of d) (take i d.interfaces) in
    let inv = c.loop-interface.invariant in
    let cause = c.in_err-claim_interface.field-0.0 in
    let e : c.from_residual.result ≡ Err cause = search rules in
    subst (Tells (duplicate_addresses d)) (sym e)
    (interfaces-told d before d.interfaces i x (duplicate_addresses d) cause within is inv.rest (c.in_err-claim_interface.ensures.told before inv.taken))
