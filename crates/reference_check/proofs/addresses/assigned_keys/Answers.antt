use Rattle.std.proofs.Common.{◌+◌, ◌<◌, ◌≡◌, ◌∙◌, Err, List, ap, drop, get_or, length, map, rules, subst, sym, take, true, ℕ}
use Rattle.std.specs.List.{flat_map}
use Rattle.vpc_model.specs.Accepted.{private_addresses, repeats, repeats_after, same_address}
use Rattle.vpc_model.specs.Lookup.{has_subnet}
use Rattle.vpc_model.specs.declared.rows.Interface.{Interface}
use Rattle.reference_check.specs.Keys.{AreKeys, addresses_of, twice}
use Rattle.reference_check.specs.Told.{Tells}
use Rattle.reference_check.proofs.Described.{interface-described}
use Rattle.reference_check.proofs.Repeats.{flat_map-taken, repeats-later, repeats-told}
use Rattle.reference_check.proofs.addresses.assigned_keys.Goals as goal

pub add_interface-requires-clause-described : goal.add_interface-requires-clause-described
add_interface-requires-clause-described c =
    let within : c.loop-interface.interface-index < length c.args.d.now.interfaces = rw (← c.as_slice-interface-items.ensures) c.loop-interface-test.true in
    let is = c.interface-item.is ∙ ap (λ (es : List Interface). get_or es c.loop-interface.interface-index c.interface-item.result) c.as_slice-interface-items.ensures in
    let P : Interface → Type 0 = λ e. has_subnet c.args.d.now e.subnet ≡ true in
    subst P (sym is) (interface-described c.args.d.now c.loop-interface.interface-index c.interface-item.result c.requires.complete within)

pub loop-interface-preserved : goal.loop-interface-preserved
loop-interface-preserved c =
    let i = c.loop-interface.interface-index in
    let within : i < length c.args.d.now.interfaces = rw (← c.as_slice-interface-items.ensures) c.loop-interface-test.true in
    let is = c.interface-item.is ∙ ap (λ (es : List Interface). get_or es i c.interface-item.result) c.as_slice-interface-items.ensures in
    let before = flat_map (addresses_of c.args.d.now) (take i c.args.d.now.interfaces) in
    let taken = flat_map-taken (addresses_of c.args.d.now) c.args.d.now.interfaces i c.interface-item.result within is in
    let P : List (List ℕ × ℕ) → Type 0 = λ addresses. AreKeys c.args.d.now addresses c.add_interface.new.keys in
    record {
      keys = subst P taken (c.in_ok-add_interface.ensures.added before c.loop-interface.invariant.keys);
      rest = ap (λ (e : List (List ℕ × ℕ)). repeats_after same_address e (flat_map (addresses_of c.args.d.now) (drop (i + 1) c.args.d.now.interfaces))) (sym taken)
          ∙ repeats-later twice same_address before (private_addresses c.args.d.now) (addresses_of c.args.d.now) c.args.d.now.interfaces i c.interface-item.result within is c.loop-interface.invariant.rest (c.in_ok-add_interface.ensures.told before c.loop-interface.invariant.keys);
    }

pub returns-in_err-add_interface-clause-told : goal.returns-in_err-add_interface-clause-told
returns-in_err-add_interface-clause-told c =
    let i = c.loop-interface.interface-index in
    let within : i < length c.args.d.now.interfaces = rw (← c.as_slice-interface-items.ensures) c.loop-interface-test.true in
    let is = c.interface-item.is ∙ ap (λ (es : List Interface). get_or es i c.interface-item.result) c.as_slice-interface-items.ensures in
    let before = flat_map (addresses_of c.args.d.now) (take i c.args.d.now.interfaces) in
    let e : c.from_residual.result ≡ Err c.in_err-add_interface.field-0.0 = search rules in
    subst (Tells (map twice (repeats same_address (private_addresses c.args.d.now)))) (sym e)
    (repeats-told twice same_address before (private_addresses c.args.d.now) (addresses_of c.args.d.now) c.args.d.now.interfaces i c.interface-item.result c.in_err-add_interface.field-0.0 within is c.loop-interface.invariant.rest (c.in_err-add_interface.ensures.told before c.loop-interface.invariant.keys))
