use Rattle.std.proofs.Common.{◌++◌, ◌≡◌, ◌∙◌, List, None, Option, Some, ap, get_or, map, subst, sym, take, ℕ}
use Rattle.std.proofs.lemmas.List.{append-nil, drop_all, get_or_default, take_all}
use Rattle.vpc_model.specs.Accepted.{repeats_after, same_address}
use Rattle.vpc_model.specs.declared.refusals.Refusal.TheVariants as refusals
use Rattle.reference_check.specs.Keys.{AreKeys, addresses_in, twice}
use Rattle.reference_check.proofs.Keyed.{rest-once, taken-in, told-twice}
use Rattle.reference_check.proofs.addresses.add_addresses.Goals as goal

pub loop-address-init : goal.loop-address-init
loop-address-init c = λ earlier are.
    let P : List (List ℕ × ℕ) → Type 0 = λ e. AreKeys c.args.d.now e c.args.keys.now in
    (subst P (sym (append-nil earlier)) are, ap (λ (e : List (List ℕ × ℕ)). repeats_after same_address e (addresses_in c.args.vpc.now c.args.addresses.now)) (append-nil earlier))

pub loop-address-preserved : goal.loop-address-preserved
loop-address-preserved c = λ earlier are.
    let i = c.loop-address.address-index in
    let x = get_or c.args.addresses.now i (0, None) in
    let is : x ≡ get_or c.args.addresses.now i x = get_or_default c.args.addresses.now i (0, None) x c.loop-address-test.true in
    let before = earlier ++ addresses_in c.args.vpc.now (take i c.args.addresses.now) in
    let inv = c.loop-address.invariant earlier are in
    let P : List (List ℕ × ℕ) → Type 0 = λ e. AreKeys c.args.d.now e c.add_address.new.keys in (
      subst P (taken-in c.args.vpc.now earlier c.args.addresses.now i x c.loop-address-test.true is) (c.in_ok-add_address.ensures.added before inv.0 c.if-not-branch.false),
      rest-once c.args.vpc.now earlier c.args.addresses.now i x (addresses_in c.args.vpc.now c.args.addresses.now) c.loop-address-test.true is (sym c.if-not-branch.false ∙ c.in_ok-add_address.ensures.fresh before inv.0) inv.1,
    )

pub returns-then-not-branch-clause-told : goal.returns-then-not-branch-clause-told
returns-then-not-branch-clause-told c = λ earlier are.
    let i = c.loop-address.address-index in
    let x = get_or c.args.addresses.now i (0, None) in
    let is : x ≡ get_or c.args.addresses.now i x = get_or_default c.args.addresses.now i (0, None) x c.loop-address-test.true in
    let before = earlier ++ addresses_in c.args.vpc.now (take i c.args.addresses.now) in
    let inv = c.loop-address.invariant earlier are in
    told-twice c.args.vpc.now earlier c.args.addresses.now i x (addresses_in c.args.vpc.now c.args.addresses.now) c.loop-address-test.true is (sym c.if-not-branch.true ∙ c.in_ok-add_address.ensures.fresh before inv.0) inv.1
    ∙ ap (λ (id : List ℕ). Some (refusals.DuplicateAddress id x.0)) (sym c.in_ok-copied.ensures)

pub returns-clause-told : goal.returns-clause-told
returns-clause-told c = λ earlier are.
    let i = c.loop-address.address-index in
    let before = earlier ++ addresses_in c.args.vpc.now (take i c.args.addresses.now) in
    let inv = c.loop-address.invariant earlier are in
    ap (map twice) (sym inv.1 ∙ ap (λ (xs : List (ℕ × Option ℕ)). repeats_after same_address before (addresses_in c.args.vpc.now xs)) (drop_all i c.args.addresses.now c.loop-address-test.false))

pub returns-clause-added : goal.returns-clause-added
returns-clause-added c = λ earlier are.
    let i = c.loop-address.address-index in
    let inv = c.loop-address.invariant earlier are in
    let P : List (ℕ × Option ℕ) → Type 0 = λ xs. AreKeys c.args.d.now (earlier ++ addresses_in c.args.vpc.now xs) c.loop-address.keys in
    subst P (take_all i c.args.addresses.now c.loop-address-test.false) inv.0
