use Rattle.std.proofs.Common.{◌-◌, arith, false, subst, sym, true}
use Rattle.address_sets.specs.Runs.{HaveBegun, IsStretch}
use Rattle.address_sets.proofs.Stretches.{HaveEnded, ended-last, ended-none, stretch-before, stretch-in, stretch-rest}
use Rattle.address_sets.proofs.sets.AddressSet.stretch.Goals as goal
use Rattle.address_sets.proofs.sets.AddressSet.stretch.Goals.{then-begun-gt0+else-address-last, else-begun-gt0}

pub returns-then-address-last : goal.returns-then-address-last
returns-then-address-last c =
    let begun : HaveBegun c.args.address c.self.inside.runs.items c.begun-begun.result = subst (λ rs. HaveBegun c.args.address rs c.begun-begun.result) (sym c.self.view_is) c.begun-begun.ensures in
    subst (λ rs. IsStretch rs c.args.address (c.index.result.now.last, true)) c.self.view_is
    (stretch-in c.args.address c.self.inside.runs.items c.begun-begun.result c.index.result.now c.self.invariant begun c.if-begun-gt0.true c.index.ensures c.if-address-last.true)

pub returns-then-begun-len : goal.returns-then-begun-len
returns-then-begun-len c =
    let begun : HaveBegun c.args.address c.self.inside.runs.items c.begun-begun.result = subst (λ rs. HaveBegun c.args.address rs c.begun-begun.result) (sym c.self.view_is) c.begun-begun.ensures in
    let ended : HaveEnded c.args.address c.self.inside.runs.items c.begun-begun.result =
    elim c.if-begun-gt0.branch [
      | then-begun-gt0+else-address-last w ↦ ended-last c.args.address c.self.inside.runs.items c.begun-begun.result w.index.result.now c.self.invariant begun w.if-begun-gt0.true w.index.ensures w.if-address-last.false
      | else-begun-gt0 w ↦ ended-none c.args.address c.self.inside.runs.items c.begun-begun.result w.if-begun-gt0.false
    ] in
    subst (λ rs. IsStretch rs c.args.address (c.index-then-begun-len.result.now.first - 1, false)) c.self.view_is
    (stretch-before c.args.address c.self.inside.runs.items c.begun-begun.result c.index-then-begun-len.result.now c.self.invariant begun ended (omega (arith, c.self.inside.runs.ok.0)) c.index-then-begun-len.ensures)

pub returns-else-begun-len : goal.returns-else-begun-len
returns-else-begun-len c =
    let begun : HaveBegun c.args.address c.self.inside.runs.items c.begun-begun.result = subst (λ rs. HaveBegun c.args.address rs c.begun-begun.result) (sym c.self.view_is) c.begun-begun.ensures in
    let ended : HaveEnded c.args.address c.self.inside.runs.items c.begun-begun.result =
    elim c.if-begun-gt0.branch [
      | then-begun-gt0+else-address-last w ↦ ended-last c.args.address c.self.inside.runs.items c.begun-begun.result w.index.result.now c.self.invariant begun w.if-begun-gt0.true w.index.ensures w.if-address-last.false
      | else-begun-gt0 w ↦ ended-none c.args.address c.self.inside.runs.items c.begun-begun.result w.if-begun-gt0.false
    ] in
    subst (λ rs. IsStretch rs c.args.address (4294967295, false)) c.self.view_is
    (stretch-rest c.args.address c.self.inside.runs.items c.begun-begun.result (omega (arith, c.ranges.address.fits)) begun ended (omega (arith, c.self.inside.runs.ok.0)))
