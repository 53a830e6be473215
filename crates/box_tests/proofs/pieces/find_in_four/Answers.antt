use Rattle.std.proofs.Common.{◌≤◌, ◌-◌, ◌*◌, ◌^◌, arith, lit<, subst, ℕ}
use Rattle.piece_table.proofs.Halves.{few_steps}
use Rattle.box_tests.proofs.pieces.find_in_four.Goals as goal

pub returns : goal.returns
returns g c =
    let few = subst (λ (n : ℕ). 2 ^ (c.find.new.steps - c.args.steps.now) ≤ 4 * n) c.requires c.find.ensures.few in
    let four = few_steps 5 (c.find.new.steps - c.args.steps.now) 4 few (lit< tt) in
    omega (arith, four)
