use Rattle.std.proofs.Common.{sym, ◌∙◌}
use Rattle.box_survey.proofs.Shared.{any_if_meets, meets_if_any}
use Rattle.box_survey.proofs.pairs.shares_any.Goals as goal

pub returns-in-Some : goal.returns-in-Some
returns-in-Some c = (
  λ t. any_if_meets c.args.boxes.now c.args.number c.in-Some.b.now c.args.others.now (sym c.in-Some.ensures) (sym c.any_meets.ensures ∙ t),
  λ any. c.any_meets.ensures ∙ meets_if_any c.args.boxes.now c.args.number c.in-Some.b.now c.args.others.now (sym c.in-Some.ensures) any,
)
