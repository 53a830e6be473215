use Rattle.std.proofs.Common.{◌≡◌, ◌∙◌, ap}
use Rattle.std.specs.Prelude.{option_map}
use Rattle.block_pieces.specs.declared.sweep.Tells.{Tells}
use Rattle.block_pieces.specs.Sweep.{top_best}
use Rattle.block_pieces.proofs.Walking.{told-there}
use Rattle.block_pieces.proofs.sweep.Sweep.told_at.Goals as goal

pub returns-clause-told : goal.returns-clause-told
returns-clause-told c =
    c.row_of.ensures
    ∙ (ap (option_map (λ (t : Tells). t.row)) (c.top_best.ensures ∙ ap top_best c.deref.ensures.value)
    ∙ told-there c.args.rows.now c.enter_until.new.self c.leave_before.new.around.items c.args.at c.in_ok-enter_until.ensures.swept c.in_ok-enter_until.ensures.upto c.in_ok-enter_until.ensures.all (record { told = c.leave_before.ensures.told; part = c.leave_before.ensures.part }) c.leave_before.ensures.reach)
