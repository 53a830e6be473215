use Rattle.std.proofs.Common.{◌∙◌, ◌-◌, ap, length, sym, take}
use Rattle.block_pieces.specs.Sweep.{ends_before}
use Rattle.block_pieces.proofs.Walking.{HasLeft-more, reaches-from}
use Rattle.block_pieces.proofs.sweep.leave_before.Goals as goal

pub loop-around-preserved : goal.loop-around-preserved
loop-around-preserved c =
    HasLeft-more c.args.around.now.items c.loop-around.around.items c.pop.new.self.items c.args.at c.loop-around.invariant
    (sym (c.ends_before.ensures ∙ ap (λ l. ends_before l c.args.at) c.deref.ensures.value) ∙ c.loop-around-test.true)
    (c.pop.ensures.rest ∙ ap (λ n. take (n - 1) c.loop-around.around.items) (sym c.deref.ensures.len ∙ ap length c.deref.ensures.value))

pub returns-clause-reach : goal.returns-clause-reach
returns-clause-reach c = reaches-from c.loop-around.around.items c.args.at (sym (c.ends_before.ensures ∙ ap (λ l. ends_before l c.args.at) c.deref.ensures.value) ∙ c.loop-around-test.false)
