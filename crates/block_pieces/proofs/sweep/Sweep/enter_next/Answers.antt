use Rattle.std.proofs.Common.{◌+◌, ◌≡◌, ◌∙◌, ap, arith, refl, sym}
use Rattle.block_pieces.specs.Sweep.{better_of, tells, top_best}
use Rattle.block_pieces.proofs.Walking.{has_opened}
use Rattle.block_pieces.proofs.sweep.Sweep.enter_next.Goals as goal

pub returns : goal.returns
returns c =
    has_opened c.args.rows.now c.args.self.now (record { at = c.first-first.result; next = c.args.self.now.next + 1; around = c.push.new.self }) c.leave_before.new.around.items c.index-rows-self.result (record { last = c.last-last.result; best = c.better_of-best.result })
    c.requires.order c.requires.swept c.requires.more c.index-rows-self.is (record { told = λ a from. c.leave_before.ensures.told a (omega (arith, c.first-first.ensures.value)); part = c.leave_before.ensures.part }) (λ d some. omega (arith, c.leave_before.ensures.reach d some, c.first-first.ensures.value))
    c.in_ok-push.ensures.items c.last-last.ensures (c.better_of-best.ensures ∙ ap (λ t. better_of t (tells c.index-rows-self.result)) (c.top_best.ensures ∙ ap top_best c.deref.ensures.value)) c.first-first.ensures.value refl
