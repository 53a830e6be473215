use Rattle.header_boxes.specs.Boxes.{low_of}
use Rattle.header_boxes.proofs.Held.{low_under}
use Rattle.header_boxes.proofs.Order.{not_before_if_under}
use Rattle.vpc_base.specs.Header.{order_of}
use Rattle.box_survey.proofs.Order.{not_before_trans, not_less}
use Rattle.box_survey.proofs.findings.Findings.is_past.Goals as goal

pub returns-in-Some : goal.returns-in-Some
returns-in-Some c = λ t h inside.
    let low = low_of c.args.cell.now in
    rw c.in-Some.is
    (not_before_trans h low c.in-Some.h (not_before_if_under low h (low_under h c.args.cell.now inside))
    (not_less (order_of low c.in-Some.h) (rw (c.is_lt.ensures, c.order.ensures, c.low.ensures.value) at t)))
