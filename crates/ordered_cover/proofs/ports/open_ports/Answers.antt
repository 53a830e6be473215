use Rattle.ordered_cover.proofs.OpenRanges.{left_is_valid, open_all, open_at_start, open_more}
use Rattle.ordered_cover.proofs.ports.open_ports.Goals as goal

pub decided-init : goal.decided-init
decided-init g c = open_at_start c.new-ranges.result.items c.new-ranges.ensures.items c.requires

pub first_ports-found-requires : goal.first_ports-found-requires
first_ports-found-requires g c = left_is_valid c.decided.invariant c.requires

pub returns-then-found-sides : goal.returns-then-found-sides
returns-then-found-sides g c =
    open_all c.decided.invariant c.add_open.new.ranges.items c.first_ports-found.result.last c.first_ports-found.result.are_open c.first_ports-found.ensures c.in_ok-add_open.ensures.hold
    c.in_ok-add_open.ensures.below c.if-found-sides.true

pub decided-preserved : goal.decided-preserved
decided-preserved g c =
    open_more c.decided.invariant c.add_open.new.ranges.items c.first_ports-found.result.last c.first_ports-found.result.are_open c.first_ports-found.ensures c.in_ok-add_open.ensures.hold
    c.in_ok-add_open.ensures.below c.if-found-sides.false
