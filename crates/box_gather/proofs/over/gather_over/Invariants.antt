use Rattle.std.proofs.Common.{take}
use Rattle.box_gather.specs.Pile.{IsPile}
use Rattle.box_gather.proofs.over.gather_over.Given as goal

-- the pile is one of the boxes so far
abbrev pub invariant-loop-part : goal.invariant-loop-part
invariant-loop-part g l = IsPile (g.P.Probe.meaning l.p) (g.P.Probe.cuts l.p) (take l.part-index l.boxes) l.room l.pile.rows.items l.pile.next
