use Rattle.std.proofs.Common.{◌∙◌, ap, sym, rules, Some}
use Rattle.vpc_base.specs.declared.headers.Header.{Header}
use Rattle.box_gather.specs.Pile as piles
use Rattle.box_gather.proofs.pile.Pile.trim.Goals as goal

pub returns-then-room-len : goal.returns-then-room-len
returns-then-room-len g c =
    piles.cut c.sort.new.rows.items c.sort.ensures.same c.sort.ensures.rise (search rules) c.index.result.now c.index.ensures c.truncate.ensures.items
    (ap (λ (h : Header). Some h) c.corner.ensures)
