use Rattle.box_gather.specs.Pile as piles
use Rattle.box_gather.proofs.pile.Pile.shorten.Goals as goal

pub returns-then-room-len : goal.returns-then-room-len
returns-then-room-len g c = piles.trimmed c.trim.ensures
