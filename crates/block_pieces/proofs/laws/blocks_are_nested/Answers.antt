use Rattle.block_pieces.proofs.Nested.{nested}
use Rattle.block_pieces.proofs.laws.blocks_are_nested.Goals as goal

pub returns : goal.returns
returns c = nested
