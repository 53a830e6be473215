use Rattle.std.proofs.Common.{◌∙◌, not, ap}
use Rattle.read_network.proofs.BlockLemmas.{list_any-same_block}
use Rattle.read_network.proofs.blocks.SeenBlocks.is_new.Goals as goal

pub returns-clause-fresh : goal.returns-clause-fresh
returns-clause-fresh c =
    rw (← c.self.view_is)
    (c.in_ok-insert.ensures.added
    ∙ ap not (list_any-same_block c.first.result c.length.result c.args.block.now _ c.first.ensures.value c.length.ensures.value))
