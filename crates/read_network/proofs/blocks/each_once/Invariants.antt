use Rattle.std.proofs.Common.{◌≡◌, ◌++◌, drop}
use Rattle.json_fields.proofs.KeptLemmas.{unseen}
use Rattle.prefix_text.specs.Block.{Block}
use Rattle.read_network.specs.Vpcs.{each_once, same_block}
use Rattle.read_network.proofs.BlockLemmas.{itself}
use Rattle.read_network.proofs.blocks.each_once.Given as goal

abbrev pub invariant-loop-block : goal.invariant-loop-block
invariant-loop-block l = l.kept.items ++ unseen same_block itself l.seen (each_once (drop l.block-index l.blocks)) ≡ each_once l.blocks
