use Rattle.std.proofs.Common.{rules}
use Rattle.std.proofs.lemmas.List.Sorted.{All-permutation, IsNonDecreasingBy-from_sort_by_key}
use Rattle.prefix_text.specs.Block.{IsBlock}
use Rattle.block_pieces.specs.declared.rows.BlockRow.{BlockRow}
use Rattle.block_pieces.specs.Sweep.{order_of}
use Rattle.block_pieces.proofs.pieces.in_order.Goals as goal

pub returns-clause-order : goal.returns-clause-order
returns-clause-order c =
    record {
      order = IsNonDecreasingBy-from_sort_by_key (λ (r : BlockRow). order_of r.block) c.sort_unstable_by_key.new.self.items c.sort_unstable_by_key.ensures.sorted (λ a r q k. search rules);
      blocks = All-permutation (λ (r : BlockRow). IsBlock r.block) c.args.rows.items c.sort_unstable_by_key.new.self.items c.sort_unstable_by_key.ensures.permutation c.requires;
    }
