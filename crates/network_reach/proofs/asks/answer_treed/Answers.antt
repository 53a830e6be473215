use Rattle.std.proofs.Common.{◌≤◌, arith, refl}
use Rattle.block_report.specs.Trees.{told_nodes}
use Rattle.network_reach.proofs.asks.answer_treed.Goals as goal

pub print_readable_tree-requires : goal.print_readable_tree-requires
print_readable_tree-requires c = record {
  ends = c.requires.query.ends;
  sides = c.requires.query.known.sides;
  leaves = c.requires.told;
  tree = c.requires.tree.tree;
  few = omega (arith, c.requires.few, c.requires.query.few);
}

pub returns : goal.returns
returns c = (
  refl,
  record {
    many = c.requires.many;
    nodes = told_nodes c.args.n.now c.args.nodes.now;
    tree = c.requires.tree;
    few = c.requires.few;
    text_is = c.in_ok-text.ensures.text;
    reads = c.in_ok-text.ensures.reads_back;
    short = c.in_ok-text.ensures.short;
  },
)
