use Rattle.ordered_cover.proofs.Splits.{grown_from_tree}
use Rattle.ordered_cover.proofs.growing.blocked.Goals as goal

pub tree_of-requires : goal.tree_of-requires
tree_of-requires g c = record { growing = c.requires.growing; ascending = c.requires.split.ordered.ascending }

pub returns : goal.returns
returns g c = grown_from_tree c.args.max c.requires.split c.in_ok-nodes.ensures c.requires.few
