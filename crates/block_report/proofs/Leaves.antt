-- How many leaves a list of nodes has.
use Rattle.std.proofs.Common.{◌≡◌, ◌≤◌, ◌+◌, List, [], ◌∷◌, ap, arith, refl}
use Rattle.ordered_cover.specs.Trees.{leaf_count}
use Rattle.ordered_cover.specs.declared.trees.Node.{Node}
use Rattle.ordered_cover.specs.declared.trees.Node.TheVariants.{Cut, Leaf}
use Rattle.vpc_laws.specs.Types.{Description, Phase, Stop}
use Rattle.block_report.specs.Trees.{told_nodes}

pub leaf_count-cons : {W : Type 0} (node : Node W) (nodes : List (Node W)) → leaf_count (node ∷ nodes) ≡ leaf_count (node ∷ []) + leaf_count nodes
leaf_count-cons (Cut s c) nodes = omega arith
leaf_count-cons (Leaf w) nodes = omega arith

pub leaf_count-one : {W : Type 0} (node : Node W) → leaf_count (node ∷ []) ≤ 1
leaf_count-one (Cut s c) = omega arith
leaf_count-one (Leaf w) = omega arith

-- what is told of leaves has as many
pub leaf_count-told : (d : Description) (nodes : List (Node (Phase × Stop))) → leaf_count (told_nodes d nodes) ≡ leaf_count nodes
leaf_count-told d [] = refl
leaf_count-told d (Cut s c ∷ nodes) = leaf_count-told d nodes
leaf_count-told d (Leaf word ∷ nodes) = ap (λ n. n + 1) (leaf_count-told d nodes)
