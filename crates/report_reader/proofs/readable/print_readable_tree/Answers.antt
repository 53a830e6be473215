use Rattle.std.proofs.Common.{◌≡◌, ◌≤◌, subst, sym, length, List, Ok, ℕ}
use Rattle.vpc_base.proofs.Results.{if_ok_two}
use Rattle.block_report.specs.Trees.{AreTreeIds, told_nodes}
use Rattle.report_reader.proofs.Printing.{named_is_described}
use Rattle.report_reader.proofs.ReadTrees.{printed_trees_read_back}
use Rattle.report_reader.proofs.TreeLengths.{printed_trees_fit}
use Rattle.report_reader.specs.ReadsBack.{IsPrintableTree, Treed, length_limit, treed_report}
use Rattle.report_reader.specs.Reports.{report_of_text}
use Rattle.report_reader.proofs.readable.print_readable_tree.Goals as goal

pub print_tree-requires : goal.print_tree-requires
print_tree-requires c = record {
  start = named_is_described c.args.n.now c.args.start c.requires.ends.start;
  goal = named_is_described c.args.n.now c.args.goal c.requires.ends.goal;
  leaves = c.requires.leaves;
}

-- the report that is printed
abbrev printed : goal.After-print_tree → Treed
printed c = record { start = c.args.start; goal = c.args.goal; sides = c.args.sides.now; nodes = told_nodes c.args.n.now c.args.nodes.now }

printable : (c : goal.After-print_tree) → AreTreeIds c.args.n.now c.args.start c.args.goal (told_nodes c.args.n.now c.args.nodes.now) → IsPrintableTree c.args.n.now (printed c)
printable c ids = record { ends = c.requires.ends; valid = c.requires.sides; fits = c.ends_fit.ensures; tree = c.requires.tree; few = c.requires.few; ids = ids }

pub returns-clause-reads_back : goal.returns-clause-reads_back
returns-clause-reads_back c =
    if_ok_two _ _ _ c.print_tree.result
    (λ text is ids.
    subst (λ (t : List ℕ). report_of_text c.args.n.now t ≡ Ok (treed_report (printed c))) (sym is) (printed_trees_read_back c.args.n.now (printed c) c.description.ensures.accepted (printable c ids)))
    c.print_tree.ensures.text c.print_tree.ensures.ids

pub returns-clause-short : goal.returns-clause-short
returns-clause-short c =
    if_ok_two _ _ _ c.print_tree.result
    (λ text is ids. subst (λ (t : List ℕ). length t ≤ length_limit) (sym is) (printed_trees_fit c.args.n.now (printed c) c.description.ensures.accepted (printable c ids)))
    c.print_tree.ensures.text c.print_tree.ensures.ids
