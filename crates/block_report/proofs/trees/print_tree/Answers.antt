use Rattle.std.proofs.Common.{◌∙◌, ◌++◌, List, ap, codes, sym, ℕ}
use Rattle.block_report.specs.Reports.{box_line, ends_line}
use Rattle.block_report.specs.Trees.{node_lines, told_nodes, tree_of}
use Rattle.block_report.specs.Words.{line_end, number_line}
use Rattle.vpc_model.specs.Told.{end_id}
use Rattle.block_report.proofs.Leaves.{leaf_count-told}
use Rattle.block_report.proofs.trees.print_tree.Goals as goal

pub returns-clause-text : goal.returns-clause-text
returns-clause-text c =
    let d = c.args.n.now in
    let told = told_nodes d c.args.nodes.now in
    let version = codes "vpc-report 2" ++ line_end in
    let start = c.end_id.result.now in
    let goal = c.end_id-2.result.now in
    let middle = ends_line start goal ++ box_line c.args.sides.now ++ node_lines told in
    let count = c.leaf_count.ensures ∙ sym (leaf_count-told d c.args.nodes.now) in
    c.in_ok-put_number_line.ensures
    ∙ (ap (λ (text : List ℕ). text ++ number_line (codes "end") c.leaf_count.result) (c.in_ok-put_tree.ensures.text ∙ ap (λ (text : List ℕ). text ++ middle) (c.in_ok-put_line.ensures ∙ ap (λ (text : List ℕ). text ++ version) c.new-out.ensures.items))
    ∙ (ap (λ (n : ℕ). (version ++ middle) ++ number_line (codes "end") n) count
    ∙ (ap (λ (id : List ℕ). tree_of id goal c.args.sides.now told) c.end_id.ensures.value ∙ ap (λ (id : List ℕ). tree_of (end_id d c.args.start) id c.args.sides.now told) c.end_id-2.ensures.value)))
