use Rattle.report_reader.proofs.ReadTrees.{printed_trees_read_back}
use Rattle.report_reader.proofs.TreeLengths.{printed_trees_fit}
use Rattle.report_reader.proofs.laws.tree_laws.Goals as goal

pub returns-clause-reads_back : goal.returns-clause-reads_back
returns-clause-reads_back c = printed_trees_read_back

pub returns-clause-fits : goal.returns-clause-fits
returns-clause-fits c = printed_trees_fit
