use Rattle.vpc_laws.proofs.Sorting.{acl_rows_may_be_sorted}
use Rattle.vpc_laws.proofs.choice.sorts_acl_rows.Goals as goal

pub returns : goal.returns
returns c = acl_rows_may_be_sorted
