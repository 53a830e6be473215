use Rattle.vpc_laws.proofs.Rows.{acl_rows_are_chosen}
use Rattle.vpc_laws.proofs.choice.chooses_acl_rows.Goals as goal

pub returns : goal.returns
returns c = acl_rows_are_chosen
