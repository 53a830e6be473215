use Rattle.prefix_text.proofs.BlockLaws.{prefix_of-block_text, prefix_of-cidr_text, prefix_of-Some}
use Rattle.prefix_text.proofs.laws.prefix_laws.Goals as goal

pub returns-clause-reads_back : goal.returns-clause-reads_back
returns-clause-reads_back c = prefix_of-block_text

pub returns-clause-cleared : goal.returns-clause-cleared
returns-clause-cleared c = prefix_of-cidr_text

pub returns-clause-one_form : goal.returns-clause-one_form
returns-clause-one_form c = prefix_of-Some
