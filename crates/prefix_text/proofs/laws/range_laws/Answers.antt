use Rattle.prefix_text.proofs.RangeLaws.{range_of-range_text, range_of-Some}
use Rattle.prefix_text.proofs.laws.range_laws.Goals as goal

pub returns-clause-reads_back : goal.returns-clause-reads_back
returns-clause-reads_back c = range_of-range_text

pub returns-clause-one_text : goal.returns-clause-one_text
returns-clause-one_text c = range_of-Some
