use Rattle.prefix_text.proofs.NumberLaws.{number_of-decimal, number_of-Some}
use Rattle.prefix_text.proofs.laws.number_laws.Goals as goal

pub returns-clause-reads_back : goal.returns-clause-reads_back
returns-clause-reads_back c = number_of-decimal

pub returns-clause-one_text : goal.returns-clause-one_text
returns-clause-one_text c = number_of-Some
