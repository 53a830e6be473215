use Rattle.prefix_text.proofs.AddrLaws.{addr_of-addr_text, addr_of-Some}
use Rattle.prefix_text.proofs.laws.addr_laws.Goals as goal

pub returns-clause-reads_back : goal.returns-clause-reads_back
returns-clause-reads_back c = addr_of-addr_text

pub returns-clause-one_text : goal.returns-clause-one_text
returns-clause-one_text c = addr_of-Some
