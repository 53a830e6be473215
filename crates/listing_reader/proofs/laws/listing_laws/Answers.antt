use Rattle.listing_reader.proofs.ReadLists.{lines_follow_two, printed_lists_read_back}
use Rattle.listing_reader.proofs.laws.listing_laws.Goals as goal

pub returns-clause-reads_back : goal.returns-clause-reads_back
returns-clause-reads_back c = printed_lists_read_back

pub returns-clause-follows : goal.returns-clause-follows
returns-clause-follows c = lines_follow_two
