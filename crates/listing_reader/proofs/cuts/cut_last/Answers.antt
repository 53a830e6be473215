use Rattle.std.proofs.Common.{rules}
use Rattle.listing_reader.proofs.CutLemmas.{words_of-last, words_of-one}
use Rattle.listing_reader.proofs.cuts.cut_last.Goals as goal

pub returns-in-Some : goal.returns-in-Some
returns-in-Some c = words_of-last c.args.text.now c.in-Some.at (search rules) (search rules) (search rules)

pub returns-in-None : goal.returns-in-None
returns-in-None c = words_of-one c.args.text.now (search rules)
