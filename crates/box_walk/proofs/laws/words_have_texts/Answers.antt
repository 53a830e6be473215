use Rattle.box_walk.proofs.Texts.{words_have_texts}
use Rattle.box_walk.proofs.laws.words_have_texts.Goals as goal

pub returns : goal.returns
returns c = words_have_texts
