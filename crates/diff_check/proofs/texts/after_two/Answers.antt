use Rattle.diff_check.proofs.Pieces.{no_word_after, word_after}
use Rattle.diff_check.proofs.texts.after_two.Goals as goal

pub returns-in-Some : goal.returns-in-Some
returns-in-Some c = word_after c.args.text.now c.args.piece.now c.args.second.now c.in-Some.rest.now c.after_word-in-Some.result c.in-Some.ensures c.after_word-in-Some.ensures

pub returns-in-None : goal.returns-in-None
returns-in-None c = no_word_after c.args.text.now c.args.piece.now c.args.second.now c.in-None.ensures
