use Rattle.block_report.specs.Words.{word}
use Rattle.diff_check.proofs.Pieces.{blank_after}
use Rattle.diff_check.proofs.texts.after_word.Goals as goal

pub returns-in-Some : goal.returns-in-Some
returns-in-Some c = blank_after c.args.text.now c.args.piece.now c.in-Some.rest.now c.after-in-Some.result c.in-Some.ensures c.after-in-Some.ensures

pub returns-in-None : goal.returns-in-None
returns-in-None c = λ x. c.in-None.ensures (word x)
