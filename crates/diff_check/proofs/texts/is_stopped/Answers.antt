use Rattle.block_report.specs.Walks.{phase_text, stop_text}
use Rattle.diff_check.proofs.Pieces.{none_after_word, same_after_word}
use Rattle.diff_check.proofs.texts.is_stopped.Goals as goal

pub returns-in-Some : goal.returns-in-Some
returns-in-Some c =
    same_after_word c.args.text.now c.in-Some.rest.now (stop_text c.args.n.now c.args.s.now) c.is_stop.result c.phase_text.result.now (phase_text c.args.phase)
    c.phase_text.ensures c.in-Some.ensures c.is_stop.ensures

pub returns-in-None : goal.returns-in-None
returns-in-None c =
    none_after_word c.args.text.now (stop_text c.args.n.now c.args.s.now) c.phase_text.result.now (phase_text c.args.phase) c.phase_text.ensures c.in-None.ensures
