use Rattle.block_report.specs.Replays.{ending_text, event_text}
use Rattle.block_report.specs.Words.{line_end, word}
use Rattle.block_report.proofs.Texts.{after_two}
use Rattle.block_report.proofs.replays.put_event_line.Goals as goal

pub returns : goal.returns
returns c =
    after_two c.put_end.result c.args.out.now.items (event_text c.args.number) (word (ending_text c.args.n.now c.args.outcome.now)) line_end
    c.put_event.new.out.items c.put_ending_word.new.out.items c.put_end.new.out.items
    c.in_ok-put_event.ensures c.in_ok-put_ending_word.ensures c.put_end.ensures
