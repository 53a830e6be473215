use Rattle.query_words.specs.Events.{words_of}
use Rattle.listing_reader.proofs.RowCuts.{if_ok_as, row_of-read}
use Rattle.listing_reader.proofs.rows.read_row.Goals as goal

pub returns-in-Some-clause-value : goal.returns-in-Some-clause-value
returns-in-Some-clause-value c =
    let t = c.in-Some.tail in
    if_ok_as _ _ c.row_of_tail.result c.row_of_tail.ensures.value
    (row_of-read c.args.origin.now c.args.number (words_of c.args.line.now) c.as_slice.result.now c.as_slice-in-Some.result.now t.told.now t.proto.now t.src.now t.dst.now t.p.now t.q.now
    c.as_slice.ensures c.as_slice-in-Some.ensures c.in-Some.ensures)
