use Rattle.std.proofs.Common.{◌++◌, ◌≡◌, OnOk, slice_get, subst, sym}
use Rattle.std.specs.Prelude.{codes}
use Rattle.block_report.specs.Words.{header_text, word}
use Rattle.listing_check.proofs.Printing.{three_after}
use Rattle.listing_check.specs.Texts.{found_text, id_of, outcome_of}
use Rattle.listing_check.specs.declared.found.Found.{Found}
use Rattle.listing_check.proofs.texts.put_found.Goals as goal

pub returns-in_ok-put-in-Unlisted : goal.returns-in_ok-put-in-Unlisted
returns-in_ok-put-in-Unlisted g c =
    let h = c.in-Unlisted.h in
    let asked = g.Q.Question.asked c.args.q.now in
    let start = slice_get asked c.in-Unlisted.start in
    let old = c.args.out.now.items in
    let printed = three_after c.put_unlisted.result old (codes "no unlisted") (word (id_of start)) (word (header_text h)) (word (outcome_of start h)) _ _ c.in_ok-put-in-Unlisted.ensures c.put_unlisted.ensures in
    subst (λ (f : Found). OnOk c.put_unlisted.result (c.put_unlisted.new.out.items ≡ old ++ found_text asked f)) (sym c.in-Unlisted.is) printed
