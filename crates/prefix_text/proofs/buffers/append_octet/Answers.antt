use Rattle.std.proofs.Common.{◌∙◌, ◌+◌, ◌/◌, ◌%◌, ◌++◌, ◌∷◌, [], List, ap, arith, ℕ}
use Rattle.prefix_text.proofs.Digits.{one_digit, three_digits, two_digits}
use Rattle.prefix_text.proofs.buffers.append_octet.Goals as goal

pub returns-then-octet-lt10-clause-items : goal.returns-then-octet-lt10-clause-items
returns-then-octet-lt10-clause-items g c =
    let small = c.if-octet-lt10.true in
    c.push.ensures.items ∙ one_digit c.args.buffer.now.items c.args.octet (omega arith)

pub returns-then-octet-lt100-clause-items : goal.returns-then-octet-lt100-clause-items
returns-then-octet-lt100-clause-items g c =
    let some = c.if-octet-lt10.false in
    let small = c.if-octet-lt100.true in
    c.append_pair.ensures.items ∙ two_digits c.args.buffer.now.items c.args.octet (omega arith) (omega arith)

pub returns-else-octet-lt100-clause-items : goal.returns-else-octet-lt100-clause-items
returns-else-octet-lt100-clause-items g c =
    let some = c.if-octet-lt100.false in
    let fits = c.ranges.octet.fits in
    c.append_pair-else-octet-lt100.ensures.items
    ∙ ap (λ (d : List ℕ). d ++ ((48 + c.args.octet % 100 / 10) ∷ (48 + c.args.octet % 100 % 10) ∷ [])) c.push-else-octet-lt100.ensures.items
    ∙ three_digits c.args.buffer.now.items c.args.octet (omega arith) (omega arith)
