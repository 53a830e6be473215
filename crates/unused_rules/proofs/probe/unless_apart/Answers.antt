use Rattle.std.proofs.Common.{◌≡◌, false, true}
use Rattle.unused_rules.proofs.Needing.{apart, together}
use Rattle.unused_rules.proofs.probe.unless_apart.Goals as goal

pub returns-then-are_same : goal.returns-then-are_same
returns-then-are_same c = together c.args.one c.args.other (c.are_same.ensures.0 c.if-are_same.true)

pub returns-else-are_same : goal.returns-else-are_same
returns-else-are_same c = apart c.args.one c.args.other (λ same.
    let is : c.are_same.result ≡ true = c.are_same.ensures.1 same in
    let not : c.are_same.result ≡ false = c.if-are_same.false in
    absurd (cc))
