use Rattle.std.proofs.Common.{◌≡◌, bytes_eq, position}
use Rattle.reference_check.specs.FirstNumbers.{number_in}
use Rattle.read_filters.proofs.group_rules.rules_of.Goals as goal

pub returns : goal.returns
returns c =
    let same : number_in c.in_ok-numbers.numbers ≡ (λ id. position (λ g. bytes_eq g.id id) c.args.groups.now) = λ i id. c.in_ok-numbers.ensures id i in
    rw (c.in_ok-rows.ensures, ← same, ← c.as_slice.ensures.value) c.rules_among.ensures
