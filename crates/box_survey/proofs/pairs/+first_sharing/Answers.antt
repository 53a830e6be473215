use Rattle.std.proofs.Common.{arith}
use Rattle.std.proofs.lemmas.Bool.{both_ways}
use Rattle.box_survey.proofs.Shared.{first_at_shares, first_behind, rest_increasing, shorter}
use Rattle.box_survey.proofs.pairs.+first_sharing.Goals as goal

pub returns-then-shares_any : goal.returns-then-shares_any
returns-then-shares_any t c = first_at_shares c.args.boxes.now c.args.numbers.now c.in-len1-up.len_at_least c.requires (c.shares_any.ensures.0 c.if-shares_any.true)

pub first_sharing-requires : goal.first_sharing-requires
first_sharing-requires t c =
    let less = shorter c.args.numbers.now c.in-len1-up.len_at_least in (
      omega (arith, c.decreases, less),
      rest_increasing c.args.numbers.now c.in-len1-up.len_at_least c.requires,
    )

pub returns : goal.returns
returns t c =
    first_behind c.args.boxes.now c.args.numbers.now c.first_sharing.result c.in-len1-up.len_at_least c.requires (λ any. both_ways c.shares_any.result c.if-shares_any.false (c.shares_any.ensures.1 any)) c.first_sharing.ensures
