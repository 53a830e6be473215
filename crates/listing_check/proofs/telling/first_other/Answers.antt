use Rattle.std.specs.Prelude.{option_map}
use Rattle.vpc_base.proofs.Results.{if_ok}
use Rattle.header_boxes.specs.Rows.{IsFirst}
use Rattle.listing_check.specs.Looks.{IsOther}
use Rattle.listing_check.specs.Agreement.{agreement_of}
use Rattle.listing_check.proofs.Agreeing.{other_if_first}
use Rattle.listing_check.proofs.telling.first_other.Goals as goal

pub returns : goal.returns
returns g c =
    let told = g.T.Telling.told c.args.telling.now in
    let part = c.args.part.now in
    let wanted = option_map (λ w. w.now) c.args.wanted in
    if_ok (IsFirst (agreement_of told wanted) part) (IsOther told wanted part) c.first.result (λ o. other_if_first told wanted part o) c.first.ensures
