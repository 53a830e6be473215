use Rattle.std.proofs.Common.{◌∙◌, sym}
use Rattle.reference_check.proofs.Maps.{found_row, missing_row, position_row}
use Rattle.reference_check.proofs.network.number_of.Goals as goal

pub returns-in-Some-clause-first : goal.returns-in-Some-clause-first
returns-in-Some-clause-first g c =
    sym c.in-Some.is ∙ c.number.ensures.number ∙ position_row g.R.Row.id_of c.args.id.now _ _ c.requires.numbered

pub returns-in-Some-clause-found : goal.returns-in-Some-clause-found
returns-in-Some-clause-found g c =
    let found = found_row g.R.Row.id_of c.args.id.now _ _ _ c.requires.numbered (sym c.number.ensures.number ∙ c.in-Some.is) in
    sym found.there

pub returns-in-Some-clause-number : goal.returns-in-Some-clause-number
returns-in-Some-clause-number g c =
    let found = found_row g.R.Row.id_of c.args.id.now _ _ _ c.requires.numbered (sym c.number.ensures.number ∙ c.in-Some.is) in
    sym found.number

pub returns-in-None-clause-first : goal.returns-in-None-clause-first
returns-in-None-clause-first g c =
    sym c.in-None.is ∙ c.number.ensures.number ∙ position_row g.R.Row.id_of c.args.id.now _ _ c.requires.numbered

pub returns-in-None-clause-found : goal.returns-in-None-clause-found
returns-in-None-clause-found g c =
    sym (missing_row g.R.Row.id_of c.args.id.now _ _ c.requires.numbered (sym c.number.ensures.number ∙ c.in-None.is))
