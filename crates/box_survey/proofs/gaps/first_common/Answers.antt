use Rattle.std.proofs.Common.{sym, subst}
use Rattle.box_survey.specs.Survey.{IsFirstIn, IsHeldIn}
use Rattle.box_survey.proofs.InGaps.{first_in_common}
use Rattle.box_survey.proofs.gaps.first_common.Goals as goal

pub returns-in-None : goal.returns-in-None
returns-in-None c = λ h inside held. c.in-None.ensures.none h held inside

pub returns-in-Some : goal.returns-in-Some
returns-in-Some c =
    subst (IsFirstIn (IsHeldIn c.args.sides.now) c.args.gap.now) (sym c.low.ensures.value)
    (first_in_common c.args.sides.now c.args.gap.now c.in-Some.common c.in-Some.ensures.valid c.in-Some.ensures.holds)
