use Rattle.std.proofs.Common.{◌∙◌, ap, take}
use Rattle.std.proofs.lemmas.List.{take_all}
use Rattle.vpc_model.specs.Accepted.{is_main_of}
use Rattle.reference_check.specs.Claims.{claim_by, claims_by}
use Rattle.reference_check.proofs.Marks.{claims_by-none, claims_by-take}
use Rattle.reference_check.proofs.claims.claim_mains.Goals as goal

pub loop-r-init : goal.loop-r-init
loop-r-init c = λ e. e ∙ claims_by-none is_main_of c.args.vpcs.now

pub loop-r-preserved : goal.loop-r-preserved
loop-r-preserved c = λ e.
    c.note_main.ensures (λ t. claim_by (is_main_of t) (take c.loop-r.r c.args.tables.now)) (c.loop-r.invariant e)
    ∙ claims_by-take is_main_of c.args.vpcs.now c.args.tables.now c.loop-r.r c.index-tables-r.result c.loop-r-test.true c.index-tables-r.is

pub returns : goal.returns
returns c = λ e.
    c.loop-r.invariant e ∙ ap (λ rows. claims_by is_main_of c.args.vpcs.now rows) (take_all c.loop-r.r c.args.tables.now c.loop-r-test.false)
