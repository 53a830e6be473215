use Rattle.std.proofs.Common.{◌∙◌, ap, take}
use Rattle.std.proofs.lemmas.List.{take_all}
use Rattle.vpc_model.specs.Lookup.{is_listed}
use Rattle.reference_check.specs.Claims.{claim_by, claims_by, noted_all}
use Rattle.reference_check.proofs.Marks.{claims_by-none, claims_by-take}
use Rattle.reference_check.proofs.claims.claim_all.Goals as goal

pub loop-r-init : goal.loop-r-init
loop-r-init g c = λ e. e ∙ claims_by-none (λ t row. is_listed t (g.R.Claimant.claimed row)) c.args.targets.now

pub loop-r-preserved : goal.loop-r-preserved
loop-r-preserved g c = λ e.
    c.note_all.ensures (λ t. claim_by (λ row. is_listed t (g.R.Claimant.claimed row)) (take c.loop-r.r c.args.rows.now)) (c.loop-r.invariant e)
    ∙ ap (λ ids. noted_all c.args.targets.now c.loop-r.r ids (λ t. claim_by (λ row. is_listed t (g.R.Claimant.claimed row)) (take c.loop-r.r c.args.rows.now))) c.claimed.ensures
    ∙ claims_by-take (λ t row. is_listed t (g.R.Claimant.claimed row)) c.args.targets.now c.args.rows.now c.loop-r.r c.index-rows-r.result c.loop-r-test.true c.index-rows-r.is

pub returns : goal.returns
returns g c = λ e.
    c.loop-r.invariant e
    ∙ ap (λ rows. claims_by (λ t row. is_listed t (g.R.Claimant.claimed row)) c.args.targets.now rows) (take_all c.loop-r.r c.args.rows.now c.loop-r-test.false)
