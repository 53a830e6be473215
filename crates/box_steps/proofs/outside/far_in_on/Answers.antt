use Rattle.std.proofs.Common.{◌∙◌, ap, refl, subst, sym}
use Rattle.box_images.specs.Answers.{Answers}
use Rattle.box_images.specs.Images.{header_at}
use Rattle.vpc_laws.specs.Types.{Far}
use Rattle.vpc_model.specs.Far.{blocks_beyond, peering_to, vpc_beside}
use Rattle.vpc_model.specs.Lookup.{far_at}
use Rattle.vpc_model.specs.Step.Far.{in_by, in_by_peering}
use Rattle.vpc_model.specs.declared.places.Place.TheVariants as places
use Rattle.vpc_model.specs.declared.rows.FarKind.TheVariants as kinds
use Rattle.box_steps.proofs.RouterAnswers.{answers_by_one}
use Rattle.box_steps.proofs.Turning.{standing_answers}
use Rattle.box_steps.proofs.outside.far_in_on.Goals as goal
use Rattle.box_steps.specs.Cuts.{AtPlace, Standing}
use Rattle.box_steps.specs.Onward.{onward_of}

pub returns-in-Peering : goal.returns-in-Peering
returns-in-Peering c =
    let d = c.args.f.now in
    let k = c.args.k in
    let i = c.args.i.now in
    let row = far_at d k in
    let is = ap (λ (r : Far). r.kind) (sym c.far_at-row.ensures) ∙ c.in-Peering.is in
    answers_by_one (AtPlace d (places.FarIn k)) (λ h kind. in_by d c.args.label k row h kind) row.kind (kinds.Peering c.in-Peering.field-0 c.in-Peering.field-1)
    (λ h. in_by_peering d (peering_to d row) h (blocks_beyond d row) (vpc_beside d row)) i c.in_by_peering.result is (λ h. refl)
    (standing_answers d (places.FarIn k) (λ h. onward_of (in_by_peering d (peering_to d row) (header_at i h) (blocks_beyond d row) (vpc_beside d row))) i.part c.in_by_peering.result
    (subst (λ (r : Far). Answers (Standing d) (λ h. onward_of (in_by_peering d (peering_to d r) (header_at i h) (blocks_beyond d r) (vpc_beside d r))) i.part c.in_by_peering.result) c.far_at-row.ensures
    c.in_by_peering.ensures))
