use Rattle.std.proofs.Common.{◌∙◌, ap, sym}
use Rattle.box_images.specs.Images.{header_at}
use Rattle.vpc_base.specs.declared.headers.Dir.TheVariants as dirs
use Rattle.vpc_model.specs.Acls.{acl_verdict}
use Rattle.vpc_model.specs.Lookup.{acl_at, acl_of}
use Rattle.vpc_model.specs.Step.Crossing.{leaving, refused_out}
use Rattle.box_steps.proofs.Telling.{answers_told}
use Rattle.box_steps.proofs.crossing.leaving_on.Goals as goal
use Rattle.box_steps.specs.Cuts.{Standing}

pub returns : goal.returns
returns c =
    let d = c.args.f.now in
    let s = c.args.s in
    let i = c.args.i.now in
    answers_told (Standing d) (λ h. acl_verdict (acl_at d (acl_of d s)).rows dirs.Outward (header_at i h)) (λ h. leaving d s (header_at i h)) i.part
    c.verdict_on-verdict.result c.refused_out.result (λ h e. ap (refused_out d s) e ∙ sym c.refused_out.ensures) c.verdict_on-verdict.ensures
