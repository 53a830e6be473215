use Rattle.std.proofs.Common.{◌∙◌, ap, subst}
use Rattle.box_images.specs.Answers.{Answers}
use Rattle.box_images.specs.Images.{header_at}
use Rattle.fabric.proofs.RowFacts.{acl-lies}
use Rattle.vpc_laws.specs.Types.{AclNo, Description}
use Rattle.vpc_model.specs.Acls.{acl_verdict}
use Rattle.vpc_model.specs.Lookup.{acl_at, acl_of}
use Rattle.box_steps.proofs.AclAnswers.{answers_of_acl}
use Rattle.box_steps.proofs.crossing.verdict_on.Goals as goal
use Rattle.box_steps.specs.Cuts.{Standing}

pub acl-requires : goal.acl-requires
acl-requires c = acl-lies c.args.f.now c.network-n.result.now c.args.s c.acl_of-a.result c.network-n.ensures c.description.ensures.accepted c.requires.subnet c.acl_of-a.ensures

pub returns : goal.returns
returns c =
    let d = c.args.f.now in
    let i = c.args.i.now in
    let a = c.acl_of-a.result in
    let lies = acl-lies d c.network-n.result.now c.args.s a c.network-n.ensures c.description.ensures.accepted c.requires.subnet c.acl_of-a.ensures in
    subst (λ (b : AclNo). Answers (Standing d) (λ h. acl_verdict (acl_at d b).rows c.args.dir (header_at i h)) i.part c.decide_on.result)
    (c.acl_of-a.ensures ∙ ap (λ (n : Description). acl_of n c.args.s) c.network-n.ensures)
    (answers_of_acl d a c.acl.result.now c.args.dir i c.decide_on.result lies c.acl.ensures c.decide_on.ensures)
