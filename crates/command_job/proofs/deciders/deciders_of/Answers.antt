use Rattle.std.proofs.Common.{◌∙◌, filter, length, map, refl, subst, ◌<◌}
use Rattle.appliances.proofs.Rows.{passes_at-appliances}
use Rattle.vpc_model.specs.Appliances.{Appliances, is_at_interface}
use Rattle.command_job.proofs.deciders.deciders_of.Goals as goal

pub of-requires-clause-callable : goal.of-requires-clause-callable
of-requires-clause-callable g c = λ k h below.
    c.requires.callable k h (subst (λ (rows : Appliances). k < length rows) c.in_ok-rows.ensures.appliances below)

pub of-requires-clause-answers : goal.of-requires-clause-answers
of-requires-clause-answers g c = λ k h r below answered.
    c.requires.answers k h r (subst (λ (rows : Appliances). k < length rows) c.in_ok-rows.ensures.appliances below) answered
    ∙ passes_at-appliances c.args.n.now (map (λ a. a.kind) (filter (λ a. is_at_interface a.at) c.args.n.now.appliances)) c.in_ok-rows.rows k h.now refl c.in_ok-rows.ensures.appliances
