use Rattle.std.proofs.Common.{◌≡◌, ◌∙◌, ap}
use Rattle.vpc_laws.specs.Types.{Description}
use Rattle.vpc_model.specs.Accepted.{refusals_of}
use Rattle.unused_rules.proofs.Removing.{without_is_accepted}
use Rattle.unused_rules.specs.Without.{without}
use Rattle.unused_rules.proofs.removal.network_without.Goals as goal

pub accepted-requires : goal.accepted-requires
accepted-requires c =
    let same : c.in_ok-without.field-0 ≡ without c.args.n.now c.args.rule.now =
    c.in_ok-without.ensures ∙ ap (λ (d : Description). without d c.args.rule.now) c.description.ensures.value in
    ap refusals_of same ∙ without_is_accepted c.args.n.now c.args.rule.now c.description.ensures.accepted
