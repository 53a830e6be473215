use Rattle.std.proofs.Common.{◌≡◌, ◌∙◌, ap, sym}
use Rattle.vpc_laws.specs.Types.{Description}
use Rattle.vpc_model.specs.Appliances.{appliances_of}
use Rattle.vpc_model.specs.Sound.{is_end}
use Rattle.unused_rules.specs.Without.{without}
use Rattle.unused_rules.proofs.Concerning.{valid_part}
use Rattle.unused_rules.proofs.Needing.{appliances-same, is_end-same, need_of}
use Rattle.unused_rules.proofs.judging.needed_in.Goals as goal

pub of-after-requires-clause-appliances : goal.of-after-requires-clause-appliances
of-after-requires-clause-appliances g c =
    let less : c.in_ok-fabric.fabric ≡ without c.args.base.now.fabric.now c.args.rule.now = c.in_ok-fabric.ensures ∙ ap (λ (d : Description). without d c.args.rule.now) c.network.ensures in
    c.args.base.now.described ∙ sym (ap appliances_of less ∙ appliances-same c.args.base.now.fabric.now c.args.rule.now)

pub of-after-requires-clause-start : goal.of-after-requires-clause-start
of-after-requires-clause-start g c =
    let less : c.in_ok-fabric.fabric ≡ without c.args.base.now.fabric.now c.args.rule.now = c.in_ok-fabric.ensures ∙ ap (λ (d : Description). without d c.args.rule.now) c.network.ensures in
    ap (λ (d : Description). is_end d c.args.base.now.query.now.start) less ∙ (is_end-same c.args.base.now.fabric.now c.args.rule.now c.args.base.now.query.now.start ∙ c.args.base.now.known.start)

pub of-after-requires-clause-goal : goal.of-after-requires-clause-goal
of-after-requires-clause-goal g c =
    let less : c.in_ok-fabric.fabric ≡ without c.args.base.now.fabric.now c.args.rule.now = c.in_ok-fabric.ensures ∙ ap (λ (d : Description). without d c.args.rule.now) c.network.ensures in
    ap (λ (d : Description). is_end d c.args.base.now.query.now.goal) less ∙ (is_end-same c.args.base.now.fabric.now c.args.rule.now c.args.base.now.query.now.goal ∙ c.args.base.now.known.goal)

pub first_of_parts-requires-clause-asked : goal.first_of_parts-requires-clause-asked
first_of_parts-requires-clause-asked g c = valid_part c.args.parts.now.asked c.args.base.now.query.now.sides c.requires.asked

pub first_of_parts-requires-clause-answered : goal.first_of_parts-requires-clause-answered
first_of_parts-requires-clause-answered g c = valid_part c.args.parts.now.answered c.args.base.now.query.now.sides c.requires.answered

pub returns : goal.returns
returns g c =
    let less : c.in_ok-fabric.fabric ≡ without c.args.base.now.fabric.now c.args.rule.now = c.in_ok-fabric.ensures ∙ ap (λ (d : Description). without d c.args.rule.now) c.network.ensures in
    need_of c.args.base.now.fabric.now c.in_ok-fabric.fabric c.args.rule.now c.args.base.now.query.now c.args.parts.now _ _ c.first_of_parts.result less c.args.base.now.same_way
    (c.look_ahead.ensures ∙ c.of-after.ensures) c.requires c.first_of_parts.ensures
