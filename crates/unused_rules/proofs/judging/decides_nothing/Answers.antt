use Rattle.std.proofs.Common.{◌≡◌, ◌∙◌, ap, sym}
use Rattle.vpc_laws.specs.Types.{Description}
use Rattle.vpc_model.specs.Appliances.{appliances_of}
use Rattle.vpc_model.specs.Sound.{is_end}
use Rattle.unused_rules.specs.Chunks.{without_chunk}
use Rattle.unused_rules.proofs.Needing.{appliances-kept, is_end-kept, none_needs}
use Rattle.unused_rules.proofs.judging.decides_nothing.Goals as goal

pub of-after-requires-clause-appliances : goal.of-after-requires-clause-appliances
of-after-requires-clause-appliances g c =
    let less : c.in_ok-fabric.fabric ≡ without_chunk c.args.base.now.fabric.now c.args.c.now =
    c.in_ok-fabric.ensures ∙ ap (λ (d : Description). without_chunk d c.args.c.now) c.network.ensures in
    c.args.base.now.described ∙ sym (ap appliances_of less ∙ appliances-kept c.args.base.now.fabric.now c.args.c.now)

pub of-after-requires-clause-start : goal.of-after-requires-clause-start
of-after-requires-clause-start g c =
    let less : c.in_ok-fabric.fabric ≡ without_chunk c.args.base.now.fabric.now c.args.c.now =
    c.in_ok-fabric.ensures ∙ ap (λ (d : Description). without_chunk d c.args.c.now) c.network.ensures in
    ap (λ (d : Description). is_end d c.args.base.now.query.now.start) less
    ∙ (is_end-kept c.args.base.now.fabric.now c.args.c.now c.args.base.now.query.now.start ∙ c.args.base.now.known.start)

pub of-after-requires-clause-goal : goal.of-after-requires-clause-goal
of-after-requires-clause-goal g c =
    let less : c.in_ok-fabric.fabric ≡ without_chunk c.args.base.now.fabric.now c.args.c.now =
    c.in_ok-fabric.ensures ∙ ap (λ (d : Description). without_chunk d c.args.c.now) c.network.ensures in
    ap (λ (d : Description). is_end d c.args.base.now.query.now.goal) less
    ∙ (is_end-kept c.args.base.now.fabric.now c.args.c.now c.args.base.now.query.now.goal ∙ c.args.base.now.known.goal)

pub returns : goal.returns
returns g c =
    let less : c.in_ok-fabric.fabric ≡ without_chunk c.args.base.now.fabric.now c.args.c.now =
    c.in_ok-fabric.ensures ∙ ap (λ (d : Description). without_chunk d c.args.c.now) c.network.ensures in
    none_needs c.args.base.now.fabric.now c.in_ok-fabric.fabric c.args.c.now c.args.base.now.query.now _ _ c.are_alike.result
    less c.args.base.now.same_way (c.look_ahead.ensures ∙ c.of-after.ensures) c.are_alike.ensures
