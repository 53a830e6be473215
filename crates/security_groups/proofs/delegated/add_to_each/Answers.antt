use Rattle.std.proofs.Common.{arith, map, refl}
use Rattle.security_groups.proofs.MemberSteps.{more-next, none-more}
use Rattle.security_groups.proofs.delegated.add_to_each.Goals as goal

pub loop-group-init : goal.loop-group-init
loop-group-init c = none-more (map (λ b. b.items) c.args.blocks.now.items) _ c.args.more.now refl

pub loop-group-preserved : goal.loop-group-preserved
loop-group-preserved c =
    more-next (map (λ b. b.items) c.args.blocks.now.items) (map (λ b. b.items) c.loop-group.blocks.items) (map (λ b. b.items) c.add_to.new.blocks.items) c.args.groups.now c.loop-group.group-index c.args.more.now
    (omega arith) c.loop-group.invariant c.in_ok-add_to.ensures
