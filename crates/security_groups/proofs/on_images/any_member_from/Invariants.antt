use Rattle.std.proofs.Common.{false, take}
use Rattle.std.specs.List.{list_any}
use Rattle.security_groups.specs.Rules.{has_member}
use Rattle.security_groups.specs.Dividing.{IsStretchOf}
use Rattle.security_groups.proofs.AskingOn.{DivideMembers}
use Rattle.security_groups.proofs.on_images.any_member_from.Given as goal

abbrev pub invariant-loop-group : goal.invariant-loop-group
invariant-loop-group l = IsStretchOf (DivideMembers l.members l.named) (λ b. list_any (has_member l.members b) (take l.group-index l.named)) l.address (l.last, false)
