use Rattle.std.proofs.Common.{◌≤◌, arith, length, map}
use Rattle.std.proofs.lemmas.List.{length-map}
use Rattle.security_groups.proofs.MemberSteps.{more-at, more-past}
use Rattle.security_groups.proofs.delegated.add_to.Goals as goal

pub returns-in_ok-extend_from_slice : goal.returns-in_ok-extend_from_slice
returns-in_ok-extend_from_slice c =
    more-at (λ b. b.items) c.args.blocks.now.items c.args.group c.index_mut.result.now c.extend_from_slice.new.self c.args.more.now (omega arith) c.index_mut.ensures.value c.in_ok-extend_from_slice.ensures.items

pub returns-else-group-len : goal.returns-else-group-len
returns-else-group-len c =
    let past : length (map (λ b. b.items) c.args.blocks.now.items) ≤ c.args.group = simp length-map (omega arith) in
    more-past (map (λ b. b.items) c.args.blocks.now.items) c.args.group c.args.more.now past
