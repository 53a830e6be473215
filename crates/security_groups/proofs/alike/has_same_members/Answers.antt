use Rattle.security_groups.proofs.AlikeLemmas.{same_members}
use Rattle.security_groups.proofs.alike.has_same_members.Goals as goal

pub returns-then-has_same_keys : goal.returns-then-has_same_keys
returns-then-has_same_keys c blocks =
    same_members c.args.one.now c.args.other.now c.args.group c.args.twin (c.has_same_keys.ensures c.if-has_same_keys.true) (c.has_same_blocks.ensures blocks)
