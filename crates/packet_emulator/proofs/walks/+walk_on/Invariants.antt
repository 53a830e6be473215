use Rattle.packet_emulator.proofs.walks.+walk_on.Given as goal

abbrev pub decreases-walk_on : goal.decreases-walk_on
decreases-walk_on g l = l.left
