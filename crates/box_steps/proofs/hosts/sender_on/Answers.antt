use Rattle.box_steps.proofs.hosts.sender_on.Goals as goal

pub returns : goal.returns
returns c = c.found_on.ensures
