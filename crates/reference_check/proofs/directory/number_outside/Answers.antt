use Rattle.reference_check.proofs.directory.number_outside.Goals as goal

pub returns : goal.returns
returns c = record { fars = λ id. rw c.as_slice.ensures at (c.in_ok-ids.ensures id); firewalls = λ id. rw c.as_slice-2.ensures at (c.in_ok-ids-2.ensures id) }
