use Rattle.lookup_tests.proofs.images.pieces.on.Given as goal

abbrev pub ghosts-told_on : goal.ghosts-told_on
ghosts-told_on a = record { name = a.blank.name; parts = a.blank.parts }
