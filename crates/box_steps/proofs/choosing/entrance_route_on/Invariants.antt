use Rattle.box_steps.proofs.choosing.entrance_route_on.Given as goal

abbrev pub ghosts-search_on : goal.ghosts-search_on
ghosts-search_on a = record { name = a.blank.name; parts = a.blank.parts }
