use Rattle.box_steps.proofs.choosing.tgw_route_from.Given as goal

abbrev pub ghosts-tgw_search_on : goal.ghosts-tgw_search_on
ghosts-tgw_search_on a = record { name = a.blank.name; parts = a.blank.parts }
