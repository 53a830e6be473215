-- The cuts on which the verdict of one request depends: those of the rows that its two walks ask.
use Rattle.std.specs.Prelude.{List}
use Rattle.vpc_model.specs.Types.{Description, End, Header, Hop}
use Rattle.vpc_base.specs.Cuts.{CutLists, joined_cuts}
use Rattle.vpc_model.specs.Appliances.{Appliances}
use Rattle.vpc_model.specs.Cuts.{all_cuts, cuts_at}
use Rattle.vpc_model.specs.Verdict.{reply_hops, request_walk}

-- the cuts at the places of a walk
abbrev pub cuts_of_hops : Description → List Hop → CutLists
cuts_of_hops d hops = all_cuts (λ h. cuts_at d h.place) hops

-- the cuts at the places of a request's walk and of its reply's, where that is walked
abbrev pub near_cuts : Description → Appliances → End → End → Header → CutLists
near_cuts d appliances start goal h =
    let request = request_walk d appliances start h in
    joined_cuts (cuts_of_hops d request.hops) (cuts_of_hops d (reply_hops d appliances start goal h))
