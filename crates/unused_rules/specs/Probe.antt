-- What a search for a rule's need asks.
use Rattle.std.specs.Prelude.{Option}
use Rattle.box_walk.specs.Asking.{Asking, word_of}
use Rattle.cut_laws.proofs.Among.{joined_among}
use Rattle.cut_laws.proofs.Places.{near_cuts_are_among_all}
use Rattle.vpc_base.specs.Cuts.{AreAmong, CutLists, joined_cuts}
use Rattle.vpc_laws.specs.Types.{Header}
use Rattle.vpc_model.specs.Appliances.{appliances_of}
use Rattle.vpc_model.specs.Cuts.{cuts_of}
use Rattle.vpc_model.specs.Near.{near_cuts}
use Rattle.unused_rules.specs.Same.{unless_apart}

-- a word where the same becomes of a request in both networks; none where it doesn't
abbrev pub agreement_of : Asking → Asking → Header → Option (Unit {0})
agreement_of a b h = unless_apart (word_of a h) (word_of b h)

-- the cuts at the places of a request, and of its reply
abbrev pub near_cuts_of : Asking → Header → CutLists
near_cuts_of a h = near_cuts a.network (appliances_of a.network) a.homes.start a.goal h

-- those in both
abbrev pub near_cuts_of_both : Asking → Asking → Header → CutLists
near_cuts_of_both a b h = joined_cuts (near_cuts_of a h) (near_cuts_of b h)

-- all cuts of both
abbrev pub cuts_of_both : Asking → Asking → CutLists
cuts_of_both a b = joined_cuts (cuts_of a.network) (cuts_of b.network)

pub near_among_both : (a b : Asking) (h : Header) → AreAmong (near_cuts_of_both a b h) (cuts_of_both a b)
near_among_both a b h =
    joined_among (near_cuts_of a h) (near_cuts_of b h) (cuts_of a.network) (cuts_of b.network)
    (near_cuts_are_among_all a.network (appliances_of a.network) a.homes.start a.goal h)
    (near_cuts_are_among_all b.network (appliances_of b.network) b.homes.start b.goal h)
