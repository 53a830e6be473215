-- Where the subnets of borders lie, and what the look-up of a transit gateway says of them.
use Rattle.std.proofs.Common.{◌≡◌, ◌∙◌, Err, None, Ok, Option, Result, Some, List, ap, refl, subst, sym, true, ℕ}
use Rattle.transit_gateway.specs.Index.{enter_by, enter_zone, entered}
use Rattle.transit_gateway.specs.declared.index.EnterStop.{EnterStop}
use Rattle.vpc_laws.specs.Types.{AttNo, Description, SubnetNo}
use Rattle.vpc_model.specs.Sound.{is_subnet}
use Rattle.vpc_model.specs.Transit.{attachment_for, zone_subnet}
use Rattle.walk_reasons.specs.Borders as borders
use Rattle.walk_reasons.specs.Borders.{AreSubnets}
use Rattle.walk_reasons.specs.declared.borders.Borders.{Borders}

-- ---- subnets that are described

pub none_lie : (d : Description) (b : Borders) → b ≡ borders.no_borders → AreSubnets d b
none_lie d b is = subst (AreSubnets d) (sym is) (record { left = tt; entered = tt })

pub out_of_lie : (d : Description) (s : SubnetNo) (b : Borders) → b ≡ borders.out_of s → is_subnet d s ≡ true → AreSubnets d b
out_of_lie d s b is lies = subst (AreSubnets d) (sym is) (record { left = lies; entered = tt })

pub into_lie : (d : Description) (t : SubnetNo) (b : Borders) → b ≡ borders.into t → is_subnet d t ≡ true → AreSubnets d b
into_lie d t b is lies = subst (AreSubnets d) (sym is) (record { left = tt; entered = lies })

pub from_into_lie : (d : Description) (s t : SubnetNo) (b : Borders) → b ≡ borders.from_into s t → is_subnet d s ≡ true → is_subnet d t ≡ true → AreSubnets d b
from_into_lie d s t b is one other = subst (AreSubnets d) (sym is) (record { left = one; entered = other })

-- ---- into a transit gateway

-- from the subnet into the one by which the packet enters, if there is one
abbrev into_entered : SubnetNo → Result (AttNo × SubnetNo) EnterStop → Borders
into_entered s (Ok x) = borders.from_into s x.1
into_entered s (Err e) = borders.no_borders

into_zone : (s : SubnetNo) (a : AttNo) (t : Option SubnetNo) → into_entered s (enter_zone a t) ≡ borders.to_zone s t
into_zone s a None = refl
into_zone s a (Some t) = refl

into_attachment : (d : Description) (s : SubnetNo) (a : Option AttNo) → into_entered s (enter_by a (λ x. zone_subnet d x s)) ≡ borders.to_transit d s a
into_attachment d s None = refl
into_attachment d s (Some a) = into_zone s a (zone_subnet d a s)

pub to_transit-entered : (d : Description) (gateway : List ℕ) (s : SubnetNo) (x : AttNo × SubnetNo) → entered d gateway s ≡ Ok x
    → borders.from_into s x.1 ≡ borders.to_transit d s (attachment_for d gateway s)
to_transit-entered d gateway s x is = ap (into_entered s) (sym is) ∙ into_attachment d s (attachment_for d gateway s)

pub to_transit-none : (d : Description) (gateway : List ℕ) (s : SubnetNo) (e : EnterStop) → entered d gateway s ≡ Err e
    → borders.no_borders ≡ borders.to_transit d s (attachment_for d gateway s)
to_transit-none d gateway s e is = ap (into_entered s) (sym is) ∙ into_attachment d s (attachment_for d gateway s)
