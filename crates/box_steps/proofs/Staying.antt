-- Where a place rewrites nothing, packets go on with the header that they came with.
use Rattle.std.proofs.Common.{◌≡◌, ◌∙◌, ◌||◌, [], List, None, Option, Some, ap, cond, is_none, refl}
use Rattle.std.proofs.lemmas.Bool.{cond_both}
use Rattle.vpc_base.specs.declared.headers.Label.TheVariants as labels
use Rattle.vpc_laws.proofs.Flow.{header_stays, taken_by}
use Rattle.vpc_laws.specs.Step.{SendsSame}
use Rattle.vpc_laws.specs.Types.{AttNo, Box5, Description, EniNo, EnterBy, FarNo, FirewallNo, Header, Label, PeerNo, Place, SubnetNo, VpcNo}
use Rattle.vpc_model.specs.Firewalls.{boxes_behind, entrance_table}
use Rattle.vpc_model.specs.Lookup.{far_at}
use Rattle.vpc_model.specs.Step.Enter.{enter_by_table}
use Rattle.vpc_model.specs.Step.Far.{in_by, out_by}
use Rattle.vpc_model.specs.Step.Inspect.{firewall_subnet}
use Rattle.vpc_model.specs.Terms.{Appliances, Moment, Next, arrive, boxes_at, by_pair, by_route, by_tgw_table, chosen_route, forwarded, gateway_of, go, has_address, interface_at, is_unroutable, leave_by, leave_subnet, owner_of, passes, peering_at, stop, table_at, table_of, table_of_attachment, taken_in, to_owner}
use Rattle.vpc_model.specs.declared.places.Came.TheVariants as from
use Rattle.vpc_model.specs.declared.places.End.TheVariants as ends
use Rattle.vpc_model.specs.declared.places.Place.TheVariants as places
use Rattle.vpc_model.specs.declared.stops.Stop.TheVariants as stops
use Rattle.box_steps.specs.Terms.{Onward, onward_of}
use Rattle.box_steps.specs.declared.onward.Onward.TheVariants as onwards

-- a packet that goes on has this header
abbrev pub Stays : Header → Next → Type 0
Stays h n = SendsSame h n

-- what comes next, with the header
abbrev pub next_onto : Header → Onward → Next
next_onto h (onwards.Go p) = go p h
next_onto h (onwards.Arrive end) = arrive end
next_onto h (onwards.Stop s) = stop s

-- what comes next without the header tells all of it
pub next_of_onward : (h : Header) (n : Next) (o : Onward) → Stays h n → onward_of n ≡ o → n ≡ next_onto h o
next_of_onward h (go p k) o stays is = ap (go p) stays ∙ ap (next_onto h) is
next_of_onward h (arrive end) o stays is = ap (next_onto h) is
next_of_onward h (stop s) o stays is = ap (next_onto h) is

-- ---- by the law that gateways alone rewrite

abbrev at : Place → Header → Moment
at p h = record { place = p; header = h; conns = []; nats = [] }

pub by_route-stays : (d : Description) (s : SubnetNo) (h : Header) → Stays h (by_route d s h (table_of d s) (chosen_route d (table_at d (table_of d s)).routes h.dst))
by_route-stays d s h = header_stays d [] labels.Opening (at (places.Router s (from.Nat (record { 0 = 0 }))) h) refl

pub enter_by_table-stays : (d : Description) (v : VpcNo) (by : EnterBy) (h : Header) → Stays h (enter_by_table d v h (entrance_table d v by))
enter_by_table-stays d v by h = header_stays d [] labels.Opening (at (places.Enter v by) h) refl

pub by_pair-stays : (d : Description) (x : PeerNo) (v : VpcNo) (h : Header) → Stays h (by_pair d x v h (peering_at d x).pair)
by_pair-stays d x v h = header_stays d [] labels.Opening (at (places.Peer x v) h) refl

pub by_tgw_table-stays : (d : Description) (a : AttNo) (entered : SubnetNo) (h : Header) → Stays h (by_tgw_table d a entered h (table_of_attachment d a))
by_tgw_table-stays d a entered h = header_stays d [] labels.Opening (at (places.Tgw a entered) h) refl

pub leave_by-stays : (d : Description) (a : AttNo) (entered : SubnetNo) (h : Header) → Stays h (leave_by a h (leave_subnet d a entered))
leave_by-stays d a entered h = header_stays d [] labels.Opening (at (places.TgwLeave a entered) h) refl

pub out_by-stays : (d : Description) (k : FarNo) (h : Header) → Stays h (out_by d k (far_at d k) h (far_at d k).kind)
out_by-stays d k h = header_stays d [] labels.Opening (at (places.FarOut k) h) refl

pub in_by-stays : (d : Description) (label : Label) (k : FarNo) (h : Header) → Stays h (in_by d label k (far_at d k) h (far_at d k).kind)
in_by-stays d label k h = header_stays d [] label (at (places.FarIn k) h) refl

pub inspect-stays : (d : Description) (e : FirewallNo) (h : Header)
    → Stays h (cond (passes (boxes_behind d e) h) (go (places.Router (firewall_subnet d e) (from.Firewall e)) h) (stop (stops.InspectDrop e)))
inspect-stays d e h = header_stays d [] labels.Opening (at (places.Inspect e) h) refl

-- ---- what is a step in part

pub to_owner-stays : (d : Description) (h : Header) (v : Option VpcNo) → Stays h (to_owner d h v)
to_owner-stays d h None = tt
to_owner-stays d h (Some v) = cond_both (is_none (gateway_of d v)) (stop (stops.NoGateway v)) (go (places.IgwIn v) h) (λ n. Stays h n) (λ _. tt) (λ _. refl)

pub internet-stays : (d : Description) (h : Header) → Stays h (cond (is_unroutable h.src || is_unroutable h.dst) (stop stops.PrivateAddress) (to_owner d h (owner_of d h.dst)))
internet-stays d h =
    cond_both (is_unroutable h.src || is_unroutable h.dst) (stop stops.PrivateAddress) (to_owner d h (owner_of d h.dst)) (λ n. Stays h n)
    (λ _. tt) (λ _. to_owner-stays d h (owner_of d h.dst))

forwarded-stays : (i : EniNo) (h : Header) (boxes : List Box5) → Stays h (forwarded i h boxes)
forwarded-stays i h boxes = cond_both (passes boxes h) (go (places.OutOf i) h) (stop (stops.ApplianceDrop i)) (λ n. Stays h n) (λ _. refl) (λ _. tt)

taken_by-stays : (d : Description) (i : EniNo) (h : Header) (boxes : Option (List Box5)) → Stays h (taken_by d i h boxes)
taken_by-stays d i h None = tt
taken_by-stays d i h (Some own) =
    cond_both (has_address (interface_at d i) h.dst) (arrive (ends.Interface i)) (forwarded i h own) (λ n. Stays h n) (λ _. tt) (λ _. forwarded-stays i h own)

pub taken_in-stays : (d : Description) (appliances : Appliances) (i : EniNo) (h : Header) → Stays h (taken_in d appliances i h)
taken_in-stays d appliances i h = taken_by-stays d i h (boxes_at appliances i)
