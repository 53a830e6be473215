-- What comes next for all headers of a body, by the targets of routes.
use Rattle.std.proofs.Common.{◌≡◌, ◌∙◌, Bool, List, Option, Some, ap, cond, false, refl, sym, true, ℕ}
use Rattle.box_images.specs.Answers.{Answers}
use Rattle.box_images.specs.Images.{header_at}
use Rattle.box_images.specs.declared.images.Image.{Image}
use Rattle.box_images.specs.declared.images.Part.{Part}
use Rattle.image_tests.proofs.Answering.{answers_same}
use Rattle.vpc_laws.specs.Types.{Description, FarNo, Header, IgwNo, PeerNo, Place, Stop, SubnetNo, TableNo, VpcNo}
use Rattle.vpc_model.specs.Far.{far_end_of_id}
use Rattle.vpc_model.specs.Lookup.{gateway_of, has_vpc, peering_at, vpc_at, vpc_of_subnet}
use Rattle.vpc_model.specs.Peerings.{other_side}
use Rattle.vpc_model.specs.Step.Crossing.{leaving}
use Rattle.vpc_model.specs.Step.Router.{is_attached, is_beside, to_endpoint, to_far, to_half_peering, to_internet, to_peer, to_private_gateway}
use Rattle.vpc_model.specs.Step.Words.{Next, go, stop, unless_stopped}
use Rattle.vpc_model.specs.declared.stops.Foreign.TheVariants as foreign
use Rattle.vpc_model.specs.declared.places.Place.TheVariants as places
use Rattle.vpc_model.specs.declared.stops.Stop.TheVariants as stops
use Rattle.box_steps.proofs.Going.{goes_on}
use Rattle.box_steps.specs.Cuts.{Standing}
use Rattle.box_steps.specs.Onward.{onward_of, onward_unless}
use Rattle.box_steps.specs.declared.onward.Onward.{Onward}
use Rattle.box_steps.specs.declared.onward.Onward.TheVariants as onwards

holds-then : (b : Bool) (x y : Next) → b ≡ true → x ≡ cond b x y
holds-then true x y e = refl
holds-then false x y e = absurd cc

fails-else : (b : Bool) (x y : Next) → b ≡ false → y ≡ cond b x y
fails-else true x y e = absurd cc
fails-else false x y e = refl

-- out of the subnet to a place, unless its ACL refuses that
pub answers_leaving : (d : Description) (s : SubnetNo) (p : Place) (after : Header → Next) (i : Image) (told : Part (Option Stop)) (x : Part Onward)
    → x ≡ record { body = told.body; told = onward_unless told.told (onwards.Go p) } → ((h : Header) → unless_stopped (leaving d s h) (go p h) ≡ after h)
    → Answers (Standing d) (λ h. leaving d s (header_at i h)) i.part told → Answers (Standing d) (λ h. onward_of (after (header_at i h))) i.part x
answers_leaving d s p after i told x is same k =
    answers_same (Standing d) (λ h. onward_of (unless_stopped (leaving d s (header_at i h)) (go p (header_at i h)))) (λ h. onward_of (after (header_at i h))) i.part x
    (λ h. ap onward_of (same (header_at i h)))
    (goes_on (Standing d) (λ h. leaving d s (header_at i h)) (λ h. go p (header_at i h)) i.part told (onwards.Go p) x is (λ h. refl) k)

-- ---- internet gateways

pub to_internet-attached : (d : Description) (s : SubnetNo) (v : VpcNo) (g : IgwNo) (h : Header) → v ≡ vpc_of_subnet d s → is_attached g (gateway_of d v) ≡ true
    → unless_stopped (leaving d s h) (go (places.IgwOut v) h) ≡ to_internet d s h g
to_internet-attached d s v g h own is =
    ap (λ (w : VpcNo). unless_stopped (leaving d s h) (go (places.IgwOut w) h)) own
    ∙ holds-then (is_attached g (gateway_of d (vpc_of_subnet d s))) _ (stop (stops.GatewayDetached g)) (ap (λ (w : VpcNo). is_attached g (gateway_of d w)) (sym own) ∙ is)

-- ---- peerings

pub to_peer-described : (d : Description) (s : SubnetNo) (v : VpcNo) (x : PeerNo) (pair : List ℕ × List ℕ) (o : Option (List ℕ × List ℕ)) (h : Header) → v ≡ vpc_of_subnet d s → o ≡ Some pair
    → has_vpc d (other_side (vpc_at d v).id pair) ≡ true → unless_stopped (leaving d s h) (go (places.Peer x v) h) ≡ to_peer d s h x o
to_peer-described d s v x pair o h own active is =
    ap (λ (w : VpcNo). unless_stopped (leaving d s h) (go (places.Peer x w) h)) own
    ∙ holds-then (has_vpc d (other_side (vpc_at d (vpc_of_subnet d s)).id pair)) _ (to_half_peering d s h x (far_end_of_id d (peering_at d x).id))
    (ap (λ (w : VpcNo). has_vpc d (other_side (vpc_at d w).id pair)) (sym own) ∙ is)
    ∙ sym (ap (to_peer d s h x) active)

pub to_peer-half : (d : Description) (s : SubnetNo) (v : VpcNo) (x : PeerNo) (pair : List ℕ × List ℕ) (o : Option (List ℕ × List ℕ)) (h : Header) → v ≡ vpc_of_subnet d s → o ≡ Some pair
    → has_vpc d (other_side (vpc_at d v).id pair) ≡ false → to_half_peering d s h x (far_end_of_id d (peering_at d x).id) ≡ to_peer d s h x o
to_peer-half d s v x pair o h own active none =
    fails-else (has_vpc d (other_side (vpc_at d (vpc_of_subnet d s)).id pair)) (unless_stopped (leaving d s h) (go (places.Peer x (vpc_of_subnet d s)) h)) _
    (ap (λ (w : VpcNo). has_vpc d (other_side (vpc_at d w).id pair)) (sym own) ∙ none)
    ∙ sym (ap (to_peer d s h x) active)

-- ---- networks that aren't described

pub to_private_gateway-beside : (d : Description) (s : SubnetNo) (v : VpcNo) (far : FarNo) (beside : Option VpcNo) (h : Header) → v ≡ vpc_of_subnet d s → is_beside v beside ≡ true
    → to_far d s h far ≡ to_private_gateway d s h far (is_beside (vpc_of_subnet d s) beside)
to_private_gateway-beside d s v far beside h own is = sym (ap (to_private_gateway d s h far) (ap (λ (w : VpcNo). is_beside w beside) (sym own) ∙ is))

pub to_private_gateway-detached : (d : Description) (s : SubnetNo) (v : VpcNo) (far : FarNo) (beside : Option VpcNo) (h : Header) → v ≡ vpc_of_subnet d s → is_beside v beside ≡ false
    → stop (stops.FarDetached far) ≡ to_private_gateway d s h far (is_beside (vpc_of_subnet d s) beside)
to_private_gateway-detached d s v far beside h own is = sym (ap (to_private_gateway d s h far) (ap (λ (w : VpcNo). is_beside w beside) (sym own) ∙ is))

pub to_endpoint-inside : (d : Description) (s : SubnetNo) (v : VpcNo) (t : TableNo) (k : ℕ) (far : FarNo) (beside : Option VpcNo) (h : Header) → v ≡ vpc_of_subnet d s → is_beside v beside ≡ true
    → to_far d s h far ≡ to_endpoint d s h t k far (is_beside (vpc_of_subnet d s) beside)
to_endpoint-inside d s v t k far beside h own is = sym (ap (to_endpoint d s h t k far) (ap (λ (w : VpcNo). is_beside w beside) (sym own) ∙ is))

pub to_endpoint-outside : (d : Description) (s : SubnetNo) (v : VpcNo) (t : TableNo) (k : ℕ) (far : FarNo) (beside : Option VpcNo) (h : Header) → v ≡ vpc_of_subnet d s → is_beside v beside ≡ false
    → stop (stops.Unmodelled (foreign.Target t k)) ≡ to_endpoint d s h t k far (is_beside (vpc_of_subnet d s) beside)
to_endpoint-outside d s v t k far beside h own is = sym (ap (to_endpoint d s h t k far) (ap (λ (w : VpcNo). is_beside w beside) (sym own) ∙ is))
