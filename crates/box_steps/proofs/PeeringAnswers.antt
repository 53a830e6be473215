-- What peerings answer for all headers of a body.
use Rattle.std.proofs.Common.{Bool, List, None, Option, Some, ap, cond, false, not, refl, sym, true, ℕ, ◌∙◌, ◌≡◌}
use Rattle.vpc_base.specs.Cuts.{CutLists}
use Rattle.box_images.specs.Terms.{Answers, header_at}
use Rattle.image_tests.specs.Types.{Image, Part}
use Rattle.edge_gateways.proofs.Standing.{sides_are_divided}
use Rattle.edge_gateways.specs.Terms.{AreEdgesOf, CanCarry, DivideSides, EdgeLists, carry, carry_if}
use Rattle.edge_gateways.specs.declared.peerings.Carry.{Carry}
use Rattle.image_tests.proofs.Answering.{answers_more}
use Rattle.vpc_laws.specs.Types.{Description, Header, PeerNo, VpcNo}
use Rattle.vpc_model.specs.Terms.{by_pair, go, has_block, other_side, peering_at, stop, vpc_at, vpc_no}
use Rattle.vpc_model.specs.declared.places.EnterBy.TheVariants as through
use Rattle.vpc_model.specs.declared.places.Place.TheVariants as places
use Rattle.vpc_model.specs.declared.stops.Stop.TheVariants as stops
use Rattle.fabric.proofs.Peered.{far-described}
use Rattle.fabric.specs.Sites.{far_vpc}
use Rattle.box_steps.proofs.Telling.{answers_told}
use Rattle.box_steps.specs.Terms.{Onward, Standing, after_carry, onward_of}

-- the VPC at the other side
abbrev pub far : Description → VpcNo → List ℕ × List ℕ → VpcNo
far d v pair = vpc_no d (other_side (vpc_at d v).id pair)

by-carry : (b c : Bool) (x : PeerNo) (w : VpcNo) (h : Header)
    → onward_of (cond (not b) (stop (stops.PeerSource x)) (cond (not c) (stop (stops.PeerDestination x)) (go (places.Enter w (through.Peering x)) h))) ≡ after_carry x w (carry_if b c)
by-carry true true x w h = refl
by-carry true false x w h = refl
by-carry false c x w h = refl

sides-divide : (d : Description) (m : EdgeLists) (x : PeerNo) (v : VpcNo) → AreEdgesOf d m → CanCarry d x v → (cuts : CutLists) → Standing d cuts → DivideSides m.blocks m.sides x v cuts
sides-divide d m x v are can cuts standing =
    let sides = sides_are_divided d m x v are can in
    record { sender = λ a fits turns. standing.addr _ (sides.sender a fits turns); receiver = λ a fits turns. standing.addr _ (sides.receiver a fits turns) }

carry-told : (d : Description) (m : EdgeLists) (x : PeerNo) (v : VpcNo) (can : CanCarry d x v) (k : Header) → AreEdgesOf d m → carry_if (has_block d v k.src) (has_block d (far d v can.pair) k.dst) ≡ carry m x v k
carry-told d m x v can k are = sym (are.carries x v k can)

pub answers_of_peering : (d : Description) (m : EdgeLists) (x : PeerNo) (v other : VpcNo) (can : CanCarry d x v) (i : Image) (y : Part Carry) (next : Onward) → AreEdgesOf d m
    → Some other ≡ far_vpc d v (peering_at d x).pair → next ≡ after_carry x other y.told
    → Answers (DivideSides m.blocks m.sides x v) (λ h. carry m x v (header_at i h)) i.part y
    → Answers (Standing d) (λ h. onward_of (by_pair d x v (header_at i h) (peering_at d x).pair)) i.part (record { body = y.body; told = next })
answers_of_peering d m x v other can i y next are is leads k =
    let same : Some other ≡ Some (far d v can.pair) = is ∙ far-described d x v can in
    let there : other ≡ far d v can.pair = cc in
    answers_told (Standing d) (λ h. carry m x v (header_at i h)) (λ h. onward_of (by_pair d x v (header_at i h) (peering_at d x).pair)) i.part y next
    (λ h e. ap (λ (o : Option (List ℕ × List ℕ)). onward_of (by_pair d x v (header_at i h) o)) can.active
    ∙ by-carry (has_block d v (header_at i h).src) (has_block d (far d v can.pair) (header_at i h).dst) x (far d v can.pair) (header_at i h)
    ∙ ap (after_carry x (far d v can.pair)) (carry-told d m x v can (header_at i h) are ∙ e)
    ∙ sym (leads ∙ ap (λ (w : VpcNo). after_carry x w y.told) there))
    (answers_more (DivideSides m.blocks m.sides x v) (Standing d) (λ h. carry m x v (header_at i h)) i.part y (sides-divide d m x v are can) k)

-- the other VPC is there
pub peer-told : (d : Description) (x : PeerNo) (v : VpcNo) → CanCarry d x v → None ≡ far_vpc d v (peering_at d x).pair → ⊥
peer-told d x v can is = let none : None ≡ Some (far d v can.pair) = is ∙ far-described d x v can in cc
