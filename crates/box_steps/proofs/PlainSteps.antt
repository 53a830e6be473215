-- Places that change no header and remember nothing: what was told of all headers is one step.
use Rattle.std.proofs.Common.{◌≡◌, ◌∙◌, ◌||◌, ap, cond, inl, inr, refl, subst, sym, true}
use Rattle.vpc_base.specs.declared.headers.Label.TheVariants as labels
use Rattle.box_images.specs.Terms.{Answers, IsImageOfWalk, header_at}
use Rattle.box_images.specs.declared.images.Part.{Part}
use Rattle.image_tests.proofs.Answering.{answers_all}
use Rattle.vpc_laws.specs.Types.{AttNo, Came, Description, EnterBy, FarNo, FirewallNo, Header, Label, PeerNo, Place, SubnetNo, VpcNo}
use Rattle.vpc_model.specs.Firewalls.{boxes_behind, entrance_table}
use Rattle.vpc_model.specs.Lookup.{far_at}
use Rattle.vpc_model.specs.Step.Enter.{enter_by_table}
use Rattle.vpc_model.specs.Step.Far.{in_by, out_by}
use Rattle.vpc_model.specs.Step.Inspect.{firewall_subnet}
use Rattle.vpc_model.specs.Terms.{Appliances, IsAccepted, Moment, Next, addresses_in, by_pair, by_route, by_tgw_table, chosen_route, go, is_sound, is_unroutable, leave_by, leave_subnet, owner_of, passes, peering_at, plain, step_at, stop, table_at, table_of, table_of_attachment, to_owner}
use Rattle.vpc_model.specs.declared.places.Came.TheVariants as from
use Rattle.vpc_model.specs.declared.places.Place.TheVariants as places
use Rattle.vpc_model.specs.declared.stops.Stop.TheVariants as stops
use Rattle.vpc_model.proofs.Nexts.{plain-either}
use Rattle.box_steps.proofs.Staying.{Stays, by_pair-stays, by_route-stays, by_tgw_table-stays, enter_by_table-stays, in_by-stays, inspect-stays, internet-stays, leave_by-stays, out_by-stays}
use Rattle.box_steps.proofs.Turning.{plain_step, standing_answers}
use Rattle.box_steps.specs.Terms.{AtPlace, BoxMoment, IsBoxMoment, IsStepOn, IsTurned, Onward, Standing, moment_at, onward_of}

-- ---- moments

-- the header is one that a walk makes
pub walk_of_moment : (d : Description) (label : Label) (m : BoxMoment) → IsBoxMoment d label m → IsImageOfWalk m.header
walk_of_moment d labels.Opening m k = (addresses_in d, inl k.kind)
walk_of_moment d labels.Answer m k = (addresses_in d, inr k.kind)

-- the place where the moment is
pub sound_at : (d : Description) (label : Label) (m : BoxMoment) (p : Place) → IsBoxMoment d label m → m.place ≡ p → is_sound d p ≡ true
sound_at d label m p k is = ap (is_sound d) (sym is) ∙ k.sound

-- ---- at one place

-- what comes next follows from the header alone
at_plain : (d : Description) (appliances : Appliances) (label : Label) (p : Place) (next : Header → Next) (x : Part Onward) (old new : BoxMoment) (onward : Onward)
    → IsAccepted d → IsBoxMoment d label old → old.place ≡ p → IsTurned x old new onward → ((h : Header) → Stays h (next h))
    → ((m : Moment) → step_at d appliances label p m ≡ plain m (next m.header))
    → Answers (AtPlace d p) (λ h. onward_of (next (header_at old.header h))) old.header.part x → IsStepOn d appliances label old new onward
at_plain d appliances label p next x old new onward accepted moment is t stays same k =
    plain_step d appliances label x next old new onward accepted moment t
    (subst (λ (q : Place). Answers (AtPlace d q) (λ h. onward_of (next (header_at old.header h))) old.header.part x) (sym is) k) stays
    (λ h. ap (λ (q : Place). step_at d appliances label q (moment_at h old)) is ∙ same (moment_at h old))

pub router_step : (d : Description) (appliances : Appliances) (label : Label) (s : SubnetNo) (came : Came) (x : Part Onward) (old new : BoxMoment) (onward : Onward)
    → IsAccepted d → IsBoxMoment d label old → old.place ≡ places.Router s came → IsTurned x old new onward
    → Answers (AtPlace d (places.Router s came)) (λ h. let k = header_at old.header h in onward_of (by_route d s k (table_of d s) (chosen_route d (table_at d (table_of d s)).routes k.dst))) old.header.part x
    → IsStepOn d appliances label old new onward
router_step d appliances label s came x old new onward accepted moment is t k =
    at_plain d appliances label (places.Router s came) (λ h. by_route d s h (table_of d s) (chosen_route d (table_at d (table_of d s)).routes h.dst)) x old new onward
    accepted moment is t (by_route-stays d s) (λ m. refl) k

pub enter_step : (d : Description) (appliances : Appliances) (label : Label) (v : VpcNo) (by : EnterBy) (x : Part Onward) (old new : BoxMoment) (onward : Onward)
    → IsAccepted d → IsBoxMoment d label old → old.place ≡ places.Enter v by → IsTurned x old new onward
    → Answers (AtPlace d (places.Enter v by)) (λ h. onward_of (enter_by_table d v (header_at old.header h) (entrance_table d v by))) old.header.part x → IsStepOn d appliances label old new onward
enter_step d appliances label v by x old new onward accepted moment is t k =
    at_plain d appliances label (places.Enter v by) (λ h. enter_by_table d v h (entrance_table d v by)) x old new onward accepted moment is t (enter_by_table-stays d v by) (λ m. refl) k

pub internet_step : (d : Description) (appliances : Appliances) (label : Label) (x : Part Onward) (old new : BoxMoment) (onward : Onward)
    → IsAccepted d → IsBoxMoment d label old → old.place ≡ places.Internet → IsTurned x old new onward
    → Answers (Standing d) (λ h. let k = header_at old.header h in onward_of (cond (is_unroutable k.src || is_unroutable k.dst) (stop stops.PrivateAddress) (to_owner d k (owner_of d k.dst)))) old.header.part x
    → IsStepOn d appliances label old new onward
internet_step d appliances label x old new onward accepted moment is t k =
    at_plain d appliances label places.Internet (λ h. cond (is_unroutable h.src || is_unroutable h.dst) (stop stops.PrivateAddress) (to_owner d h (owner_of d h.dst))) x old new onward
    accepted moment is t (internet-stays d)
    (λ m. plain-either m (is_unroutable m.header.src || is_unroutable m.header.dst) (stop stops.PrivateAddress) (to_owner d m.header (owner_of d m.header.dst)))
    (standing_answers d places.Internet
    (λ h. let g = header_at old.header h in onward_of (cond (is_unroutable g.src || is_unroutable g.dst) (stop stops.PrivateAddress) (to_owner d g (owner_of d g.dst)))) old.header.part x k)

pub peer_step : (d : Description) (appliances : Appliances) (label : Label) (c : PeerNo) (v : VpcNo) (x : Part Onward) (old new : BoxMoment) (onward : Onward)
    → IsAccepted d → IsBoxMoment d label old → old.place ≡ places.Peer c v → IsTurned x old new onward
    → Answers (Standing d) (λ h. onward_of (by_pair d c v (header_at old.header h) (peering_at d c).pair)) old.header.part x → IsStepOn d appliances label old new onward
peer_step d appliances label c v x old new onward accepted moment is t k =
    at_plain d appliances label (places.Peer c v) (λ h. by_pair d c v h (peering_at d c).pair) x old new onward accepted moment is t (by_pair-stays d c v) (λ m. refl)
    (standing_answers d (places.Peer c v) (λ h. onward_of (by_pair d c v (header_at old.header h) (peering_at d c).pair)) old.header.part x k)

pub tgw_step : (d : Description) (appliances : Appliances) (label : Label) (a : AttNo) (entered : SubnetNo) (x : Part Onward) (old new : BoxMoment) (onward : Onward)
    → IsAccepted d → IsBoxMoment d label old → old.place ≡ places.Tgw a entered → IsTurned x old new onward
    → Answers (AtPlace d (places.Tgw a entered)) (λ h. onward_of (by_tgw_table d a entered (header_at old.header h) (table_of_attachment d a))) old.header.part x
    → IsStepOn d appliances label old new onward
tgw_step d appliances label a entered x old new onward accepted moment is t k =
    at_plain d appliances label (places.Tgw a entered) (λ h. by_tgw_table d a entered h (table_of_attachment d a)) x old new onward accepted moment is t
    (by_tgw_table-stays d a entered) (λ m. refl) k

pub tgw_leave_step : (d : Description) (appliances : Appliances) (label : Label) (a : AttNo) (entered : SubnetNo) (told : Onward) (x : Part Onward) (old new : BoxMoment) (onward : Onward)
    → IsAccepted d → IsBoxMoment d label old → old.place ≡ places.TgwLeave a entered → x ≡ record { body = old.header.part; told = told } → IsTurned x old new onward
    → ((h : Header) → onward_of (leave_by a h (leave_subnet d a entered)) ≡ told) → IsStepOn d appliances label old new onward
tgw_leave_step d appliances label a entered told x old new onward accepted moment is x_is t all =
    at_plain d appliances label (places.TgwLeave a entered) (λ h. leave_by a h (leave_subnet d a entered)) x old new onward accepted moment is t
    (leave_by-stays d a entered) (λ m. refl)
    (subst (Answers (AtPlace d (places.TgwLeave a entered)) (λ h. onward_of (leave_by a (header_at old.header h) (leave_subnet d a entered))) old.header.part) (sym x_is)
    (answers_all (AtPlace d (places.TgwLeave a entered)) (λ h. onward_of (leave_by a (header_at old.header h) (leave_subnet d a entered))) old.header.part told moment.valid.part
    (λ h. sym (all (header_at old.header h)))))

pub far_out_step : (d : Description) (appliances : Appliances) (label : Label) (k : FarNo) (x : Part Onward) (old new : BoxMoment) (onward : Onward)
    → IsAccepted d → IsBoxMoment d label old → old.place ≡ places.FarOut k → IsTurned x old new onward
    → Answers (Standing d) (λ h. onward_of (out_by d k (far_at d k) (header_at old.header h) (far_at d k).kind)) old.header.part x → IsStepOn d appliances label old new onward
far_out_step d appliances label k x old new onward accepted moment is t told =
    at_plain d appliances label (places.FarOut k) (λ h. out_by d k (far_at d k) h (far_at d k).kind) x old new onward accepted moment is t (out_by-stays d k) (λ m. refl)
    (standing_answers d (places.FarOut k) (λ h. onward_of (out_by d k (far_at d k) (header_at old.header h) (far_at d k).kind)) old.header.part x told)

pub far_in_step : (d : Description) (appliances : Appliances) (label : Label) (k : FarNo) (x : Part Onward) (old new : BoxMoment) (onward : Onward)
    → IsAccepted d → IsBoxMoment d label old → old.place ≡ places.FarIn k → IsTurned x old new onward
    → Answers (AtPlace d (places.FarIn k)) (λ h. onward_of (in_by d label k (far_at d k) (header_at old.header h) (far_at d k).kind)) old.header.part x → IsStepOn d appliances label old new onward
far_in_step d appliances label k x old new onward accepted moment is t told =
    at_plain d appliances label (places.FarIn k) (λ h. in_by d label k (far_at d k) h (far_at d k).kind) x old new onward accepted moment is t (in_by-stays d label k) (λ m. refl) told

pub inspect_step : (d : Description) (appliances : Appliances) (label : Label) (e : FirewallNo) (x : Part Onward) (old new : BoxMoment) (onward : Onward)
    → IsAccepted d → IsBoxMoment d label old → old.place ≡ places.Inspect e → IsTurned x old new onward
    → Answers (Standing d) (λ h. let k = header_at old.header h in
    onward_of (cond (passes (boxes_behind d e) k) (go (places.Router (firewall_subnet d e) (from.Firewall e)) k) (stop (stops.InspectDrop e)))) old.header.part x
    → IsStepOn d appliances label old new onward
inspect_step d appliances label e x old new onward accepted moment is t told =
    at_plain d appliances label (places.Inspect e) (λ h. cond (passes (boxes_behind d e) h) (go (places.Router (firewall_subnet d e) (from.Firewall e)) h) (stop (stops.InspectDrop e)))
    x old new onward accepted moment is t (inspect-stays d e) (λ m. refl)
    (standing_answers d (places.Inspect e)
    (λ h. let k = header_at old.header h in onward_of (cond (passes (boxes_behind d e) k) (go (places.Router (firewall_subnet d e) (from.Firewall e)) k) (stop (stops.InspectDrop e)))) old.header.part x told)
