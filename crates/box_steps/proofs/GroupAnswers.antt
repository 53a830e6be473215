-- What passes groups, for all packets of a moment.
use Rattle.std.proofs.Common.{Bool, List, None, Option, Some, cond, false, flat_map, is_some, refl, subst, sym, true, ◌∙◌, ◌≡◌}
use Rattle.vpc_base.specs.Cuts.{CutLists, joined_cuts}
use Rattle.vpc_base.specs.declared.headers.Label.TheVariants as labels
use Rattle.header_boxes.specs.Boxes.{IsValid}
use Rattle.box_images.proofs.Reducing.{reduced_by, reduced_nothing, reduced_to}
use Rattle.box_images.specs.Terms.{Answers, header_at}
use Rattle.image_tests.specs.Types.{Image, Part}
use Rattle.conn_tracking.specs.OnImages.{TellsTracked, connections_at}
use Rattle.cut_laws.proofs.Places.{addresses_are_standing}
use Rattle.cut_laws.specs.Dividing.{DivideAddresses}
use Rattle.image_tests.proofs.Answering.{answers_more}
use Rattle.vpc_laws.specs.Types.{Description, Dir, EniNo, Header, RuleRef}
use Rattle.vpc_model.specs.Terms.{Connection, Passing, address_cuts, addresses_in, answer_passing, cuts_of_blocks, first_rule, fixed_cuts, interface_at, is_tracked, label_passing}
use Rattle.vpc_model.specs.declared.outcomes.By.TheVariants as bys
use Rattle.vpc_model.specs.declared.places.Place.TheVariants as places
use Rattle.box_steps.proofs.Telling.{answers_kept}
use Rattle.box_steps.proofs.Turning.{divide_at_place}
use Rattle.box_steps.specs.Terms.{AtPlace, BoxMoment, is_passed}

-- ---- answers

abbrev by_tracking : Bool → List Connection → Option RuleRef → Passing
by_tracking tracked conns rule = cond tracked (record { by = Some bys.Tracked; conns = conns }) (answer_passing conns rule)

tracked-passed : (tracked told : Bool) (conns : List Connection) (rule : Option RuleRef) → tracked ≡ told → told ≡ true → is_passed (by_tracking tracked conns rule) ≡ told
tracked-passed true told conns rule same is = sym is
tracked-passed false told conns rule same is = absurd (let no : false ≡ true = same ∙ is in cc)

untracked-passed : (tracked : Bool) (conns : List Connection) (rule : Option RuleRef) → tracked ≡ false → is_passed (by_tracking tracked conns rule) ≡ is_some rule
untracked-passed true conns rule is = absurd (let no : true ≡ false = is in cc)
untracked-passed false conns None is = refl
untracked-passed false conns (Some r) is = refl

-- the cuts at the interface's place divide enough for the addresses of the description
tracked-at : (d : Description) (i : EniNo) (dir : Dir) (m : BoxMoment) (x : Part Bool) → TellsTracked (addresses_in d) m.conns.items i dir m.header x
    → Answers (AtPlace d (places.OutOf i)) (λ h. is_tracked (connections_at h m.conns.items) i dir (header_at m.header h)) m.header.part x
tracked-at d i dir m x k =
    answers_more (DivideAddresses (addresses_in d)) (AtPlace d (places.OutOf i)) (λ h. is_tracked (connections_at h m.conns.items) i dir (header_at m.header h)) m.header.part x
    (λ cuts at. divide_at_place d (joined_cuts fixed_cuts (cuts_of_blocks (flat_map address_cuts (addresses_in d)))) (places.OutOf i) cuts (addresses_are_standing d) at) k

pub tracked_pass : (d : Description) (i : EniNo) (dir : Dir) (m : BoxMoment) (x : Part Bool) → x.told ≡ true → TellsTracked (addresses_in d) m.conns.items i dir m.header x
    → Answers (AtPlace d (places.OutOf i)) (λ h. is_passed (label_passing d labels.Answer i dir (header_at m.header h) (connections_at h m.conns.items))) m.header.part x
tracked_pass d i dir m x is k =
    answers_kept (AtPlace d (places.OutOf i)) (λ h. is_tracked (connections_at h m.conns.items) i dir (header_at m.header h))
    (λ h. is_passed (label_passing d labels.Answer i dir (header_at m.header h) (connections_at h m.conns.items))) m.header.part x
    (λ h e. tracked-passed (is_tracked (connections_at h m.conns.items) i dir (header_at m.header h)) x.told (connections_at h m.conns.items) (first_rule d (interface_at d i) dir (header_at m.header h)) e is)
    (tracked-at d i dir m x k)

-- where none is tracked, rules decide
pub untracked_pass : (d : Description) (i : EniNo) (dir : Dir) (m : BoxMoment) (j : Image) (x y : Part Bool) → IsValid m.header.part → x.told ≡ false → j ≡ record m.header { part = x.body }
    → TellsTracked (addresses_in d) m.conns.items i dir m.header x
    → Answers (AtPlace d (places.OutOf i)) (λ h. is_some (first_rule d (interface_at d i) dir (header_at j h))) j.part y
    → Answers (AtPlace d (places.OutOf i)) (λ h. is_passed (label_passing d labels.Answer i dir (header_at m.header h) (connections_at h m.conns.items))) m.header.part y
untracked_pass d i dir m j x y valid is over k l =
    let enough : CutLists → Type 0 = AtPlace d (places.OutOf i) in
    let whole : Header → Bool = λ h. is_passed (label_passing d labels.Answer i dir (header_at m.header h) (connections_at h m.conns.items)) in
    let rest : Header → Bool = λ h. is_some (first_rule d (interface_at d i) dir (header_at m.header h)) in
    reduced_to enough whole rest m.header.part x.body y
    (reduced_by enough whole whole rest m.header.part m.header.part (λ h. is_tracked (connections_at h m.conns.items) i dir (header_at m.header h)) x x.told refl
    (λ h e. untracked-passed (is_tracked (connections_at h m.conns.items) i dir (header_at m.header h)) (connections_at h m.conns.items) (first_rule d (interface_at d i) dir (header_at m.header h)) (e ∙ is))
    (reduced_nothing enough whole m.header.part valid) (tracked-at d i dir m x k))
    (subst (λ (k : Image). Answers enough (λ h. is_some (first_rule d (interface_at d i) dir (header_at k h))) k.part y) over l)
