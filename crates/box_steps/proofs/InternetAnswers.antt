-- What the internet answers for all headers of a body.
use Rattle.std.proofs.Common.{Bool, IfSome, None, Option, Some, ap, cond, false, find, flat_map, is_some, option_map, refl, subst, sym, true, ℕ, ◌==◌, ◌||◌, ◌∙◌, ◌≡◌}
use Rattle.vpc_base.specs.Cuts.{CutLists}
use Rattle.header_boxes.specs.Boxes.{IsValid}
use Rattle.box_images.specs.Terms.{Answers, header_at}
use Rattle.image_tests.specs.Types.{Image, Part}
use Rattle.cut_laws.proofs.Lemmas.{among_through, fixed_are_standing}
use Rattle.cut_laws.specs.Dividing.{CutOut, Divide}
use Rattle.edge_gateways.proofs.Standing.{owners_are_cut_out}
use Rattle.edge_gateways.specs.Terms.{AreEdgesOf, EdgeLists, owner_in}
use Rattle.image_tests.proofs.Answering.{answers_more}
use Rattle.vpc_laws.proofs.Sounding.{IfFound, known-accepted, owner-by}
use Rattle.vpc_laws.specs.Types.{Description, Header, VpcNo}
use Rattle.vpc_model.specs.Terms.{IsAccepted, Next, address_cuts, cuts_of_blocks, fixed_cuts, is_unroutable, is_vpc, on_sides, owned_by, owner_of, standing_cuts, stop, to_owner}
use Rattle.vpc_model.specs.declared.stops.Stop.TheVariants as stops
use Rattle.fabric.proofs.Owners.{owner-first}
use Rattle.box_steps.proofs.ToldOfSome.{told_of_low}
use Rattle.box_steps.proofs.Telling.{answers_then, answers_told}
use Rattle.box_steps.specs.Terms.{Onward, Standing, onward_of}
use Rattle.box_steps.specs.declared.onward.Onward.TheVariants as onwards

-- what comes next on the internet
abbrev pub on_internet : Description → Header → Next
on_internet d k = cond (is_unroutable k.src || is_unroutable k.dst) (stop stops.PrivateAddress) (to_owner d k (owner_of d k.dst))

abbrev unroutable-at : Image → Header → Bool
unroutable-at i h = is_unroutable (header_at i h).src || is_unroutable (header_at i h).dst

unroutable-standing : (d : Description) (i : Image) (x : Part Bool) → Answers (Divide fixed_cuts) (unroutable-at i) i.part x → Answers (Standing d) (unroutable-at i) i.part x
unroutable-standing d i x k =
    answers_more (Divide fixed_cuts) (Standing d) (unroutable-at i) i.part x (λ cuts standing. among_through (on_sides fixed_cuts) (standing_cuts d) cuts (fixed_are_standing d) standing) k

by-unroutable : (b : Bool) (yes-next no-next : Next) (v : Bool) → b ≡ v → v ≡ true → onward_of (cond b yes-next no-next) ≡ onward_of yes-next
by-unroutable true yes-next no-next v e is = refl
by-unroutable false yes-next no-next v e is = absurd (let f : false ≡ true = e ∙ is in cc)

by-routable : (b : Bool) (yes-next no-next : Next) (v : Bool) → b ≡ v → v ≡ false → onward_of (cond b yes-next no-next) ≡ onward_of no-next
by-routable true yes-next no-next v e is = absurd (let f : true ≡ false = e ∙ is in cc)
by-routable false yes-next no-next v e is = refl

pub answers_unroutable : (d : Description) (i : Image) (x : Part Bool) → x.told ≡ true → Answers (Divide fixed_cuts) (unroutable-at i) i.part x
    → Answers (Standing d) (λ h. onward_of (on_internet d (header_at i h))) i.part (record { body = x.body; told = onwards.Stop stops.PrivateAddress })
answers_unroutable d i x is k =
    answers_told (Standing d) (unroutable-at i) (λ h. onward_of (on_internet d (header_at i h))) i.part x (onwards.Stop stops.PrivateAddress)
    (λ h e. by-unroutable (unroutable-at i h) (stop stops.PrivateAddress) (to_owner d (header_at i h) (owner_of d (header_at i h).dst)) x.told e is) (unroutable-standing d i x k)

pub owners-divide : (d : Description) (m : EdgeLists) → AreEdgesOf d m → (cuts : CutLists) → Standing d cuts → CutOut (λ public. is_some (owner_in m public)) cuts
owners-divide d m are cuts standing a fits some =
    among_through (on_sides (cuts_of_blocks (address_cuts a))) (standing_cuts d) cuts (owners_are_cut_out d m are a fits some) standing

answers_of_owner : (d : Description) (m : EdgeLists) (j : Image) (y : Part (Option (VpcNo × ℕ))) (next : Onward) → AreEdgesOf d m
    → ((h : Header) → onward_of (to_owner d h (option_map (λ (x : VpcNo × ℕ). x.0) y.told)) ≡ next)
    → Answers (CutOut (λ public. is_some (owner_in m public))) (λ h. owner_in m (header_at j h).dst) j.part y
    → Answers (Standing d) (λ h. onward_of (to_owner d (header_at j h) (owner_of d (header_at j h).dst))) j.part (record { body = y.body; told = next })
answers_of_owner d m j y next are leads k =
    answers_told (Standing d) (λ h. owner_in m (header_at j h).dst) (λ h. onward_of (to_owner d (header_at j h) (owner_of d (header_at j h).dst))) j.part y next
    (λ h e. ap (λ (o : Option VpcNo). onward_of (to_owner d (header_at j h) o)) (owner-first d m (header_at j h).dst y.told are (sym e)) ∙ leads (header_at j h))
    (answers_more (CutOut (λ public. is_some (owner_in m public))) (Standing d) (λ h. owner_in m (header_at j h).dst) j.part y (owners-divide d m are) k)

pub answers_routable : (d : Description) (m : EdgeLists) (i j : Image) (x : Part Bool) (y : Part (Option (VpcNo × ℕ))) (next : Onward) → IsValid i.part → AreEdgesOf d m → x.told ≡ false
    → j ≡ record i { part = x.body } → ((h : Header) → onward_of (to_owner d h (option_map (λ (o : VpcNo × ℕ). o.0) y.told)) ≡ next)
    → Answers (Divide fixed_cuts) (unroutable-at i) i.part x
    → Answers (CutOut (λ public. is_some (owner_in m public))) (λ h. owner_in m (header_at j h).dst) j.part y
    → Answers (Standing d) (λ h. onward_of (on_internet d (header_at i h))) i.part (record { body = y.body; told = next })
answers_routable d m i j x y next valid are is within leads k l =
    answers_then (Standing d) (λ h. is_unroutable h.src || is_unroutable h.dst) (λ h. onward_of (on_internet d h)) (λ h. onward_of (to_owner d h (owner_of d h.dst))) i j x (record { body = y.body; told = next })
    valid within
    (λ h e. by-routable (unroutable-at i h) (stop stops.PrivateAddress) (to_owner d (header_at i h) (owner_of d (header_at i h).dst)) x.told e is)
    (unroutable-standing d i x k) (answers_of_owner d m j y next are leads l)

owner-lies : (d : Description) (m : EdgeLists) (public : ℕ) (o : Option (VpcNo × ℕ)) → IsAccepted d → AreEdgesOf d m → owner_in m public ≡ o → IfSome o (λ x. is_vpc d x.0 ≡ true)
owner-lies d m public None accepted are told = tt
owner-lies d m public (Some x) accepted are told =
    subst (λ (o : Option VpcNo). IfFound (is_vpc d) o) (owner-first d m public (Some x) are (sym told))
    (owner-by d (known-accepted d accepted) public (find (λ (o : VpcNo × ℕ). o.1 == public) (flat_map (owned_by d) d.interfaces)) refl)

-- the owner that was told is described
pub owner_lies : (enough : CutLists → Type 0) (d : Description) (m : EdgeLists) (j : Image) (y : Part (Option (VpcNo × ℕ))) → IsAccepted d → AreEdgesOf d m
    → Answers enough (λ h. owner_in m (header_at j h).dst) j.part y → IfSome y.told (λ x. is_vpc d x.0 ≡ true)
owner_lies enough d m j y accepted are k =
    owner-lies d m _ y.told accepted are (sym (told_of_low enough (λ h. owner_in m (header_at j h).dst) j.part y k))
