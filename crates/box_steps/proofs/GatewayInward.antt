-- The internet gateway on the way in, for all headers of a body.
use Rattle.std.proofs.Common.{Bool, Contains, IfSome, List, None, Option, Some, ap, cond, false, find, inl, inr, is_some, refl, subst, sym, true, ℕ, ◌==◌, ◌∙◌, ◌≡◌}
use Rattle.vpc_base.proofs.Lemmas.{cases_eq, eq-eqb, ne_eqb}
use Rattle.vpc_base.specs.Cuts.{CutLists}
use Rattle.box_steps.specs.Terms.{Answers, AreEdgesOf, BoxMoment, CutOut, EdgeLists, Image, IsBoxMoment, IsImageOf, IsNarrowed, IsStepOn, IsValidImage, KeepsKind, Part, Standing, header_at, image_over, low_of, own_in, owner_in}
use Rattle.box_images.specs.declared.fields.Field.TheVariants.{Fixed}
use Rattle.fabric.proofs.Owners.{private-none, private-other, private-own}
use Rattle.image_tests.proofs.Answering.{answers_more}
use Rattle.vpc_laws.specs.Types.{Box5, Description, Header, Label, Place, Stop, VpcNo}
use Rattle.vpc_model.specs.Terms.{Appliances, IsAccepted, Next, addresses_in, blocked_at, go, go_private, is_sound, is_vpc, pairs_in, private_of, unless_stopped}
use Rattle.vpc_model.specs.declared.places.EnterBy.TheVariants as through
use Rattle.vpc_model.specs.declared.places.Place.TheVariants as places
use Rattle.box_steps.proofs.InternetAnswers.{owners-divide}
use Rattle.box_steps.proofs.Rewriting.{kind_keeps, step_if_rewritten}
use Rattle.box_steps.proofs.ToldOfSome.{told_of_low}
use Rattle.box_steps.proofs.Turning.{standing_answers}
use Rattle.box_steps.specs.declared.onward.Onward.TheVariants as onwards
use Rattle.box_steps.proofs.Narrowing.{kept_if_narrowed}
use Rattle.box_steps.proofs.PairAnswers.{IsSent, at-place, gateway-vpc, kind_narrowed, private-has, sent-kept, valid_narrowed}

abbrev Owners : Type 0
Owners = Option (VpcNo × ℕ)

-- the private address in the VPC, by the owner
pub private_by_owner : (d : Description) (m : EdgeLists) (v : VpcNo) (public : ℕ) (o : Owners) → IsAccepted d → is_vpc d v ≡ true → AreEdgesOf d m → owner_in m public ≡ o
    → private_of d v public ≡ own_in v o
private_by_owner d m v public None accepted lies are told = sym (private-none d m v public accepted lies are (sym told))
private_by_owner d m v public (Some (w, own)) accepted lies are told =
    elim (cases_eq w.0 v.0) [
      | inl same ↦
          sym (private-own d m v w public own are (sym told) same) ∙ ap (λ b. cond b (Some own) None) (sym (eq-eqb w.0 v.0 same))
      | inr differs ↦
          sym (private-other d m v w public own accepted lies are (sym told) differs) ∙ ap (λ b. cond b (Some own) None) (sym (ne_eqb w.0 v.0 differs))
    ]

own-has : (d : Description) (m : EdgeLists) (v : VpcNo) (public own : ℕ) (o : Owners) → AreEdgesOf d m → owner_in m public ≡ o → own_in v o ≡ Some own → Contains (addresses_in d) own
own-has d m v public own None are told is = absurd (let none : None ≡ Some own = is in cc)
own-has d m v public own (Some (w, a)) are told is =
    let private : private_of d w public ≡ Some a = subst (λ (o : Owners). IfSome o (λ x. private_of d x.0 public ≡ Some x.1)) told (are.pairs.own public) in
    subst (Contains (addresses_in d)) (only (w.0 == v.0) is) (private-has d w public a (find (λ p. p.1 == public) (pairs_in d w)) refl private)
  where
    only : (b : Bool) → cond b (Some a) None ≡ Some own → a ≡ own
    only true e = let some : Some a ≡ Some own = e in cc
    only false e = absurd (let none : None ≡ Some own = e in cc)

pub told_own_has : (d : Description) (m : EdgeLists) (v : VpcNo) (enough : CutLists → Type 0) (i : Image) (x : Part Owners) (own : ℕ) → AreEdgesOf d m
    → Answers enough (λ h. owner_in m (header_at i h).dst) i.part x → own_in v x.told ≡ Some own → Contains (addresses_in d) own
told_own_has d m v enough i x own are k is =
    own-has d m v (header_at i (low_of x.body)).dst own x.told are (sym (told_of_low enough (λ h. owner_in m (header_at i h).dst) i.part x k)) is

abbrev next-in : Description → VpcNo → BoxMoment → Header → Next
next-in d v old h = let k = header_at old.header h in go_private d v k (private_of d v k.dst)

-- the image whose destination is the private address, where there is one
abbrev pub dst_set : Image → Option ℕ → Image
dst_set i None = i
dst_set i (Some own) = record i { dst = Fixed own }

abbrev enter : VpcNo → Place
enter v = places.Enter v through.Gateway

-- nothing blocks packets to the private address
abbrev pub IsFree : Description → VpcNo → Option ℕ → Type 0
IsFree d v None = Unit {0}
IsFree d v (Some own) = blocked_at d v own ≡ None

goes-on : (d : Description) (v : VpcNo) (i : Image) (o : Option ℕ) (h : Header) → IsFree d v o → go_private d v (header_at i h) o ≡ go (enter v) (header_at (dst_set i o) h)
goes-on d v i None h free = refl
goes-on d v i (Some own) h free = ap (λ (s : Option Stop). unless_stopped s (go (enter v) (record (header_at i h) { dst = own }))) free

dst-part : (i : Image) (o : Option ℕ) → (dst_set i o).part ≡ i.part
dst-part i None = refl
dst-part i (Some own) = refl

dst-over : (body : Box5) (i : Image) (o : Option ℕ) (h : Header) → header_at (dst_set (image_over body i) o) h ≡ header_at (dst_set i o) h
dst-over body i None h = refl
dst-over body i (Some own) h = refl

pub sent_private : (d : Description) (appliances : Appliances) (label : Label) (m : EdgeLists) (v : VpcNo) (old narrowed new : BoxMoment) (x : Part Owners) (header : Image) → IsAccepted d
    → AreEdgesOf d m → old.place ≡ places.IgwIn v → IsBoxMoment d label old
    → Answers (CutOut (λ public. is_some (owner_in m public))) (λ h. owner_in m (header_at old.header h).dst) old.header.part x → IsFree d v (own_in v x.told)
    → IsNarrowed x.body old narrowed → header ≡ dst_set narrowed.header (own_in v x.told) → IsValidImage header
    → IsImageOf label (addresses_in d) header → IsSent narrowed new (places.Enter v through.Gateway) header
    → IsStepOn d appliances label old new (onwards.Go (places.Enter v through.Gateway))
sent_private d appliances label m v old narrowed new x header accepted are at k answers free n is valid kind s =
    let own = own_in v x.told in
    let asked : Header → Owners = λ h. owner_in m (header_at old.header h).dst in
    let lies = gateway-vpc d v (ap (is_sound d) (sym at) ∙ k.sound) in
    let standing = answers_more (CutOut (λ public. is_some (owner_in m public))) (Standing d) asked old.header.part x (owners-divide d m are) answers in
    let whole : new.header ≡ dst_set (image_over x.body old.header) own = s.header ∙ is ∙ ap (λ (i : Image). dst_set i own) n.header in
    step_if_rewritten d appliances label x.body (next-in d v old) old new (onwards.Go (enter v)) accepted k
    (λ h. at-place d appliances label h old (places.IgwIn v) at)
    standing.body (standing_answers d old.place asked old.header.part x standing).aligned
    (record {
      kept = sent-kept narrowed new old x.body (enter v) header n s;
      over = ap (λ (i : Image). i.part) whole ∙ dst-part (image_over x.body old.header) own;
      valid = subst IsValidImage (sym s.header) valid;
      kind = subst (IsImageOf label (addresses_in d)) (sym s.header) kind;
      place = s.place;
      next = λ h held.
          ap (go_private d v (header_at old.header h)) (private_by_owner d m v (header_at old.header h).dst x.told accepted lies are (sym (standing.told h held)))
          ∙ goes-on d v old.header own h free
          ∙ ap (go (enter v)) (sym (dst-over x.body old.header own h))
          ∙ ap (λ (p : Place). go p (header_at (dst_set (image_over x.body old.header) own) h)) (sym s.place)
          ∙ ap (λ (i : Image). go new.place (header_at i h)) (sym whole);
    })

pub stopped_inward : (d : Description) (appliances : Appliances) (label : Label) (m : EdgeLists) (v : VpcNo) (old new : BoxMoment) (x : Part Owners) (own : ℕ) (s : Stop) → IsAccepted d
    → AreEdgesOf d m → old.place ≡ places.IgwIn v → IsBoxMoment d label old
    → Answers (CutOut (λ public. is_some (owner_in m public))) (λ h. owner_in m (header_at old.header h).dst) old.header.part x → own_in v x.told ≡ Some own → blocked_at d v own ≡ Some s
    → IsNarrowed x.body old new → IsStepOn d appliances label old new (onwards.Stop s)
stopped_inward d appliances label m v old new x own s accepted are at k answers is blocks n =
    let asked : Header → Owners = λ h. owner_in m (header_at old.header h).dst in
    let lies = gateway-vpc d v (ap (is_sound d) (sym at) ∙ k.sound) in
    let standing = answers_more (CutOut (λ public. is_some (owner_in m public))) (Standing d) asked old.header.part x (owners-divide d m are) answers in
    step_if_rewritten d appliances label x.body (next-in d v old) old new (onwards.Stop s) accepted k
    (λ h. at-place d appliances label h old (places.IgwIn v) at)
    standing.body (standing_answers d old.place asked old.header.part x standing).aligned
    (record {
      kept = kept_if_narrowed x.body old new n;
      over = ap (λ (i : Image). i.part) n.header;
      valid = valid_narrowed d label x.body old new k answers.body.within n;
      kind = kind_narrowed d label x.body old new k answers.body.within n;
      place = n.place;
      next = λ h held.
          let there = private_by_owner d m v (header_at old.header h).dst x.told accepted lies are (sym (standing.told h held)) in
          ap (go_private d v (header_at old.header h)) (there ∙ is)
          ∙ ap (λ (t : Option Stop). unless_stopped t (go (enter v) (record (header_at old.header h) { dst = own }))) blocks;
    })

-- an image that is left as it is, or whose destination is an address of the description, is of its kind
pub kind_set : (d : Description) (label : Label) (i j : Image) (own : ℕ) → Contains (addresses_in d) own → ((addresses : List ℕ) → Contains addresses own → KeepsKind addresses i j)
    → IsImageOf label (addresses_in d) i → IsImageOf label (addresses_in d) j
kind_set d label i j own has keeps k = kind_keeps label (addresses_in d) i j (keeps (addresses_in d) has) k
