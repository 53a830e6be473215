-- The internet gateway on the way out, for all headers of a body.
use Rattle.std.proofs.Common.{Contains, Err, List, None, Ok, Option, Result, Some, ap, find, is_some, option_and_then, refl, subst, sym, true, ℕ, ◌==◌, ◌∙◌, ◌≡◌}
use Rattle.box_steps.specs.Terms.{Answers, AreEdgesOf, BoxMoment, CutOut, EdgeLists, Image, IsBoxMoment, IsImageOf, IsNarrowed, IsStepOn, IsValidImage, KeepsKind, Part, Standing, header_at, image_over, low_of, public_in}
use Rattle.box_images.proofs.Lemmas.{images_fit}
use Rattle.box_images.specs.declared.fields.Field.TheVariants.{Fixed}
use Rattle.cut_laws.proofs.Among.{among_through}
use Rattle.edge_gateways.proofs.Standing.{publics_are_cut_out}
use Rattle.image_tests.proofs.Answering.{answers_more}
use Rattle.vpc_laws.specs.Types.{Description, EniNo, Header, Label, Place, Stop, VpcNo}
use Rattle.vpc_model.specs.Terms.{Appliances, IsAccepted, Next, address_cuts, addresses_in, attached_gateway, blocked, blocked_at, cuts_of_blocks, go, go_public, host_of, is_vpc, on_sides, pairs_in, public_of, standing_cuts, stop, unless_stopped}
use Rattle.vpc_model.specs.declared.places.Place.TheVariants as places
use Rattle.vpc_model.specs.declared.stops.Stop.TheVariants as stops
use Rattle.box_steps.proofs.HostAnswers.{answers_held}
use Rattle.box_steps.proofs.Narrowing.{kept_if_narrowed}
use Rattle.box_steps.proofs.Rewriting.{kind_keeps, step_if_rewritten}
use Rattle.box_steps.proofs.Telling.{answers_then, answers_told}
use Rattle.box_steps.proofs.ToldOfSome.{told_of_low}
use Rattle.box_steps.specs.Publics.{got, got_at, unless_blocked}
use Rattle.header_boxes.specs.Boxes.{IsValid}
use Rattle.box_steps.proofs.Turning.{standing_answers}
use Rattle.box_steps.specs.declared.onward.Onward.TheVariants as onwards
use Rattle.box_steps.proofs.PairAnswers.{IsSent, at-place, kind_narrowed, public-has, sent-kept, valid_narrowed}

-- the public addresses of sources
pub answers_of_publics : (d : Description) (m : EdgeLists) (v : VpcNo) (i : Image) (x : Part (Option ℕ)) → AreEdgesOf d m → is_vpc d v ≡ true → IsValidImage i
    → Answers (CutOut (λ own. is_some (public_in m v own))) (λ h. public_in m v (header_at i h).src) i.part x
    → Answers (Standing d) (λ h. public_of d v (header_at i h).src) i.part x
answers_of_publics d m v i x are lies valid k =
    answers_held (Standing d) (λ h. public_in m v (header_at i h).src) (λ h. public_of d v (header_at i h).src) i.part x
    (λ h held. are.pairs.public v (header_at i h).src lies (images_fit i h valid held).src)
    (answers_more (CutOut (λ own. is_some (public_in m v own))) (Standing d) (λ h. public_in m v (header_at i h).src) i.part x
    (λ cuts standing a fits some. among_through (on_sides (cuts_of_blocks (address_cuts a))) (standing_cuts d) cuts (publics_are_cut_out d m v are lies a fits some) standing) k)

-- what packets get without a public address
pub answers_without : (d : Description) (v : VpcNo) (i : Image) (x : Part (Option ℕ)) (s : Stop) → x.told ≡ None → s ≡ stops.NoPublic (attached_gateway d v)
    → Answers (Standing d) (λ h. public_of d v (header_at i h).src) i.part x
    → Answers (Standing d) (λ h. got_at d v (header_at i h).src) i.part (record { body = x.body; told = Err s })
answers_without d v i x s none is k =
    answers_told (Standing d) (λ h. public_of d v (header_at i h).src) (λ h. got_at d v (header_at i h).src) i.part x (Err s)
    (λ h told. ap (got d v (header_at i h).src) (told ∙ none) ∙ ap (λ (t : Stop). Err t) (sym is)) k

-- and with one, by what blocks them
pub answers_with : (d : Description) (v : VpcNo) (i j : Image) (x : Part (Option ℕ)) (y : Part (Option Stop)) (a : ℕ) (r : Result ℕ Stop) → IsValid i.part → j ≡ record i { part = x.body } → x.told ≡ Some a
    → r ≡ unless_blocked a y.told
    → Answers (Standing d) (λ h. public_of d v (header_at i h).src) i.part x → Answers (Standing d) (λ h. blocked_at d v (header_at j h).src) j.part y
    → Answers (Standing d) (λ h. got_at d v (header_at i h).src) i.part (record { body = y.body; told = r })
answers_with d v i j x y a r valid is some told_is k l =
    answers_then (Standing d) (λ h. public_of d v h.src) (λ h. got_at d v h.src) (λ h. unless_blocked a (blocked_at d v h.src)) i j x (record { body = y.body; told = r })
    valid is (λ h told. ap (got d v (header_at i h).src) (told ∙ some)) k
    (answers_told (Standing d) (λ h. blocked_at d v (header_at j h).src) (λ h. unless_blocked a (blocked_at d v (header_at j h).src)) j.part y r
    (λ h told. ap (unless_blocked a) told ∙ sym told_is) l)

-- what blocks packets, by their senders
pub answers_blocked : (d : Description) (v : VpcNo) (i : Image) (x : Part (Option EniNo)) (s : Option Stop) → s ≡ option_and_then (blocked d) x.told
    → Answers (Standing d) (λ h. host_of d v (header_at i h).src) i.part x
    → Answers (Standing d) (λ h. blocked_at d v (header_at i h).src) i.part (record { body = x.body; told = s })
answers_blocked d v i x s is k =
    answers_told (Standing d) (λ h. host_of d v (header_at i h).src) (λ h. blocked_at d v (header_at i h).src) i.part x s
    (λ h told. ap (option_and_then (blocked d)) told ∙ sym is) k

-- ---- what comes next

abbrev next-out : Description → VpcNo → BoxMoment → Header → Next
next-out d v old h = let k = header_at old.header h in go_public d v k (public_of d v k.src)

-- by what packets get
abbrev next-by : Header → Result ℕ Stop → Next
next-by k (Ok a) = go places.Internet (record k { src = a })
next-by k (Err s) = stop s

by-blocked : (k : Header) (a : ℕ) (s : Option Stop) → unless_stopped s (go places.Internet (record k { src = a })) ≡ next-by k (unless_blocked a s)
by-blocked k a None = refl
by-blocked k a (Some s) = refl

by-got : (d : Description) (v : VpcNo) (k : Header) (o : Option ℕ) → go_public d v k o ≡ next-by k (got d v k.src o)
by-got d v k None = refl
by-got d v k (Some a) = by-blocked k a (blocked_at d v k.src)

-- ---- steps

got-public : (d : Description) (v : VpcNo) (own a : ℕ) (o : Option ℕ) → public_of d v own ≡ o → got d v own o ≡ Ok a → Contains (addresses_in d) a
got-public d v own a None is told = absurd cc
got-public d v own a (Some b) is told =
    public-has d v own a (find (λ p. p.0 == own) (pairs_in d v)) refl (is ∙ ap (λ (n : ℕ). Some n) (only (blocked_at d v own) told))
  where
    only : (s : Option Stop) → unless_blocked b s ≡ Ok a → b ≡ a
    only None e = cc
    only (Some s) e = absurd cc

-- the public address that was told is one of the description's
pub told_public_has : (d : Description) (v : VpcNo) (i : Image) (x : Part (Result ℕ Stop)) (a : ℕ) → Answers (Standing d) (λ h. got_at d v (header_at i h).src) i.part x → x.told ≡ Ok a
    → Contains (addresses_in d) a
told_public_has d v i x a k told =
    let own = (header_at i (low_of x.body)).src in
    got-public d v own a (public_of d v own) refl (sym (told_of_low (Standing d) (λ h. got_at d v (header_at i h).src) i.part x k) ∙ told)

pub sent_public : (d : Description) (appliances : Appliances) (label : Label) (v : VpcNo) (old narrowed new : BoxMoment) (x : Part (Result ℕ Stop)) (a : ℕ) (header : Image) → IsAccepted d
    → old.place ≡ places.IgwOut v → IsBoxMoment d label old → Answers (Standing d) (λ h. got_at d v (header_at old.header h).src) old.header.part x → x.told ≡ Ok a
    → IsNarrowed x.body old narrowed → header ≡ record narrowed.header { src = Fixed a } → IsValidImage header
    → ((addresses : List ℕ) → Contains addresses a → KeepsKind addresses narrowed.header header) → IsSent narrowed new places.Internet header
    → IsStepOn d appliances label old new (onwards.Go places.Internet)
sent_public d appliances label v old narrowed new x a header accepted at k answers told n is valid keeps s =
    let whole : new.header ≡ record (image_over x.body old.header) { src = Fixed a } = s.header ∙ is ∙ ap (λ (i : Image). record i { src = Fixed a }) n.header in
    step_if_rewritten d appliances label x.body (next-out d v old) old new (onwards.Go places.Internet) accepted k
    (λ h. at-place d appliances label h old (places.IgwOut v) at)
    answers.body (standing_answers d old.place (λ h. got_at d v (header_at old.header h).src) old.header.part x answers).aligned
    (record {
      kept = sent-kept narrowed new old x.body places.Internet header n s;
      over = ap (λ (i : Image). i.part) whole;
      valid = subst IsValidImage (sym s.header) valid;
      kind = subst (IsImageOf label (addresses_in d)) (sym s.header)
          (kind_keeps label (addresses_in d) narrowed.header header (keeps (addresses_in d) (told_public_has d v old.header x a answers told))
          (kind_narrowed d label x.body old narrowed k answers.body.within n));
      place = s.place;
      next = λ h held.
          by-got d v (header_at old.header h) (public_of d v (header_at old.header h).src)
          ∙ ap (next-by (header_at old.header h)) (sym (answers.told h held) ∙ told)
          ∙ ap (λ (p : Place). go p (record (header_at old.header h) { src = a })) (sym s.place)
          ∙ ap (λ (i : Image). go new.place (header_at i h)) (sym whole);
    })

pub stopped_outward : (d : Description) (appliances : Appliances) (label : Label) (v : VpcNo) (old new : BoxMoment) (x : Part (Result ℕ Stop)) (s : Stop) → IsAccepted d
    → old.place ≡ places.IgwOut v → IsBoxMoment d label old → Answers (Standing d) (λ h. got_at d v (header_at old.header h).src) old.header.part x → x.told ≡ Err s
    → IsNarrowed x.body old new → IsStepOn d appliances label old new (onwards.Stop s)
stopped_outward d appliances label v old new x s accepted at k answers told n =
    step_if_rewritten d appliances label x.body (next-out d v old) old new (onwards.Stop s) accepted k
    (λ h. at-place d appliances label h old (places.IgwOut v) at)
    answers.body (standing_answers d old.place (λ h. got_at d v (header_at old.header h).src) old.header.part x answers).aligned
    (record {
      kept = kept_if_narrowed x.body old new n;
      over = ap (λ (i : Image). i.part) n.header;
      valid = valid_narrowed d label x.body old new k answers.body.within n;
      kind = kind_narrowed d label x.body old new k answers.body.within n;
      place = n.place;
      next = λ h held.
          by-got d v (header_at old.header h) (public_of d v (header_at old.header h).src)
          ∙ ap (next-by (header_at old.header h)) (sym (answers.told h held) ∙ told);
    })
