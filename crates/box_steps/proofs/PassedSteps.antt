-- One step of packets past an interface.
use Rattle.std.proofs.Common.{All, List, None, Option, [], ap, arith, false, inl, inr, length, map, refl, subst, sym, true, ℕ, ⊎_elim, ◌++◌, ◌∙◌, ◌∷◌, ◌≡◌, ◌⊎◌}
use Rattle.vpc_base.proofs.Lemmas.{All-append, length-append, map-append}
use Rattle.vpc_base.specs.declared.headers.Dir.TheVariants as dirs
use Rattle.vpc_base.specs.declared.headers.Label.TheVariants as labels
use Rattle.header_boxes.proofs.Lemmas.{aligned_through, holds_low, valid_if_within, within_holds}
use Rattle.header_boxes.specs.Terms.{IsAligned, IsWithin, holds, low_of}
use Rattle.box_images.proofs.BodyLemmas.{body_through}
use Rattle.box_images.specs.Terms.{Answers, IsBody, header_at}
use Rattle.image_tests.specs.Types.{Image, Part}
use Rattle.conn_tracking.specs.OnImages.{connection_at, connections_at}
use Rattle.conn_tracking.specs.declared.on_images.ImageEntry.{ImageEntry}
use Rattle.vpc_laws.proofs.Lemmas.{by_memory}
use Rattle.vpc_laws.specs.Types.{Box5, Description, Dir, EniNo, Header, Label, Place, Stop}
use Rattle.vpc_model.specs.Terms.{Appliances, Connection, IsAccepted, Next, Step, addresses_in, interface_at, is_sound, passing_of, same_place, step_of}
use Rattle.vpc_model.specs.declared.places.Place.TheVariants as places
use Rattle.box_steps.proofs.Narrowing.{IsKept, connections_at-kept, connections_at-over, conns-kept, kept_if_narrowed, moment-narrowed, moment-over, nats-kept, nothing-left, remembers-kept, translations_at-kept, translations_at-over}
use Rattle.box_steps.proofs.Staying.{Stays, next_of_onward, taken_in-stays}
use Rattle.box_steps.proofs.Turning.{next_at-turned, place-sound, standing_at_place}
use Rattle.box_steps.specs.Terms.{AtPlace, BoxMoment, CanRemember, HasPassed, IsBoxMoment, IsNarrowed, IsOpenOver, IsStepOn, IsStepTo, Onward, RemembersMore, Standing, TellsOf, barrier, comes_to, entries_left, entry_over, has_conn, left_at, moment_at, onward_of, passed_at, past_interface, remembers, translations_at}
use Rattle.box_steps.proofs.StoppedSteps.{GoesPast, at_interface, step_told}
use Rattle.box_steps.proofs.LeftBehind.{fresh_at, left-few, left-opens, more-known, passing-leaves}

stays-past : (d : Description) (appliances : Appliances) (i : EniNo) (dir : Dir) (h : Header) → Stays h (past_interface d appliances i dir h)
stays-past d appliances i dirs.Outward h = refl
stays-past d appliances i dirs.Inward h = taken_in-stays d appliances i h

-- what is left is the same where the header is
left-same : (label : Label) (groups : List (List ℕ)) (i : EniNo) (dir : Dir) (h : Header) (a b : Image) → header_at a h ≡ header_at b h
    → connections_at h (entries_left label groups (record { eni = i; dir = dir; header = a })) ≡ connections_at h (entries_left label groups (record { eni = i; dir = dir; header = b }))
left-same labels.Answer groups i dir h a b e = refl
left-same labels.Opening [] i dir h a b e = refl
left-same labels.Opening (g ∷ gs) i dir h a b e = ap (λ (k : Header). let c : Connection = record { eni = i; dir = dir; header = k } in c ∷ []) e

-- what the step leaves is what the new moment remembers
pub passed_leaves : (d : Description) (label : Label) (i : EniNo) (dir : Dir) (s : Step) (h : Header) (body : Box5) (old mid new : BoxMoment) (x : Part Onward) (onward : Onward) (past : Next)
    → (label ≡ labels.Opening → has_conn old.conns.items i dir ≡ false) → IsNarrowed body old mid → HasPassed d label i dir x mid new onward
    → (let m = moment_at h old in GoesPast m (passing_of d label i dir m.header m.conns) past s)
    → (s.conns ≡ connections_at h new.conns.items) × (s.nats ≡ translations_at h new.nats.items)
passed_leaves d label i dir s h body old mid new x onward past fresh n p g =
    let row = interface_at d i in
    let kept = kept_if_narrowed body old mid n in
    let header : header_at new.header h ≡ header_at old.header h = ap (λ (j : Image). header_at j h) p.header ∙ ap (λ (j : Image). header_at j h) n.header in
    let left : List ImageEntry = left_at d label i dir new in (
      g.conns
          ∙ passing-leaves d label i dir h old.conns.items old.header row.groups fresh g.passed
          ∙ ap (λ (cs : List Connection). connections_at h old.conns.items ++ cs) (left-same label row.groups i dir h old.header new.header (sym header))
          ∙ ap (λ (cs : List Connection). cs ++ connections_at h left) (sym (connections_at-kept h body old mid kept))
          ∙ ap (λ (cs : List Connection). cs ++ connections_at h left) (sym (connections_at-over h x.body mid.conns.items))
          ∙ sym (map-append (connection_at h) (map (entry_over x.body) mid.conns.items) left)
          ∙ sym (ap (connections_at h) p.conns),
      g.nats ∙ sym (translations_at-kept h body old mid kept) ∙ sym (translations_at-over h x.body mid.nats.items) ∙ sym (ap (translations_at h) p.nats),
    )

-- at one header: the step from the old moment is the one to the new
passed_to : (d : Description) (appliances : Appliances) (label : Label) (i : EniNo) (dir : Dir) (s : Step) (h : Header) (old mid new : BoxMoment) (x : Part Onward) (onward : Onward)
    → (label ≡ labels.Opening → has_conn old.conns.items i dir ≡ false) → IsNarrowed mid.header.part old mid → HasPassed d label i dir x mid new onward
    → (let m = moment_at h old in GoesPast m (passing_of d label i dir m.header m.conns) (past_interface d appliances i dir m.header) s)
    → x.told ≡ onward_of (past_interface d appliances i dir (header_at mid.header h)) → IsStepTo s h new onward
passed_to d appliances label i dir s h old mid new x onward fresh n p g told =
    let k = header_at old.header h in
    let middle : header_at mid.header h ≡ k = ap (λ (j : Image). header_at j h) n.header in
    let header : header_at new.header h ≡ k = ap (λ (j : Image). header_at j h) p.header ∙ middle in
    let leaves = passed_leaves d label i dir s h mid.header.part old mid new x onward (past_interface d appliances i dir k) fresh n p g in
    record {
      next = g.next
          ∙ next_of_onward k (past_interface d appliances i dir k) onward (stays-past d appliances i dir k)
          (ap (λ (j : Header). onward_of (past_interface d appliances i dir j)) (sym middle) ∙ sym told ∙ sym p.told)
          ∙ next_at-turned h k mid.place new onward (p.place ∙ ap (comes_to mid.place) (sym p.told)) header;
      conns = leaves.0;
      nats = leaves.1;
    }

-- the new moment without what is left
abbrev without_left : Box5 → BoxMoment → BoxMoment → BoxMoment
without_left body mid new = record { place = new.place; header = new.header; conns = record { items = map (entry_over body) mid.conns.items }; nats = new.nats }

pub moment-passed : (d : Description) (label : Label) (i : EniNo) (dir : Dir) (mid new : BoxMoment) (x : Part Onward) (onward : Onward) → IsBoxMoment d label mid → IsWithin x.body mid.header.part
    → is_sound d new.place ≡ true → HasPassed d label i dir x mid new onward → IsBoxMoment d label new
moment-passed d label i dir mid new x onward moment within sound p =
    let row = interface_at d i in
    let before = without_left x.body mid new in
    let m : IsBoxMoment d label before = moment-over d label x.body mid before moment within (record { conns = refl; nats = p.nats }) sound p.header in
    let open_of = λ (e : ImageEntry). IsOpenOver (addresses_in d) new.header.part e.header in
    record {
      sound = sound;
      valid = m.valid;
      kind = m.kind;
      conns = subst (All open_of) (sym p.conns)
          (All-append open_of (map (entry_over x.body) mid.conns.items) (left_at d label i dir new) m.conns
          (left-opens label (addresses_in d) row.groups (record { eni = i; dir = dir; header = new.header }) new.header.part new.header refl refl m.valid m.kind));
      nats = m.nats;
      apart = m.apart;
    }

memory-passed : (d : Description) (label : Label) (i : EniNo) (dir : Dir) (old mid new : BoxMoment) (x : Part Onward) (onward : Onward) → old.place ≡ passed_at dir i → IsNarrowed mid.header.part old mid
    → HasPassed d label i dir x mid new onward → RemembersMore old new
memory-passed d label i dir old mid new x onward at n p =
    let row = interface_at d i in
    let before = without_left x.body mid new in
    let left : List ImageEntry = left_at d label i dir new in
    let kept = kept_if_narrowed mid.header.part old mid n in
    let later : IsKept x.body mid before = record { conns = refl; nats = p.nats } in
    record {
      conns = let few = left-few label row.groups (record { eni = i; dir = dir; header = new.header }) in
          let all = ap (λ (es : List ImageEntry). length es) p.conns ∙ length-append (map (entry_over x.body) mid.conns.items) left in
          let first = conns-kept x.body mid before later in let second = conns-kept mid.header.part old mid kept in omega arith;
      nats = let first = nats-kept x.body mid before later in let second = nats-kept mid.header.part old mid kept in omega arith;
      known = λ q has. ⊎_elim
          (λ (is : remembers before q ≡ true). inl (sym (remembers-kept mid.header.part old mid q kept) ∙ sym (remembers-kept x.body mid before q later) ∙ is))
          (λ same. inr (subst (λ (here : Place). same_place here q ≡ true) (sym at) same))
          (known-before q has);
    }
  where
    known-before : (q : Place) → remembers new q ≡ true → (remembers (without_left x.body mid new) q ≡ true) ⊎ (same_place (passed_at dir i) q ≡ true)
    known-before q has =
        by_memory (λ r. remembers new r ≡ true → (remembers (without_left x.body mid new) r ≡ true) ⊎ (same_place (passed_at dir i) r ≡ true))
        (λ j known. let row = interface_at d i in more-known label row.groups i j dir dirs.Outward new.header (map (entry_over x.body) mid.conns.items) new.conns.items p.conns known)
        (λ j known. let row = interface_at d i in more-known label row.groups i j dir dirs.Inward new.header (map (entry_over x.body) mid.conns.items) new.conns.items p.conns known)
        (λ n known. inl known) (λ r rest known. absurd (nothing-left new r rest known)) q has

pub passed_step : (d : Description) (appliances : Appliances) (label : Label) (i : EniNo) (dir : Dir) (old mid new : BoxMoment) (told : Option Stop) (x : Part Onward) (onward : Onward) → IsAccepted d
    → old.place ≡ passed_at dir i → IsBoxMoment d label old → CanRemember label old → told ≡ None
    → TellsOf (AtPlace d (places.OutOf i)) (barrier d label i dir) old mid told
    → Answers (Standing d) (λ h. onward_of (past_interface d appliances i dir (header_at mid.header h))) mid.header.part x
    → HasPassed d label i dir x mid new onward → IsStepOn d appliances label old new onward
passed_step d appliances label i dir old mid new told x onward accepted at moment room is k l p =
    let over : new.header.part ≡ x.body = ap (λ (j : Image). j.part) p.header in
    let place : new.place ≡ comes_to old.place onward = p.place ∙ ap (λ (q : Place). comes_to q x.told) k.narrowed.place ∙ ap (comes_to old.place) (sym p.told) in
    let to : (h : Header) → holds h x.body ≡ true → IsStepTo (step_of d appliances label (moment_at h old)) h new onward
    = λ h held. passed_to d appliances label i dir (step_of d appliances label (moment_at h old)) h old mid new x onward
    (fresh_at label old i dir at room) k.narrowed p
    (step_told d appliances label i dir (moment_at h old) None at (sym is ∙ k.answers.told h (within_holds x.body mid.header.part h l.body.within held)))
    (l.told h held) in
    let low : holds (low_of x.body) x.body ≡ true = holds_low x.body (valid_if_within x.body mid.header.part l.body.within) in
    let sound = place-sound d appliances label (low_of x.body) old new onward accepted moment.sound place (to (low_of x.body) low) in
    let middle = moment-narrowed d label mid.header.part old mid moment k.answers.body.within k.narrowed in
    record {
      step = λ h held. to h (subst (λ (b : Box5). holds h b ≡ true) over held);
      place = place;
      body = subst (λ (b : Box5). IsBody b old.header.part) (sym over) (body_through x.body mid.header.part old.header.part l.body k.answers.body);
      aligned = λ cuts enough. let here = at_interface d i dir old.place cuts at enough in
          subst (λ (b : Box5). IsAligned cuts b old.header.part) (sym over)
          (aligned_through cuts x.body mid.header.part old.header.part (l.aligned cuts (standing_at_place d (places.OutOf i) cuts here)) (k.answers.aligned cuts here));
      moment = moment-passed d label i dir mid new x onward middle l.body.within sound p;
      memory = memory-passed d label i dir old mid new x onward at k.narrowed p;
    }
