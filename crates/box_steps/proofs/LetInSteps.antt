-- One step of packets that are taken to be let in.
use Rattle.std.proofs.Common.{None, Option, Some, ap, refl, subst, sym, true, ◌∙◌, ◌≡◌}
use Rattle.vpc_base.specs.declared.headers.Dir.TheVariants as dirs
use Rattle.vpc_base.specs.declared.headers.Label.TheVariants as labels
use Rattle.header_boxes.proofs.Lemmas.{within_itself}
use Rattle.header_boxes.specs.Terms.{IsValid, IsWithin}
use Rattle.box_images.specs.Terms.{Answers, header_at}
use Rattle.image_tests.specs.Types.{Image, Part}
use Rattle.conn_tracking.specs.OnImages.{connections_at}
use Rattle.image_tests.proofs.Answering.{answers_all}
use Rattle.vpc_laws.specs.Types.{Box5, Description, End, EniNo, Header, Stop, SubnetNo}
use Rattle.vpc_model.specs.Terms.{Appliances, Moment, Next, Passing, Step, arrive, is_sound, passing_of, step_of, stop, subnet_of}
use Rattle.vpc_model.specs.declared.places.Came.TheVariants as from
use Rattle.vpc_model.specs.declared.places.Place.TheVariants as places
use Rattle.box_steps.proofs.Narrowing.{moment-narrowed}
use Rattle.box_steps.specs.Terms.{BoxMoment, CanRemember, HasPassed, IsBoxMoment, IsLetIn, IsNarrowed, Onward, Standing, barrier, comes_to, moment_at, onward_of, past_interface, translations_at}
use Rattle.box_steps.specs.declared.onward.Onward.TheVariants as onwards
use Rattle.box_steps.proofs.StoppedSteps.{GoesPast, StepsBy, step_told}
use Rattle.box_steps.proofs.LeftBehind.{fresh_at}
use Rattle.box_steps.proofs.PassedSteps.{moment-passed, passed_leaves}

-- what arrives isn't stopped
goes_past_if_arrived : (m : Moment) (p : Passing) (past : Next) (o : Option Stop) (s : Step) (end : End) → StepsBy m p past o s → s.next ≡ arrive end → GoesPast m p past s
goes_past_if_arrived m p past None s end k e = k
goes_past_if_arrived m p past (Some x) s end k e = absurd (let no : stop x ≡ arrive end = sym (ap (λ (t : Step). t.next) k) ∙ e in cc)

pub lets_in : (d : Description) (appliances : Appliances) (i : EniNo) (old mid new : BoxMoment) (x : Part Onward) (end : End) (onward : Onward)
    → old.place ≡ places.Into i → IsBoxMoment d labels.Opening old → CanRemember labels.Opening old → x.body ≡ old.header.part → x.told ≡ onwards.Arrive end
    → IsNarrowed old.header.part old mid → HasPassed d labels.Opening i dirs.Inward x mid new onward → IsLetIn d appliances old new
lets_in d appliances i old mid new x end onward at moment room whole told n p = record {
  header = p.header ∙ ap (λ (b : Box5). record mid.header { part = b }) whole ∙ ap (λ (j : Image). record j { part = old.header.part }) n.header;
  conns = λ h ends e. (leaves h ends e).0;
  nats = λ h ends e. (leaves h ends e).1;
  moment = moment-passed d labels.Opening i dirs.Inward mid new x onward middle within sound p;
}
  where
    leaves : (h : Header) (end : End) → (let s = step_of d appliances labels.Opening (moment_at h old) in s.next ≡ arrive end)
        → (let s = step_of d appliances labels.Opening (moment_at h old) in (s.conns ≡ connections_at h new.conns.items) × (s.nats ≡ translations_at h new.nats.items))
    leaves h end e =
        let m = moment_at h old in
        let s = step_of d appliances labels.Opening m in
        let by = barrier d labels.Opening i dirs.Inward m in
        let passing = passing_of d labels.Opening i dirs.Inward m.header m.conns in
        let past = past_interface d appliances i dirs.Inward m.header in
        passed_leaves d labels.Opening i dirs.Inward s h old.header.part old mid new x onward past (fresh_at labels.Opening old i dirs.Inward at room) n p
        (goes_past_if_arrived m passing past by s end (step_told d appliances labels.Opening i dirs.Inward m by at refl) e)

    itself : IsWithin old.header.part old.header.part
    itself = within_itself old.header.part moment.valid.part

    middle : IsBoxMoment d labels.Opening mid
    middle = moment-narrowed d labels.Opening old.header.part old mid moment itself n

    within : IsWithin x.body mid.header.part
    within = subst (λ (b : Box5). IsWithin b mid.header.part) (sym whole) (subst (IsWithin old.header.part) (sym (ap (λ (j : Image). j.part) n.header)) itself)

    sound : is_sound d new.place ≡ true
    sound = ap (is_sound d) (p.place ∙ ap (comes_to mid.place) told ∙ n.place) ∙ moment.sound

-- all packets go out to one router
pub to_router : (d : Description) (appliances : Appliances) (i : EniNo) (s : SubnetNo) (m : BoxMoment) → IsValid m.header.part → s ≡ subnet_of d i
    → Answers (Standing d) (λ h. onward_of (past_interface d appliances i dirs.Outward (header_at m.header h))) m.header.part
    (record { body = m.header.part; told = onwards.Go (places.Router s (from.Host i)) })
to_router d appliances i s m valid is =
    answers_all (Standing d) (λ h. onward_of (past_interface d appliances i dirs.Outward (header_at m.header h))) m.header.part (onwards.Go (places.Router s (from.Host i))) valid
    (λ h. ap (λ (t : SubnetNo). onwards.Go (places.Router t (from.Host i))) is)
