-- Steps that leave what is remembered as it is, with whatever header comes next.
use Rattle.std.proofs.Common.{◌≡◌, ◌∙◌, List, ap, inl, inr, subst, sym, true, ℕ}
use Rattle.vpc_base.specs.Cuts.{CutLists}
use Rattle.vpc_base.specs.declared.headers.Label.TheVariants as labels
use Rattle.header_boxes.proofs.Held.{holds_low, valid_if_within}
use Rattle.header_boxes.specs.Terms.{IsAligned, holds, low_of}
use Rattle.box_images.specs.Terms.{IsBody, IsImageOfWalk, IsValidImage, KeepsKind}
use Rattle.box_images.specs.declared.images.Image.{Image}
use Rattle.vpc_laws.specs.Types.{Box5, Description, Header, Label}
use Rattle.vpc_model.specs.Terms.{Appliances, IsAccepted, Next, Step, addresses_in, plain, step_of}
use Rattle.box_steps.proofs.Narrowing.{IsKept, connections_at-kept, moment-kept, remembers_more-kept, translations_at-kept}
use Rattle.box_steps.proofs.Turning.{place-sound}
use Rattle.box_steps.specs.Terms.{AtPlace, BoxMoment, IsBoxMoment, IsImageOf, IsStepOn, IsStepTo, Onward, comes_to, moment_at, next_at}

-- the header of a moment is the image of a walk
pub walk_of_kind : (label : Label) (addresses : List ℕ) (i : Image) → IsImageOf label addresses i → IsImageOfWalk i
walk_of_kind labels.Opening addresses i k = (addresses, inl k)
walk_of_kind labels.Answer addresses i k = (addresses, inr k)

-- of the same kind, whatever the label
pub kind_keeps : (label : Label) (addresses : List ℕ) (i j : Image) → KeepsKind addresses i j → IsImageOf label addresses i → IsImageOf label addresses j
kind_keeps labels.Opening addresses i j keeps k = keeps.of_open k
kind_keeps labels.Answer addresses i j keeps k = keeps.of_answer k

-- the packets of a body with a new header, and what comes next of each
pub record IsRewritten (d : Description) (label : Label) (body : Box5) (after : Header → Next) (old new : BoxMoment) (onward : Onward) : Type 0 where
  pub kept : IsKept body old new
  pub over : new.header.part ≡ body
  pub valid : IsValidImage new.header
  pub kind : IsImageOf label (addresses_in d) new.header
  pub place : new.place ≡ comes_to old.place onward
  pub next : (h : Header) → holds h body ≡ true → after h ≡ next_at h new onward

pub step_if_rewritten : (d : Description) (appliances : Appliances) (label : Label) (body : Box5) (next : Header → Next) (old new : BoxMoment) (onward : Onward) → IsAccepted d
    → IsBoxMoment d label old → ((h : Header) → step_of d appliances label (moment_at h old) ≡ plain (moment_at h old) (next h))
    → IsBody body old.header.part → ((cuts : CutLists) → AtPlace d old.place cuts → IsAligned cuts body old.header.part)
    → IsRewritten d label body next old new onward → IsStepOn d appliances label old new onward
step_if_rewritten d appliances label body next old new onward accepted k steps inside aligned r =
    let low = low_of body in
    let held = holds_low body (valid_if_within body old.header.part inside.within) in
    let step : (h : Header) → holds h body ≡ true → IsStepTo (step_of d appliances label (moment_at h old)) h new onward
    = λ h in_body. record {
      next = ap (λ (s : Step). s.next) (steps h) ∙ r.next h in_body;
      conns = ap (λ (s : Step). s.conns) (steps h) ∙ sym (connections_at-kept h body old new r.kept);
      nats = ap (λ (s : Step). s.nats) (steps h) ∙ sym (translations_at-kept h body old new r.kept);
    } in
    let sound = place-sound d appliances label low old new onward accepted k.sound r.place (step low held) in
    record {
      step = λ h in_new. step h (subst (λ (b : Box5). holds h b ≡ true) r.over in_new);
      place = r.place;
      body = subst (λ (b : Box5). IsBody b old.header.part) (sym r.over) inside;
      aligned = λ cuts at. subst (λ (b : Box5). IsAligned cuts b old.header.part) (sym r.over) (aligned cuts at);
      moment = moment-kept d label body old new k inside.within r.kept sound r.over r.valid r.kind;
      memory = remembers_more-kept body old new r.kept;
    }
