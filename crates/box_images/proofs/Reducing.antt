-- Questions that are answered one part after the other.
use Rattle.std.proofs.Common.{ℕ, List, ◌≡◌, true, refl, sym, ◌∙◌, inl, inr, ⊎_elim}
use Rattle.vpc_base.specs.Cuts.{CutLists}
use Rattle.vpc_base.specs.declared.headers.Header.{Header}
use Rattle.header_boxes.proofs.BoxLaws.{within_holds}
use Rattle.header_boxes.proofs.CellNumbers.{aligned_by_low, aligned_through}
use Rattle.header_boxes.specs.Boxes.{IsValid, holds}
use Rattle.header_boxes.specs.declared.boxes.Box5.{Box5}
use Rattle.box_images.proofs.BodyLemmas.{body_of_itself, body_through}
use Rattle.box_images.specs.Answers.{Answers, Reduces}
use Rattle.box_images.specs.Images.{IsImageOfWalk, KeepsKind}
use Rattle.box_images.specs.declared.images.Image.{Image}
use Rattle.box_images.specs.declared.images.Part.{Part}

-- nothing was asked yet
pub reduced_nothing : {T : Type 0} (enough : CutLists → Type 0) (whole : Header → T) (part : Box5) → IsValid part → Reduces enough whole whole part part
reduced_nothing {T} enough whole part v = record {
  same = λ h i. refl;
  inside = body_of_itself part v;
  aligned = λ cuts e. aligned_by_low cuts part part refl (record { proto = inl refl; src = inl refl; dst = inl refl; p = inl refl; q = inl refl });
}

-- a test was answered, after which the rest is another one
pub reduced_by : {S T : Type 0} (enough : CutLists → Type 0) (whole rest next : Header → T) (part body : Box5) (test : Header → S) (x : Part S) (v : S)
    → x.told ≡ v → ((h : Header) → test h ≡ v → rest h ≡ next h)
    → Reduces enough whole rest part body → Answers enough test body x → Reduces enough whole next part x.body
reduced_by {S} {T} enough whole rest next part body test x v e leads r k = record {
  same = λ h i. r.same h (within_holds x.body body h k.body.within i) ∙ leads h (sym (k.told h i) ∙ e);
  inside = body_through x.body body part k.body r.inside;
  aligned = λ cuts d. aligned_through cuts x.body body part (k.aligned cuts d) (r.aligned cuts d);
}

-- the same question in other words
pub reduced_same : {T : Type 0} (enough : CutLists → Type 0) (whole rest next : Header → T) (part body : Box5) → ((h : Header) → holds h body ≡ true → rest h ≡ next h)
    → Reduces enough whole rest part body → Reduces enough whole next part body
reduced_same {T} enough whole rest next part body same r = record { same = λ h i. r.same h i ∙ same h i; inside = r.inside; aligned = r.aligned }

-- what is left is answered
pub reduced_to : {T : Type 0} (enough : CutLists → Type 0) (whole rest : Header → T) (part body : Box5) (x : Part T)
    → Reduces enough whole rest part body → Answers enough rest body x → Answers enough whole part x
reduced_to {T} enough whole rest part body x r k = record {
  told = λ h i. k.told h i ∙ sym (r.same h (within_holds x.body body h k.body.within i));
  body = body_through x.body body part k.body r.inside;
  aligned = λ cuts d. aligned_through cuts x.body body part (k.aligned cuts d) (r.aligned cuts d);
}

-- what is left is the same of all headers
pub reduced_all : {T : Type 0} (enough : CutLists → Type 0) (whole rest : Header → T) (part body : Box5) (told : T)
    → ((h : Header) → holds h body ≡ true → rest h ≡ told)
    → Reduces enough whole rest part body → Answers enough whole part (record { body = body; told = told })
reduced_all {T} enough whole rest part body told all r = record { told = λ h i. sym (all h i) ∙ sym (r.same h i); body = r.inside; aligned = r.aligned }

-- a part of an image of a walk is one
pub walk_within : (i j : Image) → IsImageOfWalk i → ((addresses : List ℕ) → KeepsKind addresses i j) → IsImageOfWalk j
walk_within i j (addresses, kind) keeps =
    (addresses, ⊎_elim (λ o. inl ((keeps addresses).of_open o)) (λ a. inr ((keeps addresses).of_answer a)) kind)
