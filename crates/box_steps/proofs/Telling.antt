-- Answers made of answers to other questions.
use Rattle.std.proofs.Common.{◌≡◌, refl, subst, sym}
use Rattle.vpc_base.specs.Cuts.{CutLists}
use Rattle.vpc_base.specs.declared.headers.Header.{Header}
use Rattle.header_boxes.specs.Boxes.{IsValid}
use Rattle.header_boxes.specs.declared.boxes.Box5.{Box5}
use Rattle.box_images.proofs.Reducing.{reduced_by, reduced_nothing, reduced_to}
use Rattle.box_images.specs.Answers.{Answers}
use Rattle.box_images.specs.Images.{header_at}
use Rattle.box_images.specs.declared.images.Image.{Image}
use Rattle.box_images.specs.declared.images.Part.{Part}

-- what was told makes one answer for all headers that it was told of
pub answers_told : {S T : Type 0} (enough : CutLists → Type 0) (asked : Header → S) (whole : Header → T) (part : Box5) (x : Part S) (told : T)
    → ((h : Header) → asked h ≡ x.told → whole h ≡ told) → Answers enough asked part x → Answers enough whole part (record { body = x.body; told = told })
answers_told {S} {T} enough asked whole part x told same k = record { told = λ h i. sym (same h (sym (k.told h i))); body = k.body; aligned = k.aligned }

-- what was told is the answer
pub answers_kept : {T : Type 0} (enough : CutLists → Type 0) (asked whole : Header → T) (part : Box5) (x : Part T)
    → ((h : Header) → asked h ≡ x.told → whole h ≡ x.told) → Answers enough asked part x → Answers enough whole part x
answers_kept {T} enough asked whole part x same k = record { told = λ h i. sym (same h (sym (k.told h i))); body = k.body; aligned = k.aligned }

-- what was told leaves another question, which was asked of the image within the body
pub answers_then : {S T : Type 0} (enough : CutLists → Type 0) (asked : Header → S) (whole rest : Header → T) (i j : Image) (x : Part S) (y : Part T)
    → IsValid i.part → j ≡ record i { part = x.body }
    → ((h : Header) → asked (header_at i h) ≡ x.told → whole (header_at i h) ≡ rest (header_at i h))
    → Answers enough (λ h. asked (header_at i h)) i.part x → Answers enough (λ h. rest (header_at j h)) j.part y
    → Answers enough (λ h. whole (header_at i h)) i.part y
answers_then {S} {T} enough asked whole rest i j x y valid is leads k l =
    reduced_to enough (λ h. whole (header_at i h)) (λ h. rest (header_at i h)) i.part x.body y
    (reduced_by enough (λ h. whole (header_at i h)) (λ h. whole (header_at i h)) (λ h. rest (header_at i h)) i.part i.part (λ h. asked (header_at i h)) x x.told refl leads
    (reduced_nothing enough (λ h. whole (header_at i h)) i.part valid) k)
    (subst (λ (m : Image). Answers enough (λ h. rest (header_at m h)) m.part y) is l)
