-- Boxes that are asked one after the other, of all headers of an image.
use Rattle.std.proofs.Common.{◌≡◌, ◌<◌, ◌+◌, ◌∷◌, Bool, List, true, false, ◌∙◌, ap, get_or, length, refl, subst, sym, ℕ}
use Rattle.std.proofs.lemmas.List.{get_or_default}
use Rattle.std.specs.List.{Contains}
use Rattle.vpc_base.specs.Cuts.{CutLists}
use Rattle.vpc_base.specs.declared.headers.Header.{Header}
use Rattle.vpc_base.proofs.Members.{member-list_any}
use Rattle.header_boxes.specs.Boxes.{holds, low_of}
use Rattle.header_boxes.specs.declared.boxes.Box5.{Box5}
use Rattle.box_images.specs.Answers.{Answers}
use Rattle.box_images.specs.Images.{IsValidImage, KeepsKind, header_at}
use Rattle.box_images.specs.declared.images.Image.{Image}
use Rattle.box_images.specs.declared.images.Part.{Part}
use Rattle.box_images.proofs.BodyLemmas.{low_in_body}
use Rattle.cut_laws.proofs.Among.{among_through, on_sides_among, row_among}
use Rattle.cut_laws.specs.Dividing.{Divide}
use Rattle.image_tests.proofs.Answering.{answers_more, answers_same}
use Rattle.image_tests.proofs.Trying.{IsTrying, header_of_rest, trying_next}
use Rattle.vpc_model.specs.Appliances.{passes}
use Rattle.vpc_model.specs.Cuts.{all_cuts, cuts_of_box, on_sides}

abbrev pub divide_boxes : List Box5 → CutLists → Type 0
divide_boxes boxes cuts = Divide (all_cuts cuts_of_box boxes) cuts

abbrev pub any_holds : Image → List Box5 → Header → Bool
any_holds i boxes h = passes boxes (header_at i h)

abbrev pub box_test : Image → Box5 → Header → Bool
box_test i b h = holds (header_at i h) b

pub not_held_yet : (i : Image) (b : Box5) (boxes : List Box5) (h : Header) → holds (header_at i h) b ≡ false → any_holds i (b ∷ boxes) h ≡ any_holds i boxes h
not_held_yet i b boxes h fails = rw fails refl

-- where the sides of all boxes are cuts, those of each are; and what is left of the image has the same headers
pub answer_of_box : (boxes : List Box5) (i rest : Image) (b : Box5) (x : Part Bool) → Contains boxes b → rest ≡ record i { part = rest.part }
    → Answers (Divide (cuts_of_box b)) (λ h. holds (header_at rest h) b) rest.part x
    → Answers (divide_boxes boxes) (box_test i b) rest.part x
answer_of_box boxes i rest b x has e k =
    answers_more (Divide (cuts_of_box b)) (divide_boxes boxes) (box_test i b) rest.part x
    (λ cuts d. among_through (on_sides (cuts_of_box b)) (on_sides (all_cuts cuts_of_box boxes)) cuts
    (on_sides_among (cuts_of_box b) (all_cuts cuts_of_box boxes) (row_among cuts_of_box boxes b has)) d)
    (answers_same (Divide (cuts_of_box b)) (λ h. holds (header_at rest h) b) (box_test i b) rest.part x
    (λ h. ap (λ g. holds g b) (header_of_rest i rest h e)) k)

answer_at : (boxes : List Box5) (i rest : Image) (k : ℕ) (d : Box5) (x : Part Bool) → k < length boxes
    → IsTrying (divide_boxes boxes) (any_holds i boxes) (any_holds i) boxes i k rest
    → Answers (Divide (cuts_of_box (get_or boxes k d))) (λ h. holds (header_at rest h) (get_or boxes k d)) rest.part x
    → Answers (divide_boxes boxes) (box_test i (get_or boxes k d)) rest.part x
answer_at boxes i rest k d x below t a =
    answer_of_box boxes i rest (get_or boxes k d) x (k, below, sym (get_or_default boxes k d (get_or boxes k d) below)) t.image a

-- a box that doesn't have the low corner is left behind
pub box_left : (boxes : List Box5) (i rest next : Image) (k : ℕ) (d : Box5) (x : Part Bool) → k < length boxes → x.told ≡ false
    → next ≡ record rest { part = x.body } → IsValidImage next → ((addresses : List ℕ) → KeepsKind addresses rest next)
    → IsTrying (divide_boxes boxes) (any_holds i boxes) (any_holds i) boxes i k rest
    → Answers (Divide (cuts_of_box (get_or boxes k d))) (λ h. holds (header_at rest h) (get_or boxes k d)) rest.part x
    → IsTrying (divide_boxes boxes) (any_holds i boxes) (any_holds i) boxes i (k + 1) next
box_left boxes i rest next k d x below fails image valid keeps t a =
    trying_next (divide_boxes boxes) (any_holds i boxes) (any_holds i) (box_test i) (not_held_yet i) boxes i k rest (get_or boxes k d) x next
    below (get_or_default boxes k d (get_or boxes k d) below) fails image valid keeps t (answer_at boxes i rest k d x below t a)

-- one that has it decides, for all headers of the image that it has
pub box_decides : (boxes : List Box5) (i rest : Image) (k : ℕ) (d : Box5) (x y : Part Bool) → k < length boxes → x.told ≡ true
    → IsTrying (divide_boxes boxes) (any_holds i boxes) (any_holds i) boxes i k rest
    → Answers (Divide (cuts_of_box (get_or boxes k d))) (λ h. holds (header_at rest h) (get_or boxes k d)) rest.part x
    → Answers (Divide (cuts_of_box (get_or boxes k d))) (λ h. holds (header_at i h) (get_or boxes k d)) i.part y
    → Answers (divide_boxes boxes) (any_holds i boxes) i.part y
box_decides boxes i rest k d x y below passes t a again = record {
  told = λ h held. yes ∙ sym (member-list_any (holds (header_at i h)) boxes b has (sym (again.told h held) ∙ yes));
  body = again.body;
  aligned = (answer_of_box boxes i i b y has refl again).aligned;
}
  where
    b : Box5
    b = get_or boxes k d

    low : Header
    low = low_of i.part

    has : Contains boxes b
    has = (k, below, sym (get_or_default boxes k d b below))

    of_rest : holds (header_at rest low) b ≡ true
    of_rest = sym (a.told low (subst (λ (l : Header). holds l x.body ≡ true) t.reduced.inside.low (low_in_body x.body rest.part a.body))) ∙ passes

    yes : y.told ≡ true
    yes = again.told low (low_in_body y.body i.part again.body) ∙ (ap (λ (g : Header). holds g b) (sym (header_of_rest i rest low t.image)) ∙ of_rest)
