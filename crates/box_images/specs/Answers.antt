-- Answers that hold for all headers of a body.
use Rattle.std.specs.Prelude.{◌≡◌, IfSome, Option, option_map, true}
use Rattle.vpc_base.specs.Cuts.{CutLists}
use Rattle.vpc_base.specs.declared.headers.Header.{Header}
use Rattle.header_boxes.specs.Boxes.{holds}
use Rattle.header_boxes.specs.Cells.{IsAligned}
use Rattle.header_boxes.specs.declared.boxes.Box5.{Box5}
use Rattle.box_images.specs.Bodies.{IsBody}
use Rattle.box_images.specs.Images.{IsValidImage, header_at}
use Rattle.box_images.specs.declared.images.Image.{Image}
use Rattle.box_images.specs.declared.images.Part.{Part}

-- for each header of the body, a body of the part, the answer is what is told; and the body is aligned to all cuts that
-- divide enough, which are those at which the answer may turn
pub record Answers {T : Type 0} (divide_enough : CutLists → Type 0) (answer : Header → T) (part : Box5) (x : Part T) : Type 0 where
  pub told : (h : Header) → holds h x.body ≡ true → x.told ≡ answer h
  pub body : IsBody x.body part
  pub aligned : (cuts : CutLists) → divide_enough cuts → IsAligned cuts x.body part

-- an answer that is a header, if there is one: for each header of the body it is that of the image which is told, a valid one
-- over the body; and the body is aligned to all cuts that divide enough
pub record AnswersImage (divide_enough : CutLists → Type 0) (answer : Header → Option Header) (part : Box5) (x : Part (Option Image)) : Type 0 where
  pub told : (h : Header) → holds h x.body ≡ true → option_map (λ i. header_at i h) x.told ≡ answer h
  pub body : IsBody x.body part
  pub aligned : (cuts : CutLists) → divide_enough cuts → IsAligned cuts x.body part
  pub valid : IfSome x.told IsValidImage
  pub over : IfSome x.told (λ i. i.part ≡ x.body)

-- for each header of the body, an aligned one, what is left to ask is another question
pub record Reduces {T : Type 0} (divide_enough : CutLists → Type 0) (whole rest : Header → T) (part body : Box5) : Type 0 where
  pub same : (h : Header) → holds h body ≡ true → whole h ≡ rest h
  pub inside : IsBody body part
  pub aligned : (cuts : CutLists) → divide_enough cuts → IsAligned cuts body part
