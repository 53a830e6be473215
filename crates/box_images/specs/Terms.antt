-- The definitions that longer pages take, from one place.
pub use Rattle.box_images.specs.Answers.{Answers, AnswersImage}
pub use Rattle.box_images.specs.Bodies.{AreCutInside, Edges, EndsAtEdges, IsBody, IsCut, IsCutInside, IsEdge, cuts_on, range_edges, shift_edges}
pub use Rattle.box_images.specs.Fields.{AreComparable, greatest_of, greatest_on, number_of, side_of, value_of}
pub use Rattle.box_images.specs.Images.{CanCompare, IsAddress, IsImageOfAnswer, IsImageOfEchoReply, IsImageOfOpen, IsImageOfReturn, IsImageOfWalk, IsPort, IsValidImage, KeepsKind, field_of, header_at, shifted}
pub use Rattle.box_images.specs.Laws.{AlignedBodiesCompose, AnswersCompare, BodiesAreAligned, CutsAreInside, EndsCompose, ImagesFit, NarrowedAreAligned, OpensCompare}
pub use Rattle.box_images.specs.declared.fields.Field.{Field}
pub use Rattle.box_images.specs.declared.fields.Side.{Side}
pub use Rattle.box_images.specs.declared.images.Image.{Image}
pub use Rattle.box_images.specs.declared.images.Part.{Part}
