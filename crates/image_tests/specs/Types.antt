-- The types of images of boxes, from one place.
pub use Rattle.address_sets.specs.declared.sets.Run.{Run}
pub use Rattle.box_images.specs.declared.fields.Field.{Field}
pub use Rattle.box_images.specs.declared.fields.Side.{Side}
pub use Rattle.box_images.specs.declared.images.Image.{Image}
pub use Rattle.box_images.specs.declared.images.Part.{Part}
pub use Rattle.header_boxes.specs.declared.boxes.Box5.{Box5}
pub use Rattle.number_tables.specs.declared.tables.Entry.{Entry}
