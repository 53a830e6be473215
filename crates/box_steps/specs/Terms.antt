-- The definitions that longer pages take, from one place.
pub use Rattle.box_images.specs.Answers.{Answers}
pub use Rattle.box_images.specs.Bodies.{IsBody}
pub use Rattle.box_images.specs.Images.{IsImageOfOpen, IsValidImage, KeepsKind, header_at}
pub use Rattle.box_images.specs.declared.images.Image.{Image}
pub use Rattle.box_images.specs.declared.images.Part.{Part}
pub use Rattle.box_steps.specs.Cuts.{AtPlace, Standing}
pub use Rattle.box_steps.specs.Hosts.{DivideAddress, DivideBlocks, DivideOwn, own_address}
pub use Rattle.box_steps.specs.Missing.{HoldsOver, is_away, is_elsewhere, misses, misses_at}
pub use Rattle.box_steps.specs.Moments.{AreApart, CanRemember, IsBoxMoment, IsImageOf, IsLetIn, IsNarrowed, IsOpenOver, IsRewritten, IsStepOn, IsStepTo, IsTranslatedOver, IsTurned, RemembersMore, comes_to, entry_over, has_conn, has_left, has_nat, image_over, moment_at, nat_over, next_at, remembers, translation_at, translations_at}
pub use Rattle.box_steps.specs.Onward.{after_carry, onward_of}
pub use Rattle.box_steps.specs.Passing.{HasPassed, TellsOf, barrier, check_stop, checked_barrier, entries_left, groups_barrier, groups_stop, is_passed, left_at, passed_at, passes_groups, past_interface}
pub use Rattle.box_steps.specs.Publics.{own_in}
pub use Rattle.box_steps.specs.declared.moment.BoxMoment.{BoxMoment}
pub use Rattle.box_steps.specs.declared.moment.ImageNat.{ImageNat}
pub use Rattle.box_steps.specs.declared.onward.Onward.{Onward}
pub use Rattle.conn_tracking.specs.OnImages.{connections_at}
pub use Rattle.conn_tracking.specs.declared.on_images.ImageEntry.{ImageEntry}
pub use Rattle.cut_laws.specs.Dividing.{CutOut}
pub use Rattle.edge_gateways.specs.Edges.{AreEdgesOf, EdgeLists, owner_in, public_in}
pub use Rattle.header_boxes.specs.Boxes.{holds, low_of}
pub use Rattle.header_boxes.specs.Cells.{IsAligned}
pub use Rattle.nat_gateway.specs.OnImages.{GivesSent, HasNone, IsSentFirst, from_gateway, sent_first}
