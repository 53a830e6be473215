-- Tests of headers, and the cuts that each needs.
use Rattle.std.specs.Prelude.{◌≡◌, ◌⊎◌, ◌&&◌, Bool, Option, true, ℕ}
use Rattle.vpc_base.specs.Cuts.{CutLists, no_cuts}
use Rattle.vpc_base.specs.declared.headers.Header.{Header}
use Rattle.header_boxes.specs.Boxes.{holds as holds_header, in_range}
use Rattle.header_boxes.specs.declared.boxes.Box5.{Box5}
use Rattle.box_images.specs.Bodies.{EndsAtEdges, IsBody, range_edges}
use Rattle.box_images.specs.Fields.{number_of, side_of}
use Rattle.box_images.specs.Images.{field_of, header_at}
use Rattle.box_images.specs.declared.images.Image.{Image}
use Rattle.box_images.specs.declared.images.Part.{Part}
use Rattle.box_images.specs.declared.fields.Side.{Side}
use Rattle.box_images.specs.declared.fields.Side.TheVariants.{Dst, Src}
use Rattle.prefix_text.specs.Block.{Block}
use Rattle.vpc_model.specs.Cuts.{block_cuts, cuts_of_blocks, edges, proto_cuts, shifted_edges}
use Rattle.vpc_model.specs.Filter.{is_between, matches_proto}

-- a side on which an address stands
abbrev pub IsAddressSide : Side → Type 0
IsAddressSide s = (s ≡ Src) ⊎ (s ≡ Dst)

-- it is told whether the image's number on the side lies between the two; a body ends where the part does, or at one of them
pub record TellsSide (i : Image) (s : Side) (from to : ℕ) (x : Part Bool) : Type 0 where
  pub told : (h : Header) → holds_header h x.body ≡ true → x.told ≡ is_between from to (number_of (header_at i h) s)
  pub body : IsBody x.body i.part
  pub ends : EndsAtEdges (range_edges (field_of i s) from to) x.body i.part

-- the cuts of a rule's protocol
abbrev pub cuts_of_proto : Option ℕ → CutLists
cuts_of_proto proto = record no_cuts { proto = proto_cuts proto }

-- the cuts of a rule's range of ports
abbrev pub cuts_of_range : ℕ → ℕ → CutLists
cuts_of_range from to = record no_cuts { p = shifted_edges (edges from to); q = edges from to }

-- the cuts of one block
abbrev pub cuts_of_block : Block → CutLists
cuts_of_block b = cuts_of_blocks (block_cuts b)

-- protocol and range match
abbrev pub fits_rule : Option ℕ → ℕ → ℕ → Header → Bool
fits_rule proto from to h = matches_proto proto h.proto && is_between from to h.q

-- the box has the header's number on a side
abbrev pub is_on : Side → Header → Box5 → Bool
is_on s h b = in_range (side_of b s) (number_of h s)

-- the box has p and q of the header
abbrev pub holds_ports : Header → Box5 → Bool
holds_ports h b = in_range b.p h.p && in_range b.q h.q

-- and the destination
abbrev pub holds_from_dst : Header → Box5 → Bool
holds_from_dst h b = in_range b.dst h.dst && holds_ports h b

-- and the source
abbrev pub holds_ends : Header → Box5 → Bool
holds_ends h b = in_range b.src h.src && holds_from_dst h b
