-- The edges of rules and boxes are cuts of theirs.
use Rattle.std.proofs.Common.{ℕ, ◌+◌, ◌++◌, [], Option, Some, inl, inr, refl, arith}
use Rattle.std.specs.List.{Contains}
use Rattle.std.specs.Prelude.{nat_le}
use Rattle.std.proofs.lemmas.Bool.Decides.{nat_tests}
use Rattle.std.proofs.lemmas.List.Elements.{Contains-append_left, Contains-append_right}
use Rattle.vpc_base.specs.Cuts.{CutLists}
use Rattle.vpc_base.proofs.Members.{Contains-filter}
use Rattle.box_images.specs.Bodies.{IsCut}
use Rattle.box_images.specs.Fields.{side_of}
use Rattle.box_images.specs.Images.{IsImageOfWalk, field_of}
use Rattle.box_images.specs.declared.fields.Side.{Side}
use Rattle.box_images.specs.declared.fields.Side.TheVariants.{Proto, Src, Dst, P, Q}
use Rattle.box_images.specs.declared.images.Image.{Image}
use Rattle.header_boxes.specs.declared.boxes.Box5.{Box5}
use Rattle.prefix_text.specs.Block.{Block, last_of}
use Rattle.vpc_model.specs.Cuts.{cuts_of_box, cuts_of_rule, edges}
use Rattle.cut_laws.specs.Dividing.{Divide}
use Rattle.image_tests.proofs.Answering.{EdgesAreCut}
use Rattle.image_tests.proofs.Fields.{address_field, address_is_cut, p_field, port_is_cut, proto_field, proto_is_cut, q_field}
use Rattle.image_tests.specs.Tests.{IsAddressSide, cuts_of_block, cuts_of_proto, cuts_of_range}

pub first_edge : (from to : ℕ) → Contains (edges from to) from
first_edge from to = (0, omega arith, refl)

pub last_edge : (from to : ℕ) → Contains (edges from to) (to + 1)
last_edge from to = (1, omega arith, refl)

-- ---- a cut among those that divide, on each side

proto_cut : (cuts few : CutLists) (i : Image) (v : ℕ) → IsImageOfWalk i → Contains few.proto v → Divide few cuts → IsCut cuts 255 i.proto v
proto_cut cuts few i v w has divide =
    proto_is_cut cuts i.proto v (proto_field i w) (λ le. divide.proto v (Contains-filter (λ n. nat_le n 255) few.proto v has (grind (arith, nat_tests))))

address_cut : (cuts few : CutLists) (i : Image) (s : Side) (v : ℕ) → IsImageOfWalk i → IsAddressSide s → Contains few.addr v → Divide few cuts
    → IsCut cuts 4294967295 (field_of i s) v
address_cut cuts few i s v w k has divide =
    address_is_cut cuts (field_of i s) v (address_field i s w k)
    (λ le. divide.addr v (Contains-filter (λ n. nat_le n 4294967295) few.addr v has (grind (arith, nat_tests))))

-- ---- rules

pub proto_edges : (i : Image) (n : ℕ) → IsImageOfWalk i → EdgesAreCut (Divide (cuts_of_proto (Some n))) i Proto n n
proto_edges i n w cuts divide = (
  proto_cut cuts (cuts_of_proto (Some n)) i n w (first_edge n n) divide,
  proto_cut cuts (cuts_of_proto (Some n)) i (n + 1) w (last_edge n n) divide,
)

pub range_edges : (i : Image) (from to : ℕ) → IsImageOfWalk i → EdgesAreCut (Divide (cuts_of_range from to)) i Q from to
range_edges i from to w cuts divide = (
  port_is_cut cuts (cuts_of_range from to) (edges from to) i.q from (q_field i w) refl refl (first_edge from to) divide,
  port_is_cut cuts (cuts_of_range from to) (edges from to) i.q (to + 1) (q_field i w) refl refl (last_edge from to) divide,
)

pub block_edges : (i : Image) (s : Side) (b : Block) → IsImageOfWalk i → IsAddressSide s
    → (cuts : CutLists) → Divide (cuts_of_block b) cuts
    → IsCut cuts 4294967295 (field_of i s) b.first × IsCut cuts 4294967295 (field_of i s) (last_of b + 1)
block_edges i s b w k cuts divide = (
  address_cut cuts (cuts_of_block b) i s b.first w k (0, omega arith, refl) divide,
  address_cut cuts (cuts_of_block b) i s (last_of b + 1) w k (1, omega arith, refl) divide,
)

-- the parts of a rule's cuts
pub proto_of_rule : (proto : Option ℕ) (from to : ℕ) (cuts : CutLists) → Divide (cuts_of_rule proto from to []) cuts → Divide (cuts_of_proto proto) cuts
proto_of_rule proto from to cuts divide = record {
  proto = divide.proto;
  addr = λ c (k, below, e). absurd (omega arith);
  p = λ c (k, below, e). absurd (omega arith);
  q = λ c (k, below, e). absurd (omega arith);
}

pub range_of_rule : (proto : Option ℕ) (from to : ℕ) (cuts : CutLists) → Divide (cuts_of_rule proto from to []) cuts → Divide (cuts_of_range from to) cuts
range_of_rule proto from to cuts divide = record {
  proto = λ c (k, below, e). absurd (omega arith);
  addr = λ c (k, below, e). absurd (omega arith);
  p = divide.p;
  q = divide.q;
}

-- ---- boxes

pub box_edges : (i : Image) (b : Box5) (s : Side) → IsImageOfWalk i → EdgesAreCut (Divide (cuts_of_box b)) i s (side_of b s).0 (side_of b s).1
box_edges i b Proto w cuts divide = (
  proto_cut cuts (cuts_of_box b) i b.proto.0 w (first_edge b.proto.0 b.proto.1) divide,
  proto_cut cuts (cuts_of_box b) i (b.proto.1 + 1) w (last_edge b.proto.0 b.proto.1) divide,
)
box_edges i b Src w cuts divide =
    let first = Contains-append_left (edges b.src.0 b.src.1) (edges b.dst.0 b.dst.1) in (
      address_cut cuts (cuts_of_box b) i Src b.src.0 w (inl refl) (first b.src.0 (first_edge b.src.0 b.src.1)) divide,
      address_cut cuts (cuts_of_box b) i Src (b.src.1 + 1) w (inl refl) (first (b.src.1 + 1) (last_edge b.src.0 b.src.1)) divide,
    )
box_edges i b Dst w cuts divide =
    let second = Contains-append_right (edges b.src.0 b.src.1) (edges b.dst.0 b.dst.1) in (
      address_cut cuts (cuts_of_box b) i Dst b.dst.0 w (inr refl) (second b.dst.0 (first_edge b.dst.0 b.dst.1)) divide,
      address_cut cuts (cuts_of_box b) i Dst (b.dst.1 + 1) w (inr refl) (second (b.dst.1 + 1) (last_edge b.dst.0 b.dst.1)) divide,
    )
box_edges i b P w cuts divide =
    let es = edges b.p.0 b.p.1 ++ edges b.q.0 b.q.1 in
    let first = Contains-append_left (edges b.p.0 b.p.1) (edges b.q.0 b.q.1) in (
      port_is_cut cuts (cuts_of_box b) es i.p b.p.0 (p_field i w) refl refl (first b.p.0 (first_edge b.p.0 b.p.1)) divide,
      port_is_cut cuts (cuts_of_box b) es i.p (b.p.1 + 1) (p_field i w) refl refl (first (b.p.1 + 1) (last_edge b.p.0 b.p.1)) divide,
    )
box_edges i b Q w cuts divide =
    let es = edges b.p.0 b.p.1 ++ edges b.q.0 b.q.1 in
    let second = Contains-append_right (edges b.p.0 b.p.1) (edges b.q.0 b.q.1) in (
      port_is_cut cuts (cuts_of_box b) es i.q b.q.0 (q_field i w) refl refl (second b.q.0 (first_edge b.q.0 b.q.1)) divide,
      port_is_cut cuts (cuts_of_box b) es i.q (b.q.1 + 1) (q_field i w) refl refl (second (b.q.1 + 1) (last_edge b.q.0 b.q.1)) divide,
    )
