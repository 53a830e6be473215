-- A box that holds others.
use Rattle.std.proofs.Common.{ℕ, ◌+◌, ◌<◌, ◌≤◌, List, arith, length, get_or, take}
use Rattle.std.proofs.lemmas.List.Elements.{All-more, All-weaker}
use Rattle.std.specs.List.{All}
use Rattle.header_boxes.specs.Boxes.{IsRangeWithin, IsValid, IsWithin}
use Rattle.header_boxes.specs.declared.boxes.Box5.{Box5}
use Rattle.header_boxes.proofs.Held.{within_trans}

valid_whole : (c w : ℕ × ℕ) → IsRangeWithin c w → w.0 ≤ w.1
valid_whole c w within = omega (arith, within.begins, within.valid, within.ends)

-- what holds a box is valid
pub valid_if_holds_box : (part whole : Box5) → IsWithin part whole → IsValid whole
valid_if_holds_box part whole within = record {
  proto = valid_whole part.proto whole.proto within.proto;
  src = valid_whole part.src whole.src within.src;
  dst = valid_whole part.dst whole.dst within.dst;
  p = valid_whole part.p whole.p within.p;
  q = valid_whole part.q whole.q within.q;
}

-- a greater box holds what was held, and one more
pub all_within_more : (boxes : List Box5) (hull greater : Box5) (k : ℕ) (d : Box5) → k < length boxes → IsWithin hull greater → IsWithin (get_or boxes k d) greater
    → All (λ b. IsWithin b hull) (take k boxes) → All (λ b. IsWithin b greater) (take (k + 1) boxes)
all_within_more boxes hull greater k d lt grown one all =
    All-more (λ b. IsWithin b greater) boxes k d lt (All-weaker (λ b. IsWithin b hull) (λ b. IsWithin b greater) (λ b w. within_trans b hull greater w grown) (take k boxes) all) one
