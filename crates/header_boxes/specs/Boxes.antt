-- Boxes of headers.
use Rattle.std.specs.Prelude.{ℕ, ◌≡◌, ◌≤◌, ◌+◌, ◌-◌, ◌*◌, ◌&&◌, nat_le, Bool, true, max, min}
use Rattle.vpc_base.specs.declared.headers.Header.{Header}
use Rattle.header_boxes.specs.declared.boxes.Box5.{Box5}

-- the number lies in the closed range
abbrev pub in_range : ℕ × ℕ → ℕ → Bool
in_range r x = nat_le r.0 x && nat_le x r.1

-- each field of the header lies in its range
abbrev pub holds : Header → Box5 → Bool
holds h b = in_range b.proto h.proto && (in_range b.src h.src && (in_range b.dst h.dst && (in_range b.p h.p && in_range b.q h.q)))

-- no range is empty
pub record IsValid (b : Box5) : Type 0 where
  pub proto : b.proto.0 ≤ b.proto.1
  pub src : b.src.0 ≤ b.src.1
  pub dst : b.dst.0 ≤ b.dst.1
  pub p : b.p.0 ≤ b.p.1
  pub q : b.q.0 ≤ b.q.1

-- the first range isn't empty and lies in the second
pub record IsRangeWithin (part whole : ℕ × ℕ) : Type 0 where
  pub begins : whole.0 ≤ part.0
  pub valid : part.0 ≤ part.1
  pub ends : part.1 ≤ whole.1

-- the part is valid and lies in the whole
pub record IsWithin (part whole : Box5) : Type 0 where
  pub proto : IsRangeWithin part.proto whole.proto
  pub src : IsRangeWithin part.src whole.src
  pub dst : IsRangeWithin part.dst whole.dst
  pub p : IsRangeWithin part.p whole.p
  pub q : IsRangeWithin part.q whole.q

-- no header is in both
abbrev pub AreDisjoint : Box5 → Box5 → Type 0
AreDisjoint a b = (h : Header) → holds h a ≡ true → holds h b ≡ true → ⊥

-- the low corner: the header of the five lower ends
abbrev pub low_of : Box5 → Header
low_of b = record { proto = b.proto.0; src = b.src.0; dst = b.dst.0; p = b.p.0; q = b.q.0 }

-- how many numbers a range has
abbrev pub width : ℕ × ℕ → ℕ
width r = r.1 + 1 - r.0

-- how many headers the box holds
abbrev pub volume_of : Box5 → ℕ
volume_of b = width b.proto * (width b.src * (width b.dst * (width b.p * width b.q)))

-- the numbers that two ranges share: from the greater beginning to the lesser end
abbrev pub common_range : ℕ × ℕ → ℕ × ℕ → ℕ × ℕ
common_range a b = (max a.0 b.0, min a.1 b.1)

-- the ranges that the sides of two boxes share
abbrev pub common_box : Box5 → Box5 → Box5
common_box a b = record {
  proto = common_range a.proto b.proto;
  src = common_range a.src b.src;
  dst = common_range a.dst b.dst;
  p = common_range a.p b.p;
  q = common_range a.q b.q;
}
