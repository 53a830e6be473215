-- Cuts that divide the sides of a box.
use Rattle.std.specs.Prelude.{Bool, filter, nat_le, nat_lt, ◌&&◌, ◌||◌, ℕ}
use Rattle.cut_points.specs.Types.{Box5}
use Rattle.vpc_base.specs.Cuts.{CutLists}

-- the cut lies above the first number of the range and not above its last
abbrev pub divides : ℕ × ℕ → ℕ → Bool
divides r c = nat_lt r.0 c && nat_le c r.1

-- the cuts that divide a side of the box, of addresses those that divide its sources or its destinations
abbrev pub dividing : CutLists → Box5 → CutLists
dividing cuts b = record {
  proto = filter (divides b.proto) cuts.proto;
  addr = filter (λ c. divides b.src c || divides b.dst c) cuts.addr;
  p = filter (divides b.p) cuts.p;
  q = filter (divides b.q) cuts.q;
}
