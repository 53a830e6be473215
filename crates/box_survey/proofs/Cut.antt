-- The halves of a cell.
use Rattle.std.proofs.Common.{ℕ, ◌≤◌, ◌<◌, ◌-◌, inl, inr, arith, ⊎_elim}
use Rattle.std.proofs.lemmas.Bool.{cases_lt}
use Rattle.vpc_base.specs.declared.headers.Header.{Header}
use Rattle.header_boxes.specs.declared.boxes.Box5.{Box5}
use Rattle.header_boxes.specs.Boxes.{IsValid, width}
use Rattle.header_boxes.proofs.Held.{IsIn, in_from_holds, holds_from_in}
use Rattle.box_survey.specs.Cells.{AreHalves, extent_of}
use Rattle.box_survey.specs.Cuts.{IsCutOf, range_on, with_range}
use Rattle.box_survey.specs.declared.sides.Cut.{Cut}
use Rattle.box_survey.specs.declared.sides.Side.{Side}
use Rattle.box_survey.specs.declared.sides.Side.TheVariants as side

-- the field of a header on one side
abbrev pub field_on : Side → Header → ℕ
field_on side.Proto h = h.proto
field_on side.Src h = h.src
field_on side.Dst h = h.dst
field_on side.P h = h.p
field_on side.Q h = h.q

abbrev pub Lies : ℕ × ℕ → ℕ → Type 0
Lies r x = (r.0 ≤ x) × (x ≤ r.1)

pub in_on : (s : Side) (h : Header) (b : Box5) → IsIn h b → Lies (range_on s b) (field_on s h)
in_on side.Proto h b i = i.proto
in_on side.Src h b i = i.src
in_on side.Dst h b i = i.dst
in_on side.P h b i = i.p
in_on side.Q h b i = i.q

-- a header in a box lies in it with another range where its field lies in that
in_with : (s : Side) (h : Header) (b : Box5) (r : ℕ × ℕ) → IsIn h b → Lies r (field_on s h) → IsIn h (with_range s b r)
in_with side.Proto h b r i l = record { proto = l; src = i.src; dst = i.dst; p = i.p; q = i.q }
in_with side.Src h b r i l = record { proto = i.proto; src = l; dst = i.dst; p = i.p; q = i.q }
in_with side.Dst h b r i l = record { proto = i.proto; src = i.src; dst = l; p = i.p; q = i.q }
in_with side.P h b r i l = record { proto = i.proto; src = i.src; dst = i.dst; p = l; q = i.q }
in_with side.Q h b r i l = record { proto = i.proto; src = i.src; dst = i.dst; p = i.p; q = l }

wider : {a c x y z : ℕ} → a ≤ x → y ≤ c → (x ≤ z) × (z ≤ y) → (a ≤ z) × (z ≤ c)
wider f l i = (omega arith, omega arith)

-- and the other way where that range is a part
in_without : (s : Side) (h : Header) (b : Box5) (r : ℕ × ℕ) → (range_on s b).0 ≤ r.0 → r.1 ≤ (range_on s b).1 → IsIn h (with_range s b r) → IsIn h b
in_without side.Proto h b r f l i = record { proto = wider f l i.proto; src = i.src; dst = i.dst; p = i.p; q = i.q }
in_without side.Src h b r f l i = record { proto = i.proto; src = wider f l i.src; dst = i.dst; p = i.p; q = i.q }
in_without side.Dst h b r f l i = record { proto = i.proto; src = i.src; dst = wider f l i.dst; p = i.p; q = i.q }
in_without side.P h b r f l i = record { proto = i.proto; src = i.src; dst = i.dst; p = wider f l i.p; q = i.q }
in_without side.Q h b r f l i = record { proto = i.proto; src = i.src; dst = i.dst; p = i.p; q = wider f l i.q }

-- a narrower range makes a narrower box
narrower : (s : Side) (b : Box5) (r : ℕ × ℕ) → width r < width (range_on s b) → extent_of (with_range s b r) < extent_of b
narrower side.Proto b r lt = omega arith
narrower side.Src b r lt = omega arith
narrower side.Dst b r lt = omega arith
narrower side.P b r lt = omega arith
narrower side.Q b r lt = omega arith

-- a range that isn't empty keeps a box valid
valid_with : (s : Side) (b : Box5) (r : ℕ × ℕ) → r.0 ≤ r.1 → IsValid b → IsValid (with_range s b r)
valid_with side.Proto b r le v = record { proto = le; src = v.src; dst = v.dst; p = v.p; q = v.q }
valid_with side.Src b r le v = record { proto = v.proto; src = le; dst = v.dst; p = v.p; q = v.q }
valid_with side.Dst b r le v = record { proto = v.proto; src = v.src; dst = le; p = v.p; q = v.q }
valid_with side.P b r le v = record { proto = v.proto; src = v.src; dst = v.dst; p = le; q = v.q }
valid_with side.Q b r le v = record { proto = v.proto; src = v.src; dst = v.dst; p = v.p; q = le }

abbrev low_of_cut : Box5 → Cut → ℕ × ℕ
low_of_cut cell cut = ((range_on cut.side cell).0, cut.at - 1)

abbrev high_of_cut : Box5 → Cut → ℕ × ℕ
high_of_cut cell cut = (cut.at, (range_on cut.side cell).1)

pub halves_by_cut : (cell : Box5) (cut : Cut) → IsCutOf cell cut
    → AreHalves cell (with_range cut.side cell ((range_on cut.side cell).0, cut.at - 1)) (with_range cut.side cell (cut.at, (range_on cut.side cell).1))
halves_by_cut cell cut inside = record {
  low_within = λ h t. holds_from_in h cell (in_without cut.side h cell (low_of_cut cell cut) (omega arith) (omega arith) (in_from_holds h (with_range cut.side cell (low_of_cut cell cut)) t));
  high_within = λ h t. holds_from_in h cell (in_without cut.side h cell (high_of_cut cell cut) (omega arith) (omega arith) (in_from_holds h (with_range cut.side cell (high_of_cut cell cut)) t));
  both = λ h t.
      let i = in_from_holds h cell t in
      let l = in_on cut.side h cell i in
      ⊎_elim
      (λ lt. inl (holds_from_in h (with_range cut.side cell (low_of_cut cell cut)) (in_with cut.side h cell (low_of_cut cell cut) i (l.0, omega arith))))
      (λ ge. inr (holds_from_in h (with_range cut.side cell (high_of_cut cell cut)) (in_with cut.side h cell (high_of_cut cell cut) i (ge, l.1))))
      (cases_lt (field_on cut.side h) cut.at);
  low_narrower = narrower cut.side cell (low_of_cut cell cut) (omega arith);
  high_narrower = narrower cut.side cell (high_of_cut cell cut) (omega arith);
  low_valid = valid_with cut.side cell (low_of_cut cell cut) (omega arith);
  high_valid = valid_with cut.side cell (high_of_cut cell cut) (omega arith);
}
