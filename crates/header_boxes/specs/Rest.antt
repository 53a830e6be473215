-- What is left of a box without a part that lies in it, as the list of boxes that this crate makes. Public
-- clauses don't cite it: they say what the boxes hold.
use Rattle.std.specs.Prelude.{ℕ, ◌+◌, ◌-◌, nat_lt, List, [], ◌∷◌, ◌++◌, if◌then◌else◌, map}
use Rattle.header_boxes.specs.declared.boxes.Box5.{Box5}

-- the ranges of w below and above c
abbrev pub outside : ℕ × ℕ → ℕ × ℕ → List (ℕ × ℕ)
outside w c = (if nat_lt w.0 c.0 then (w.0, c.0 - 1) ∷ [] else []) ++ (if nat_lt c.1 w.1 then (c.1 + 1, w.1) ∷ [] else [])

-- the box with another side
abbrev pub with_proto : Box5 → ℕ × ℕ → Box5
with_proto w r = record w { proto = r }

abbrev pub with_src : Box5 → ℕ × ℕ → Box5
with_src w r = record w { src = r }

abbrev pub with_dst : Box5 → ℕ × ℕ → Box5
with_dst w r = record w { dst = r }

abbrev pub with_p : Box5 → ℕ × ℕ → Box5
with_p w r = record w { p = r }

abbrev pub with_q : Box5 → ℕ × ℕ → Box5
with_q w r = record w { q = r }

-- the pieces of w whose one side lies outside c
abbrev pub off_proto : Box5 → Box5 → List Box5
off_proto w c = map (with_proto w) (outside w.proto c.proto)

abbrev pub off_src : Box5 → Box5 → List Box5
off_src w c = map (with_src w) (outside w.src c.src)

abbrev pub off_dst : Box5 → Box5 → List Box5
off_dst w c = map (with_dst w) (outside w.dst c.dst)

abbrev pub off_p : Box5 → Box5 → List Box5
off_p w c = map (with_p w) (outside w.p c.p)

abbrev pub off_q : Box5 → Box5 → List Box5
off_q w c = map (with_q w) (outside w.q c.q)

-- what is left of w without c: each side in turn is cut down to that of c
abbrev pub rest_of : Box5 → Box5 → List Box5
rest_of w c =
    let w1 = with_proto w c.proto in
    let w2 = with_src w1 c.src in
    let w3 = with_dst w2 c.dst in
    let w4 = with_p w3 c.p in
    off_proto w c ++ (off_src w1 c ++ (off_dst w2 c ++ (off_p w3 c ++ off_q w4 c)))
