-- Rows of one network, whose first host is attached to nothing, so that every header has the same word.
use Rattle.std.proofs.Common.{◌≡◌, ◌<◌, ◌≤◌, ◌⊎◌, [], ◌∷◌, List, Some, arith, refl, sym, true, ℕ, ◌∙◌, ⊎_elim, inl, inr}
use Rattle.std.specs.List.{All, Contains}
use Rattle.std.proofs.lemmas.Bool.{cases_lt}
use Rattle.std.proofs.lemmas.List.Elements.{All-cons, All-nil}
use Rattle.std.proofs.lemmas.List.Folds.{list_any_at}
use Rattle.std.proofs.lemmas.List.Kept.{AllPairs-cons}
use Rattle.vpc_base.specs.Cuts.{AreAmong, CutLists, IsSideAligned}
use Rattle.vpc_base.specs.Header.{IsBefore}
use Rattle.header_boxes.specs.Boxes.{AreDisjoint, IsRangeWithin, IsWithin, holds, low_of}
use Rattle.header_boxes.specs.Cells.{IsAligned}
use Rattle.header_boxes.specs.Rows.{AreOrdered, AreTrueRows, HasWord, IsFirstOutside, IsTrueReport, NoneThrough}
use Rattle.header_boxes.proofs.Held.{holds_from_in, in_from_holds, low_under}
use Rattle.header_boxes.proofs.Order.{not_before_if_under}
use Rattle.vpc_laws.specs.Types.{Box5, Header, Row, StopText}
use Rattle.vpc_examples.specs.Networks.{v4}
use Rattle.vpc_examples.specs.ReportRows.{detached, detached_means, from_a, row_to, to_b, to_port, to_ports}
use Rattle.vpc_examples.proofs.Numbers.{among, ascending}
use Rattle.vpc_model.specs.Cuts.{cuts_of}
use Rattle.vpc_model.specs.Report.{IsCellCount, IsOrderedReport, IsPartReport}

-- every header is stopped at once
means-told : (h : Header) → let row = row_to (0, 0) in detached_means h ≡ Some row.word
means-told h = refl

row-word : (q : ℕ × ℕ) → HasWord detached_means (row_to q)
row-word q h held = means-told h

none-through : (whole : Box5) → NoneThrough detached_means whole
none-through whole h held e = let stopped = sym (means-told h) ∙ e in cc

-- ---- boxes of ports

ports-within : (q w : ℕ × ℕ) → w.0 ≤ q.0 → q.0 ≤ q.1 → q.1 ≤ w.1 → IsWithin (to_ports q) (to_ports w)
ports-within q w begins valid ends =
    record { proto = one 6; src = one (v4 10 0 1 10); dst = one (v4 10 0 2 20); p = one 5000; q = record { begins = begins; valid = valid; ends = ends } }
  where
    one : (x : ℕ) → IsRangeWithin (x, x) (x, x)
    one x = record { begins = omega arith; valid = omega arith; ends = omega arith }

ports-disjoint : (a b : ℕ × ℕ) → a.1 < b.0 → AreDisjoint (to_ports a) (to_ports b)
ports-disjoint a b apart h s t = let i = in_from_holds h (to_ports a) s in let j = in_from_holds h (to_ports b) t in let k = i.q.1 in let l = j.q.0 in omega arith

ports-apart : (a b : ℕ × ℕ) → b.1 < a.0 → AreDisjoint (to_ports a) (to_ports b)
ports-apart a b apart h s t = ports-disjoint b a apart h t s

ports-aligned : (c : CutLists) (q w : ℕ × ℕ) → IsSideAligned c.q q w → IsAligned c (to_ports q) (to_ports w)
ports-aligned c q w side = record { proto = whole c.proto 6; src = whole c.addr (v4 10 0 1 10); dst = whole c.addr (v4 10 0 2 20); p = whole c.p 5000; q = side }
  where
    whole : (cuts : List ℕ) (x : ℕ) → IsSideAligned cuts (x, x) (x, x)
    whole cuts x = record { begins = inl refl; ends = inl refl }

-- a header of the whole whose port is in a row's range is in the row
ports-hold : (h : Header) (q w : ℕ × ℕ) → holds h (to_ports w) ≡ true → q.0 ≤ h.q → h.q ≤ q.1 → holds h (to_ports q) ≡ true
ports-hold h q w held above below =
    let i = in_from_holds h (to_ports w) held in
    holds_from_in h (to_ports q) (record { proto = i.proto; src = i.src; dst = i.dst; p = i.p; q = (above, below) })

-- ---- the whole, the first row and the second

abbrev whole : Box5
whole = to_ports (0, 4095)

abbrev low : Row StopText
low = row_to (0, 2047)

abbrev high : Row StopText
high = row_to (2048, 4095)

low-within : IsWithin low.part whole
low-within = ports-within (0, 2047) (0, 4095) (omega arith) (omega arith) (omega arith)

high-within : IsWithin high.part whole
high-within = ports-within (2048, 4095) (0, 4095) (omega arith) (omega arith) (omega arith)

-- the cuts of the network in ascending order
abbrev cuts : CutLists
cuts = record {
  proto = 1 ∷ 2 ∷ 6 ∷ 7 ∷ 17 ∷ 18 ∷ [];
  addr = v4 0 0 0 0 ∷ v4 1 0 0 0 ∷ v4 10 0 0 0 ∷ v4 10 0 1 10 ∷ v4 10 0 1 11 ∷ v4 10 0 2 20 ∷ v4 10 0 2 21 ∷ v4 10 1 0 0 ∷ v4 11 0 0 0
      ∷ v4 127 0 0 0 ∷ v4 128 0 0 0 ∷ v4 169 254 0 0 ∷ v4 169 255 0 0 ∷ v4 172 16 0 0 ∷ v4 172 32 0 0 ∷ v4 192 168 0 0 ∷ v4 192 169 0 0 ∷ v4 224 0 0 0 ∷ [];
  p = 0 ∷ 443 ∷ 444 ∷ 1024 ∷ 64512 ∷ [];
  q = 0 ∷ 443 ∷ 444 ∷ 2048 ∷ 2049 ∷ [];
}

cuts-among : AreAmong cuts (cuts_of detached)
cuts-among = among cuts (cuts_of detached) refl

among-cuts : AreAmong (cuts_of detached) cuts
among-cuts = among (cuts_of detached) cuts refl

five-cells : IsCellCount detached whole 5
five-cells = record { cuts = cuts; ascending = ascending cuts refl refl refl refl; no_others = cuts-among; all = among-cuts; count = refl }

-- 2,048 is a cut
cut-between : Contains (cuts_of detached).q 2048
cut-between = cuts-among.q 2048 (3, omega arith, refl)

low-aligned : IsAligned (cuts_of detached) low.part whole
low-aligned = ports-aligned (cuts_of detached) (0, 2047) (0, 4095) (record { begins = inl refl; ends = inr cut-between })

high-aligned : IsAligned (cuts_of detached) high.part whole
high-aligned = ports-aligned (cuts_of detached) (2048, 4095) (0, 4095) (record { begins = inr cut-between; ends = inl refl })

-- ---- rows of one port range each

one-true : (row : Row StopText) → IsWithin row.part whole → HasWord detached_means row → AreTrueRows detached_means whole (row ∷ [])
one-true row within word = record {
  within = All-cons (λ r. IsWithin r.part whole) row [] within (All-nil _);
  disjoint = AllPairs-cons (λ a b. AreDisjoint a.part b.part) row [] (All-nil _) (λ i j d before inside. absurd (omega arith));
  word = All-cons (HasWord detached_means) row [] word (All-nil _);
}

low-true : AreTrueRows detached_means whole (low ∷ [])
low-true = one-true low low-within (row-word (0, 2047))

pub high-true : AreTrueRows detached_means whole (high ∷ [])
high-true = one-true high high-within (row-word (2048, 4095))

one-ordered : (row : Row StopText) → IsAligned (cuts_of detached) row.part whole → AreOrdered (cuts_of detached) whole (row ∷ [])
one-ordered row aligned = record {
  ascending = AllPairs-cons (λ a b. IsBefore (low_of a.part) (low_of b.part)) row [] (All-nil _) (λ i j d before inside. absurd (omega arith));
  aligned = All-cons (λ r. IsAligned (cuts_of detached) r.part whole) row [] aligned (All-nil _);
}

low-ordered : AreOrdered (cuts_of detached) whole (low ∷ [])
low-ordered = one-ordered low low-aligned

pub high-ordered : AreOrdered (cuts_of detached) whole (high ∷ [])
high-ordered = one-ordered high high-aligned

-- ---- the first header that a row leaves out

-- no header of the ports from this one on comes before it
none-before : (q : ℕ × ℕ) (k : Header) → holds k (to_ports q) ≡ true → IsBefore k (low_of (to_ports q)) → ⊥
none-before q k held before = not_before_if_under (low_of (to_ports q)) k (low_under k (to_ports q) held) before

-- a header of the whole is in the first row, or in the second
in-either : (h : Header) → holds h whole ≡ true → (holds h low.part ≡ true) ⊎ (holds h high.part ≡ true)
in-either h held =
    let i = in_from_holds h whole held in
    ⊎_elim (λ lt. inl (ports-hold h (0, 2047) (0, 4095) held i.q.0 (omega arith))) (λ ge. inr (ports-hold h (2048, 4095) (0, 4095) held (omega arith) i.q.1)) (cases_lt h.q 2048)

high-next : IsFirstOutside whole (low ∷ []) (to_port 2048)
high-next = record {
  inside = refl;
  outside = refl;
  first = λ k held before. ⊎_elim (λ here. list_any_at (λ r. holds k r.part) (low ∷ []) 0 low (omega arith) here) (λ later. absurd (none-before (2048, 4095) k later before)) (in-either k held);
}

pub low-next : IsFirstOutside whole (high ∷ []) (to_port 0)
low-next = record { inside = refl; outside = refl; first = λ k held before. absurd (none-before (0, 4095) k held before) }

-- ---- both rows

abbrev up : List (Row StopText)
up = low ∷ high ∷ []

abbrev down : List (Row StopText)
down = high ∷ low ∷ []

two-true : (a b : Row StopText) → IsWithin a.part whole → IsWithin b.part whole → HasWord detached_means a → HasWord detached_means b → AreDisjoint a.part b.part → AreTrueRows detached_means whole (a ∷ b ∷ [])
two-true a b a_within b_within a_word b_word apart =
    let disjoint_from : Row StopText → Type 0 = (λ y. AreDisjoint a.part y.part) in
    let one = one-true b b_within b_word in
    record {
      within = All-cons (λ r. IsWithin r.part whole) a (b ∷ []) a_within one.within;
      disjoint = AllPairs-cons (λ x y. AreDisjoint x.part y.part) a (b ∷ []) (All-cons disjoint_from b [] apart (All-nil disjoint_from)) one.disjoint;
      word = All-cons (HasWord detached_means) a (b ∷ []) a_word one.word;
    }

up-report : IsTrueReport detached_means whole up
up-report = record {
  are_true = two-true low high low-within high-within (row-word (0, 2047)) (row-word (2048, 4095)) (ports-disjoint (0, 2047) (2048, 4095) (omega arith));
  holds_all = λ h held. ⊎_elim (λ here. list_any_at (λ r. holds h r.part) up 0 low (omega arith) here) (λ there. list_any_at (λ r. holds h r.part) up 1 low (omega arith) there) (in-either h held);
}

pub down-report : IsTrueReport detached_means whole down
down-report = record {
  are_true = two-true high low high-within low-within (row-word (2048, 4095)) (row-word (0, 2047)) (ports-apart (2048, 4095) (0, 2047) (omega arith));
  holds_all = λ h held. ⊎_elim (λ here. list_any_at (λ r. holds h r.part) down 1 low (omega arith) here) (λ there. list_any_at (λ r. holds h r.part) down 0 low (omega arith) there) (in-either h held);
}

two-aligned : (a b : Row StopText) → IsAligned (cuts_of detached) a.part whole → IsAligned (cuts_of detached) b.part whole → All (λ r. IsAligned (cuts_of detached) r.part whole) (a ∷ b ∷ [])
two-aligned a b first second = let one = one-ordered b second in All-cons (λ r. IsAligned (cuts_of detached) r.part whole) a (b ∷ []) first one.aligned

pub down-aligned : All (λ r. IsAligned (cuts_of detached) r.part whole) down
down-aligned = two-aligned high low high-aligned low-aligned

up-ordered : AreOrdered (cuts_of detached) whole up
up-ordered = let after = one-ordered high high-aligned in record {
  ascending = AllPairs-cons (λ a b. IsBefore (low_of a.part) (low_of b.part)) low (high ∷ []) (All-cons (λ (b : Row StopText). IsBefore (low_of low.part) (low_of b.part)) high [] refl (All-nil _)) after.ascending;
  aligned = two-aligned low high low-aligned high-aligned;
}

pub up-is_report : IsOrderedReport detached [] from_a to_b whole up
up-is_report = record { report = up-report; ordered = up-ordered }

pub low-is_part : IsPartReport detached [] from_a to_b whole 1 (low ∷ []) (to_port 2048) 5
low-is_part = record {
  are_true = low-true;
  ordered = low-ordered;
  count = refl;
  next_is = high-next;
  begun = All-cons (λ row. IsBefore (low_of row.part) (to_port 2048)) low [] refl (All-nil _);
  none = none-through whole;
  cells_are = five-cells;
  many = omega arith;
}

-- ---- the second row begins after the first, and after port 0

high-after : IsBefore (low_of high.part) (to_port 0) → ⊥
high-after before = cc

pub down-is_none : IsOrderedReport detached [] from_a to_b whole down → ⊥
down-is_none o = high-after (o.ordered.ascending 0 1 low (omega arith) (omega arith))

pub high-is_none : IsPartReport detached [] from_a to_b whole 1 (high ∷ []) (to_port 0) 5 → ⊥
high-is_none p = high-after (p.begun 0 low (omega arith))
