-- Logs that are read line by line.
use Rattle.std.proofs.Common.{◌+◌, ◌++◌, ◌<◌, ◌≡◌, ◌≤◌, ◌∙◌, ◌∷◌, [], Bool, Err, List, None, Ok, Option, Result, Some, add-zero, add_assoc, ap, append-nil, append_assoc, arith, cond, false, is_none, option_map, refl, subst, sym, true, zero-add, ℕ}
use Rattle.std.specs.List.{cons_option, count_by, enumerate_from, filter_map, find}
use Rattle.std.proofs.lemmas.List.Sums.{sum_by-cons}
use Rattle.vpc_laws.specs.Types.{Description}
use Rattle.flow_check.specs.Flows.{FlowList, agrees, bad_line, counts_of, differing, is_nodata, is_skipdata, is_skipped, is_unknown, sorted_lines, told_of, told_unless}
use Rattle.flow_check.specs.Records.{record_of}
use Rattle.flow_check.specs.Sorts.{sort_of}
use Rattle.flow_check.specs.Steps.{AreBelow, added, added_if, after_line, counted, joined, no_lines}
use Rattle.flow_check.specs.declared.kinds.FlowCounts.{FlowCounts}
use Rattle.flow_check.specs.declared.kinds.FlowLine.{FlowLine}
use Rattle.flow_check.specs.declared.records.Record.{Record}
use Rattle.flow_check.specs.declared.sorts.Sort.{Sort}
use Rattle.flow_check.specs.declared.sorts.Sort.TheVariants as sorts

-- what is told of more lines, unless the last was bad
abbrev pub on_ok : Result FlowList ℕ → (FlowList → Result FlowList ℕ) → Result FlowList ℕ
on_ok (Ok a) next = next a
on_ok (Err number) next = Err number

-- what is told of lines from a number on, after what was told before
abbrev pub told_from : Description → FlowList → ℕ → List (List ℕ) → Result FlowList ℕ
told_from d a n [] = Ok a
told_from d a n (line ∷ lines) = on_ok (after_line d a n line) (λ b. told_from d b (n + 1) lines)

-- ---- what is told before, and what of the rest

same-counts : (x y : FlowCounts) → x.agreeing ≡ y.agreeing → x.nodata ≡ y.nodata → x.skipdata ≡ y.skipdata → x.unknown ≡ y.unknown → x.skipped ≡ y.skipped → x ≡ y
same-counts x y a b c d e =
    ap (λ (n : ℕ). record x { agreeing = n }) a
    ∙ ap (λ (n : ℕ). record x { agreeing = y.agreeing; nodata = n }) b
    ∙ ap (λ (n : ℕ). record y { skipdata = n; unknown = x.unknown; skipped = x.skipped }) c
    ∙ ap (λ (n : ℕ). record y { unknown = n; skipped = x.skipped }) d
    ∙ ap (λ (n : ℕ). record y { skipped = n }) e

abbrev summed : FlowCounts → FlowCounts → FlowCounts
summed a b = record {
  agreeing = a.agreeing + b.agreeing;
  nodata = a.nodata + b.nodata;
  skipdata = a.skipdata + b.skipdata;
  unknown = a.unknown + b.unknown;
  skipped = a.skipped + b.skipped;
}

-- each count after one more line
record IsTally (before : FlowCounts) (l : ℕ × Sort) (after : FlowCounts) : Type 0 where
  pub agreeing : after.agreeing ≡ before.agreeing + cond (agrees l) 1 0
  pub nodata : after.nodata ≡ before.nodata + cond (is_nodata l) 1 0
  pub skipdata : after.skipdata ≡ before.skipdata + cond (is_skipdata l) 1 0
  pub unknown : after.unknown ≡ before.unknown + cond (is_unknown l) 1 0
  pub skipped : after.skipped ≡ before.skipped + cond (is_skipped l) 1 0

tally : (c : FlowCounts) (n : ℕ) (s : Sort) → IsTally c (n, s) (counted c s)
tally c n sorts.NoData = record { agreeing = omega arith; nodata = omega arith; skipdata = omega arith; unknown = omega arith; skipped = omega arith }
tally c n sorts.SkipData = record { agreeing = omega arith; nodata = omega arith; skipdata = omega arith; unknown = omega arith; skipped = omega arith }
tally c n sorts.Unknown = record { agreeing = omega arith; nodata = omega arith; skipdata = omega arith; unknown = omega arith; skipped = omega arith }
tally c n sorts.Skipped = record { agreeing = omega arith; nodata = omega arith; skipdata = omega arith; unknown = omega arith; skipped = omega arith }
tally c n sorts.Agrees = record { agreeing = omega arith; nodata = omega arith; skipdata = omega arith; unknown = omega arith; skipped = omega arith }
tally c n (sorts.Differs kind) = record { agreeing = omega arith; nodata = omega arith; skipdata = omega arith; unknown = omega arith; skipped = omega arith }

-- one of them, with the rest
count-more : (p : ℕ × Sort → Bool) (l : ℕ × Sort) (lines : List (ℕ × Sort)) (before after : ℕ) → after ≡ before + cond (p l) 1 0
    → after + count_by p lines ≡ before + count_by p (l ∷ lines)
count-more p l lines before after is =
    ap (λ (n : ℕ). n + count_by p lines) is
    ∙ add_assoc before (cond (p l) 1 0) (count_by p lines)
    ∙ ap (λ (n : ℕ). before + n) (sym (sum_by-cons (λ (x : ℕ × Sort). cond (p x) 1 0) l lines))

counts-more : (c : FlowCounts) (n : ℕ) (s : Sort) (lines : List (ℕ × Sort)) → summed (counted c s) (counts_of lines) ≡ summed c (counts_of ((n, s) ∷ lines))
counts-more c n s lines =
    let after = counted c s in
    let is = tally c n s in
    same-counts (summed after (counts_of lines)) (summed c (counts_of ((n, s) ∷ lines)))
    (count-more agrees (n, s) lines c.agreeing after.agreeing is.agreeing)
    (count-more is_nodata (n, s) lines c.nodata after.nodata is.nodata)
    (count-more is_skipdata (n, s) lines c.skipdata after.skipdata is.skipdata)
    (count-more is_unknown (n, s) lines c.unknown after.unknown is.unknown)
    (count-more is_skipped (n, s) lines c.skipped after.skipped is.skipped)

joined-more : (lines : List FlowLine) (n : ℕ) (s : Sort) (rest : List FlowLine) → joined lines n s ++ rest ≡ lines ++ cons_option (differing (n, s)) rest
joined-more lines n sorts.NoData rest = refl
joined-more lines n sorts.SkipData rest = refl
joined-more lines n sorts.Unknown rest = refl
joined-more lines n sorts.Skipped rest = refl
joined-more lines n sorts.Agrees rest = refl
joined-more lines n (sorts.Differs kind) rest = append_assoc lines (record { line = n; kind = kind } ∷ []) rest

-- what is told of the rest stands behind what was told before
abbrev behind : FlowList → Result FlowList ℕ → Result FlowList ℕ
behind a (Err number) = Err number
behind a (Ok b) = Ok (record { differing = a.differing ++ b.differing; counts = summed a.counts b.counts })

abbrev told : List FlowLine → FlowCounts → Result FlowList ℕ
told lines c = Ok (record { differing = lines; counts = c })

behind-more : (a : FlowList) (n : ℕ) (s : Sort) (bad : Option ℕ) (lines : List (ℕ × Sort)) → behind (added a n s) (told_unless bad lines) ≡ behind a (told_unless bad ((n, s) ∷ lines))
behind-more a n s (Some number) lines = refl
behind-more a n s None lines =
    ap (λ (ls : List FlowLine). told ls (summed (counted a.counts s) (counts_of lines))) (joined-more a.differing n s (filter_map differing lines))
    ∙ ap (told (a.differing ++ cons_option (differing (n, s)) (filter_map differing lines))) (counts-more a.counts n s lines)

behind-none : (a : FlowList) → Ok a ≡ behind a (Ok (told_of []))
behind-none a =
    ap (λ (ls : List FlowLine). told ls a.counts) (sym (append-nil a.differing))
    ∙ ap (told (a.differing ++ []))
    (same-counts a.counts (summed a.counts (counts_of [])) (sym (add-zero a.counts.agreeing)) (sym (add-zero a.counts.nodata)) (sym (add-zero a.counts.skipdata)) (sym (add-zero a.counts.unknown)) (sym (add-zero a.counts.skipped)))

-- ---- lines

-- what the definition tells of numbered lines
abbrev pub meant : Description → List (ℕ × List ℕ) → Result FlowList ℕ
meant d lines = told_unless (bad_line lines) (sorted_lines d lines)

-- what is told of a line that says this, or nothing, and more lines
abbrev meant_by : Description → ℕ → List ℕ → Option Record → List (ℕ × List ℕ) → Result FlowList ℕ
meant_by d n line o lines =
    told_unless (option_map (λ (l : ℕ × List ℕ). l.0) (cond (is_none o) (Some (n, line)) (find (λ (l : ℕ × List ℕ). is_none (record_of l.1)) lines)))
    (cons_option (option_map (λ r. (n, sort_of d r)) o) (sorted_lines d lines))

told_from-meant : (d : Description) (a : FlowList) (n : ℕ) (lines : List (List ℕ)) → told_from d a n lines ≡ behind a (meant d (enumerate_from n lines))
told_from-meant d a n [] = behind-none a
told_from-meant d a n (line ∷ lines) = by (record_of line) (λ b. told_from-meant d b (n + 1) lines)
  where
    by : (o : Option Record) → ((b : FlowList) → told_from d b (n + 1) lines ≡ behind b (meant d (enumerate_from (n + 1) lines)))
        → on_ok (added_if d a n o) (λ b. told_from d b (n + 1) lines) ≡ behind a (meant_by d n line o (enumerate_from (n + 1) lines))
    by None rest_is = refl
    by (Some r) rest_is =
        let rest = enumerate_from (n + 1) lines in
        rest_is (added a n (sort_of d r)) ∙ behind-more a n (sort_of d r) (bad_line rest) (sorted_lines d rest)

behind-first : (r : Result FlowList ℕ) → behind no_lines r ≡ r
behind-first (Err number) = refl
behind-first (Ok b) =
    let c = b.counts in
    ap (told b.differing)
    (same-counts (summed no_lines.counts c) c (zero-add c.agreeing) (zero-add c.nodata) (zero-add c.skipdata) (zero-add c.unknown) (zero-add c.skipped))

-- reading a log line by line tells what is meant
pub told-meant : (d : Description) (n : ℕ) (lines : List (List ℕ)) → told_from d no_lines n lines ≡ meant d (enumerate_from n lines)
told-meant d n lines = told_from-meant d no_lines n lines ∙ behind-first (meant d (enumerate_from n lines))

-- one more line that is of the grammar
pub told-next : (d : Description) (a b : FlowList) (n : ℕ) (line : List ℕ) (lines : List (List ℕ)) → after_line d a n line ≡ Ok b → told_from d b (n + 1) lines ≡ told_from d a n (line ∷ lines)
told-next d a b n line lines is = sym (ap (λ (r : Result FlowList ℕ). on_ok r (λ c. told_from d c (n + 1) lines)) is)

-- ---- counts

pub below-none : (n : ℕ) (a : FlowList) → a ≡ no_lines → 1 ≤ n → AreBelow n a.counts
below-none n a is some =
    subst (λ (b : FlowList). AreBelow n b.counts) (sym is) (record { agreeing = omega arith; nodata = omega arith; skipdata = omega arith; unknown = omega arith; skipped = omega arith })

below-more : (n : ℕ) (a : FlowList) (k : ℕ) (s : Sort) → AreBelow n a.counts → AreBelow (n + 1) (added a k s).counts
below-more n a k s below =
    let is = tally a.counts k s in
    record {
      agreeing = one (agrees (k, s)) a.counts.agreeing (counted a.counts s).agreeing is.agreeing below.agreeing;
      nodata = one (is_nodata (k, s)) a.counts.nodata (counted a.counts s).nodata is.nodata below.nodata;
      skipdata = one (is_skipdata (k, s)) a.counts.skipdata (counted a.counts s).skipdata is.skipdata below.skipdata;
      unknown = one (is_unknown (k, s)) a.counts.unknown (counted a.counts s).unknown is.unknown below.unknown;
      skipped = one (is_skipped (k, s)) a.counts.skipped (counted a.counts s).skipped is.skipped below.skipped;
    }
  where
    one : (b : Bool) (before after : ℕ) → after ≡ before + cond b 1 0 → before < n → after < n + 1
    one true before after is below = omega arith
    one false before after is below = omega arith

-- the counts after one more line
pub below-next : (d : Description) (n : ℕ) (a b : FlowList) (line : List ℕ) → after_line d a n line ≡ Ok b → AreBelow n a.counts → AreBelow (n + 1) b.counts
below-next d n a b line is below = by (record_of line) is
  where
    by : (o : Option Record) → added_if d a n o ≡ Ok b → AreBelow (n + 1) b.counts
    by None is = absurd (cc)
    by (Some r) is = let same : added a n (sort_of d r) ≡ b = cc in subst (λ (c : FlowList). AreBelow (n + 1) c.counts) same (below-more n a n (sort_of d r) below)
