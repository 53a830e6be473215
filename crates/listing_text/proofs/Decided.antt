-- What is told of starts decides the status, whatever order they are asked in.
use Rattle.std.proofs.Common.{◌≡◌, ◌≢◌, ◌<◌, ◌≤◌, ◌+◌, ◌∷◌, [], All, AllPairs, Contains, List, None, ap, arith, get_or, inl, inr, length, map, refl, subst, suc, sum_by, sym, true, zero, ℕ}
use Rattle.vpc_base.proofs.Lemmas.{All-contains, All-head, All-tail, Contains-map, list_any_at, some_not_none, sum_by-append, sum_by-cons}
use Rattle.box_gather.specs.Over.{IsPartOf, cells_over, is_in}
use Rattle.command_job.proofs.Devices.{more_is_none, no_device}
use Rattle.command_job.specs.Status.{IsOfDevice}
use Rattle.command_job.specs.declared.status.Status.{Status}
use Rattle.command_job.specs.declared.status.Status.TheVariants as ends
use Rattle.header_boxes.proofs.Held.{holds_low, holds_whole, valid_if_within}
use Rattle.header_boxes.specs.Terms.{HasWord, holds, is_covered, low_of}
use Rattle.header_boxes.specs.declared.boxes.Box5.{Box5}
use Rattle.header_boxes.specs.declared.rows.Row.{Row}
use Rattle.vpc_base.specs.Cuts.{AreAmong, CutLists}
use Rattle.vpc_base.specs.declared.headers.Header.{Header}
use Rattle.listing_text.proofs.BodyLemmas.{last_among}
use Rattle.listing_text.proofs.Orders.{AreAlike}
use Rattle.listing_text.proofs.Same.{same_in_order}
use Rattle.listing_text.proofs.SideLemmas.{sides_of-sides}
use Rattle.prefix_text.specs.Block.{Block}
use Rattle.query_words.specs.Pairs.{IsSide}
use Rattle.listing_text.specs.Terms.{AreSidesOf, AreToldAll, AreToldInPart, FewCells, IsDecidedBy, IsTold, IsToldFrom, SomeTold, StartRows, Wanted, row_count}
use Rattle.listing_text.specs.Answered as answered

-- addresses and blocks have one list of sides
begin_in_order : (addresses : List ℕ) (blocks : List Block) (sides : List (ℕ × ℕ)) → AreSidesOf addresses blocks sides → AllPairs (λ s t. s.0 < t.0) sides
begin_in_order addresses blocks sides are i j d lt inside =
    let rise = are.ascending i j d lt inside in
    let some : IsSide (get_or sides i d) = (sides_of-sides addresses blocks sides are).each i d (omega (arith, lt, inside)) in
    omega (arith, rise, some)

pub same_sides : (addresses : List ℕ) (blocks : List Block) (xs ys : List (ℕ × ℕ)) → AreSidesOf addresses blocks xs → AreSidesOf addresses blocks ys → xs ≡ ys
same_sides addresses blocks xs ys a b =
    same_in_order (λ (s t : ℕ × ℕ). s.0 < t.0) (λ s t one other. omega (arith, one, other)) xs ys
    (begin_in_order addresses blocks xs a) (begin_in_order addresses blocks ys b)
    (λ s h. (b.members s).1 ((a.members s).0 h)) (λ s h. (a.members s).1 ((b.members s).0 h))

-- ---- rows of one start

part_in : (cuts : CutLists) (boxes : List Box5) (part : Box5) → IsPartOf cuts boxes part → is_in boxes (low_of part) ≡ true
part_in cuts boxes part k =
    list_any_at (λ b. holds (low_of part) b) boxes k.among.0 k.whole k.among.1
    (subst (λ (b : Box5). holds (low_of part) b ≡ true) (sym k.among.2) (holds_whole (low_of part) part k.whole k.within (holds_low part (valid_if_within part k.whole k.within))))

uncovered : {W : Type 0} (rows : List (Row W)) (h : Header) → length rows ≡ 0 → is_covered rows h ≡ true → ⊥
uncovered [] h none is = absurd cc
uncovered (r ∷ rows) h none is = absurd (omega (arith, none))

-- ---- all starts

module _ {S W : Type 0} where
  -- the rows of a start that is among them
  told_at : (told : List (StartRows S W)) (start : S) → Contains (map (λ t. t.start) told) start → (t : StartRows S W) × (Contains told t × (t.start ≡ start))
  told_at [] start (k, below, is) = absurd (omega (arith, below))
  told_at (t ∷ told) start (zero, below, is) = (t, ((0, omega arith, refl), is))
  told_at (t ∷ told) start (suc k, below, is) =
      let r = told_at told start (k, omega arith, is) in
      (r.0, ((suc r.1.0.0, (let l = r.1.0.1 in omega (arith, l)), r.1.0.2), r.1.1))

  no_rows : (told : List (StartRows S W)) (t : StartRows S W) → row_count told ≡ 0 → Contains told t → length t.rows ≡ 0
  no_rows [] t none (k, below, is) = absurd (omega (arith, below))
  no_rows (s ∷ told) t none (zero, below, is) =
      let c = sum_by-cons (λ (x : StartRows S W). length x.rows) s told in
      let e = ap (λ (x : StartRows S W). length x.rows) is in
      omega (arith, c, e, none)
  no_rows (s ∷ told) t none (suc k, below, is) =
      let c = sum_by-cons (λ (x : StartRows S W). length x.rows) s told in
      no_rows told t (omega (arith, c, none)) (k, omega arith, is)

  -- a start that has a row
  some_rows : (told : List (StartRows S W)) → 0 < row_count told → (t : StartRows S W) × (Contains told t × (0 < length t.rows))
  some_rows [] some = absurd (omega (arith, some))
  some_rows (t ∷ told) some = by t.rows refl (some_rows told)
    where
      c : row_count (t ∷ told) ≡ length t.rows + row_count told
      c = sum_by-cons (λ (x : StartRows S W). length x.rows) t told

      by : (rows : List (Row W)) → t.rows ≡ rows → (0 < row_count told → (s : StartRows S W) × (Contains told s × (0 < length s.rows))) → (s : StartRows S W) × (Contains (t ∷ told) s × (0 < length s.rows))
      by [] is rest =
          let l = ap length is in
          let r = rest (omega (arith, c, l, some)) in
          (r.0, ((suc r.1.0.0, (let b = r.1.0.1 in omega (arith, b)), r.1.0.2), r.1.1))
      by (row ∷ rows) is rest = (t, ((0, omega arith, refl), (let l = ap length is in omega (arith, l))))

-- ---- the three answers

-- what is asked by the destinations that a question is about, which are one list, of its starts, whose order doesn't matter
module _ {S W : Type 0} (AreTargets : List (ℕ × ℕ) → Type 0) (AreStarts : List S → Type 0) (wanted : List (ℕ × ℕ) → Wanted S W)
    (one_list : (xs ys : List (ℕ × ℕ)) → AreTargets xs → AreTargets ys → xs ≡ ys) (alike : (xs ys : List S) → AreStarts xs → AreStarts ys → AreAlike xs ys)
    (targets : List (ℕ × ℕ)) (starts : List S) (targets_are : AreTargets targets) (starts_are : AreStarts starts) where
  abbrev w : Wanted S W
  w = wanted targets

  -- a row, or a header that is left out, is such a request
  row_tells : (t : StartRows S W) → Contains starts t.start → IsToldFrom w t → 0 < length t.rows → SomeTold AreTargets AreStarts wanted
  row_tells t in_starts told some = by t.rows refl
    where
      by : (rows : List (Row W)) → t.rows ≡ rows → SomeTold AreTargets AreStarts wanted
      by [] is = let l = ap length is in absurd (omega (arith, l, some))
      by (row ∷ rows) is =
          let parts = subst (λ (l : List (Row W)). All (λ r. IsPartOf w.cuts (w.boxes t.start) r.part) l) is told.rows_are.parts in
          let words = subst (λ (l : List (Row W)). All (HasWord (w.word t.start)) l) is told.rows_are.word in
          let part = All-head (λ (r : Row W). IsPartOf w.cuts (w.boxes t.start) r.part) row rows parts in
          let word = All-head (HasWord (w.word t.start)) row rows words in
          record {
            targets = targets;
            targets_are = targets_are;
            starts = starts;
            starts_are = starts_are;
            start = t.start;
            among = in_starts;
            header = low_of row.part;
            inside = part_in w.cuts (w.boxes t.start) row.part part;
            told = some_not_none (w.word t.start (low_of row.part)) row.word (word (low_of row.part) (holds_low row.part (valid_if_within row.part part.whole part.within)));
          }

  -- such a request is in a row of its start
  all_told : (told : List (StartRows S W)) → AreToldAll w starts told → SomeTold AreTargets AreStarts wanted → row_count told ≢ 0
  all_told told are x none =
      let same : x.targets ≡ targets = one_list x.targets targets x.targets_are targets_are in
      let in_starts = (alike x.starts starts x.starts_are starts_are).members x.start x.among in
      let at = told_at told x.start (subst (λ (l : List S). Contains l x.start) (sym are.starts_are) in_starts) in
      let from = All-contains (IsToldFrom w) told at.0 are.each at.1.0 in
      let inside = subst (λ (e : S). is_in (w.boxes e) x.header ≡ true) (sym at.1.1) (subst (λ (l : List (ℕ × ℕ)). is_in ((wanted l).boxes x.start) x.header ≡ true) same x.inside) in
      let word = subst (λ (e : S). w.word e x.header ≢ None) (sym at.1.1) (subst (λ (l : List (ℕ × ℕ)). (wanted l).word x.start x.header ≢ None) same x.told) in
      uncovered at.0.rows x.header (no_rows told at.0 none at.1.0) (from.holds_all x.header inside word)

  -- the rows of some starts are no more than their cells
  rows_within_cells : (all : CutLists) → AreAmong w.cuts all → (told : List (StartRows S W)) → All (IsToldFrom w) told
      → row_count told ≤ sum_by (λ e. cells_over all (w.boxes e)) (map (λ t. t.start) told)
  rows_within_cells all among [] each = omega arith
  rows_within_cells all among (t ∷ told) each =
      let c = sum_by-cons (λ (x : StartRows S W). length x.rows) t told in
      let s = sum_by-cons (λ e. cells_over all (w.boxes e)) t.start (map (λ (x : StartRows S W). x.start) told) in
      let first = (All-head (IsToldFrom w) t told each).cells all among in
      let rest = rows_within_cells all among told (All-tail (IsToldFrom w) t told each) in
      omega (arith, c, s, first, rest)

  -- where rows are left out there are more cells
  many_cells : (told : List (StartRows S W)) (last : StartRows S W) (next : Header) → AreToldInPart w starts told last next → FewCells AreTargets AreStarts wanted → ⊥
  many_cells told last next are few =
      let f : S → ℕ = λ e. cells_over few.cuts (w.boxes e) in
      let same : few.targets ≡ targets = one_list few.targets targets few.targets_are targets_are in
      let among = subst (λ (l : List (ℕ × ℕ)). AreAmong ((wanted l).cuts) few.cuts) same few.all in
      let few_here = subst (λ (l : List (ℕ × ℕ)). sum_by (λ e. cells_over few.cuts ((wanted l).boxes e)) few.starts ≤ (wanted l).max) same few.few in
      let sums = (alike few.starts starts few.starts_are starts_are).sums f in
      let whole = ap (sum_by f) are.starts_are in
      let split = sum_by-append f (map (λ (t : StartRows S W). t.start) told) (last.start ∷ are.rest) in
      let cons = sum_by-cons f last.start are.rest in
      let rows = rows_within_cells few.cuts among told are.each in
      let more = are.part.cells few.cuts among in
      let count = are.few in
      omega (arith, few_here, sums, whole, split, cons, rows, more, count)

  module _ (rows nothing : Status) (whole : List (StartRows S W) → List ℕ) (part : List (StartRows S W) → StartRows S W → Header → List ℕ) (lines : ℕ → S → List (Row W) → List ℕ) where
    abbrev IsDecided : Status → Type 0
    IsDecided status = IsDecidedBy rows nothing (SomeTold AreTargets AreStarts wanted) (FewCells AreTargets AreStarts wanted) status

    some_decides : (told : List (StartRows S W)) → AreToldAll w starts told → 0 < row_count told → IsDecided rows
    some_decides told are some = record {
      some = λ x. inl refl;
      few = λ x f. refl;
      none = λ not.
          let at = some_rows told some in
          absurd (not (row_tells at.0 (subst (λ (l : List S). Contains l at.0.start) are.starts_are (Contains-map (λ (t : StartRows S W). t.start) told at.0 at.1.0))
          (All-contains (IsToldFrom w) told at.0 are.each at.1.0) at.1.1));
    }

    none_decides : (told : List (StartRows S W)) → AreToldAll w starts told → row_count told ≡ 0 → IsDecided nothing
    none_decides told are none = record {
      some = λ x. absurd (all_told told are x none);
      few = λ x f. absurd (all_told told are x none);
      none = λ not. refl;
    }

    more_decides : (told : List (StartRows S W)) (last : StartRows S W) (next : Header) → AreToldInPart w starts told last next → IsDecided ends.More
    more_decides told last next are = record {
      some = λ x. inr refl;
      few = λ x f. absurd (many_cells told last next are f);
      none = λ not. absurd (not (record {
        targets = targets;
        targets_are = targets_are;
        starts = starts;
        starts_are = starts_are;
        start = last.start;
        among = last_among w lines starts told last next are;
        header = next;
        inside = are.part.next_is.inside;
        told = are.part.next_is.told;
      }));
    }

    pub told_decides : (status : Status) (text : List ℕ) → IsTold rows nothing whole part w starts status text → IsDecided status
    told_decides status text (answered.some told are some status_is text_is) = subst IsDecided (sym status_is) (some_decides told are some)
    told_decides status text (answered.none told are none status_is text_is) = subst IsDecided (sym status_is) (none_decides told are none)
    told_decides status text (answered.more told last next are status_is text_is) = subst IsDecided (sym status_is) (more_decides told last next are)

-- ---- no device

pub told_is_none : {S W : Type 0} (rows nothing : Status) (whole : List (StartRows S W) → List ℕ) (part : List (StartRows S W) → StartRows S W → Header → List ℕ) (w : Wanted S W) (starts : List S) (status : Status) (text : List ℕ)
    → (IsOfDevice rows → ⊥) → (IsOfDevice nothing → ⊥) → IsTold rows nothing whole part w starts status text → IsOfDevice status → ⊥
told_is_none rows nothing whole part w starts status text one other (answered.some told are some status_is text_is) h = no_device status rows status_is one h
told_is_none rows nothing whole part w starts status text one other (answered.none told are none status_is text_is) h = no_device status nothing status_is other h
told_is_none rows nothing whole part w starts status text one other (answered.more told last next are status_is text_is) h = no_device status ends.More status_is more_is_none h
