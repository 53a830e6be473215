-- The cells that cuts make of a box are told by the cuts that divide its sides.
use Rattle.std.proofs.Common.{◌≡◌, ◌*◌, ◌+◌, ◌||◌, ℕ, Bool, true, List, ap, sym, subst, ◌∙◌, length}
use Rattle.std.specs.List.{Contains, filter}
use Rattle.std.specs.List.Sorted.{IsStrictlyIncreasing}
use Rattle.std.proofs.lemmas.List.Kept.{IsStrictlyIncreasing-filter}
use Rattle.std.proofs.lemmas.List.Sums.{length-filter}
use Rattle.std.proofs.lemmas.Bool.{or_left, or_right}
use Rattle.vpc_base.specs.Cuts.{AreAmong, CutLists}
use Rattle.vpc_base.proofs.Members.{Contains-filter}
use Rattle.cut_laws.proofs.Among.{Within, among_itself, among_through}
use Rattle.header_boxes.specs.Cells.{AreAscending, cells_of, pieces_of}
use Rattle.vpc_model.specs.Cuts.{cuts_of, on_sides}
use Rattle.vpc_model.specs.Report.{IsCellCount}
use Rattle.cut_points.specs.Cuts.{HasCuts}
use Rattle.cut_points.specs.Dividing.{divides, dividing}
use Rattle.cut_points.specs.Gathered.{own_cuts}
use Rattle.cut_points.specs.Types.{Box5, Description}
use Rattle.cut_points.proofs.Among.{HasCuts-from_gathered}
use Rattle.cut_points.proofs.Increasing.{from_filter, increasing, increasing-all, increasing-increases, increasing-no_others, kept_within, same_list}

-- each number of the first that divides the range is one of the second
abbrev DividesWithin : ℕ × ℕ → List ℕ → List ℕ → Type 0
DividesWithin r xs ys = (c : ℕ) → divides r c ≡ true → Contains xs c → Contains ys c

-- lists that the same numbers of divide a range make as many pieces of it
pieces_of-same : (r : ℕ × ℕ) (xs ys : List ℕ) → IsStrictlyIncreasing xs → IsStrictlyIncreasing ys → DividesWithin r xs ys → DividesWithin r ys xs → pieces_of xs r ≡ pieces_of ys r
pieces_of-same r xs ys up_x up_y there back =
    let kept = same_list (filter (divides r) xs) (filter (divides r) ys) (IsStrictlyIncreasing-filter (divides r) xs up_x) (IsStrictlyIncreasing-filter (divides r) ys up_y)
    (kept_within (divides r) xs ys there) (kept_within (divides r) ys xs back) in
    ap (λ (n : ℕ). n + 1) (sym (length-filter (divides r) xs) ∙ ap length kept ∙ length-filter (divides r) ys)

-- ---- a side

-- what was kept of a list, in ascending order, makes as many pieces of the range as all of the list, where nothing that divides the range was dropped
pieces_of-kept : (r : ℕ × ℕ) (keep : ℕ → Bool) (all few : List ℕ) → ((c : ℕ) → divides r c ≡ true → keep c ≡ true) → IsStrictlyIncreasing few
    → Within few (filter keep all) → Within (filter keep all) few → pieces_of few r ≡ pieces_of (increasing all) r
pieces_of-kept r keep all few kept up no_others has =
    pieces_of-same r few (increasing all) up (increasing-increases all)
    (λ c passes h. increasing-all all c (from_filter keep all c (no_others c h)))
    (λ c passes h. has c (Contains-filter keep all c (increasing-no_others all c h) (kept c passes)))

-- ---- a box

-- all cuts in ascending order, each once
abbrev pub increasing_cuts : CutLists → CutLists
increasing_cuts cuts = record { proto = increasing cuts.proto; addr = increasing cuts.addr; p = increasing cuts.p; q = increasing cuts.q }

same_product : (a b c d e a' b' c' d' e' : ℕ) → a ≡ a' → b ≡ b' → c ≡ c' → d ≡ d' → e ≡ e' → a * (b * (c * (d * e))) ≡ a' * (b' * (c' * (d' * e')))
same_product a b c d e a' b' c' d' e' ea eb ec ed ee = cc

cells_of-dividing : (all few : CutLists) (b : Box5) → AreAscending few → HasCuts (dividing all b) few → cells_of few b ≡ cells_of (increasing_cuts all) b
cells_of-dividing all few b up has =
    let either = λ (c : ℕ). divides b.src c || divides b.dst c in
    same_product
    (pieces_of few.proto b.proto) (pieces_of few.addr b.src) (pieces_of few.addr b.dst) (pieces_of few.p b.p) (pieces_of few.q b.q)
    (pieces_of (increasing all.proto) b.proto) (pieces_of (increasing all.addr) b.src) (pieces_of (increasing all.addr) b.dst) (pieces_of (increasing all.p) b.p) (pieces_of (increasing all.q) b.q)
    (pieces_of-kept b.proto (divides b.proto) all.proto few.proto (λ c e. e) up.proto has.no_others.proto has.all.proto)
    (pieces_of-kept b.src either all.addr few.addr (λ c e. or_left (divides b.src c) (divides b.dst c) e) up.addr has.no_others.addr has.all.addr)
    (pieces_of-kept b.dst either all.addr few.addr (λ c e. or_right (divides b.src c) (divides b.dst c) e) up.addr has.no_others.addr has.all.addr)
    (pieces_of-kept b.p (divides b.p) all.p few.p (λ c e. e) up.p has.no_others.p has.all.p)
    (pieces_of-kept b.q (divides b.q) all.q few.q (λ c e. e) up.q has.no_others.q has.all.q)

-- of cuts that are among others, those that divide the box are among those of the others
dividing_among : (few all : CutLists) (b : Box5) → AreAmong few all → AreAmong (dividing few b) (dividing all b)
dividing_among few all b among = record {
  proto = kept_within (divides b.proto) few.proto all.proto (λ c passes. among.proto c);
  addr = kept_within (λ c. divides b.src c || divides b.dst c) few.addr all.addr (λ c passes. among.addr c);
  p = kept_within (divides b.p) few.p all.p (λ c passes. among.p c);
  q = kept_within (divides b.q) few.q all.q (λ c passes. among.q c);
}

-- the cells of what divides the box, out of what was gathered, are those of the description
pub is_cell_count : (d : Description) (gathered kept few : CutLists) (b : Box5) (n : ℕ) → gathered ≡ on_sides (own_cuts d) → kept ≡ dividing gathered b
    → AreAscending few → HasCuts kept few → n ≡ cells_of few b → IsCellCount d b n
is_cell_count d gathered kept few b n is kept_is up has_kept count =
    let all = cuts_of d in
    let own = HasCuts-from_gathered d gathered gathered is (record { no_others = among_itself gathered; all = among_itself gathered }) in
    let has = subst (λ (k : CutLists). HasCuts k few) kept_is has_kept in
    let divided : HasCuts (dividing all b) few = record {
      no_others = among_through few (dividing gathered b) (dividing all b) has.no_others (dividing_among gathered all b own.no_others);
      all = among_through (dividing all b) (dividing gathered b) few (dividing_among all gathered b own.all) has.all;
    } in
    record {
      cuts = increasing_cuts all;
      ascending = record { proto = increasing-increases all.proto; addr = increasing-increases all.addr; p = increasing-increases all.p; q = increasing-increases all.q };
      no_others = record { proto = increasing-no_others all.proto; addr = increasing-no_others all.addr; p = increasing-no_others all.p; q = increasing-no_others all.q };
      all = record { proto = increasing-all all.proto; addr = increasing-all all.addr; p = increasing-all all.p; q = increasing-all all.q };
      count = count ∙ cells_of-dividing all few b up divided;
    }
