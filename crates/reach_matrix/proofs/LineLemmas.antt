-- Texts of pairs, one after another.
use Rattle.std.proofs.Common.{◌≡◌, ◌≢◌, ◌∙◌, ◌+◌, ◌++◌, ◌<◌, ◌==◌, ◌∷◌, [], Err, List, Ok, OnOk, Result, ap, append-nil, append_assoc, arith, cond, false, filter, get_or, length, map, not, refl, subst, sym, take, true, ℕ}
use Rattle.std.specs.List.{flat_map}
use Rattle.std.proofs.lemmas.Bool.Decides.{nat_tests}
use Rattle.std.proofs.lemmas.Grind.{flat_map-append}
use Rattle.std.proofs.lemmas.List.{map-append, take_more}
use Rattle.std.proofs.lemmas.List.Elements.{filter-append}
use Rattle.block_report.specs.Words.{line_end}
use Rattle.block_report.proofs.Texts.{append_parts}
use Rattle.vpc_laws.specs.Types.{Description, EniNo}
use Rattle.reach_matrix.specs.Matrix.{Adds, AreTexts, IsPairLine, IsTold, names_text, pairs_from, ranges_text}
use Rattle.reach_matrix.specs.Matrix as matrix
use Rattle.reach_matrix.specs.Pairs.{have_addresses}
use Rattle.reach_matrix.specs.Ranges.{ArePairRanges}

-- ---- texts

texts-more : {X : Type 0} (is : X → List ℕ → Type 0) (xs ys : List X) (s t : List ℕ) → AreTexts is xs s → AreTexts is ys t → AreTexts is (xs ++ ys) (s ++ t)
texts-more is [] ys s t none later = subst (λ (u : List ℕ). AreTexts is ys (u ++ t)) (sym none) later
texts-more is (x ∷ xs) ys s t (first, (rest, (one, (others, e)))) later =
    (first, (rest ++ t, (one, (texts-more is xs ys rest t others later, ap (λ (u : List ℕ). u ++ t) e ∙ append_assoc first rest t))))

-- those of one list and of another
pub adds_more : {X : Type 0} (is : X → List ℕ → Type 0) (xs ys : List X) (a b c : List ℕ) → Adds (AreTexts is xs) a b → Adds (AreTexts is ys) b c → Adds (AreTexts is (xs ++ ys)) a c
adds_more is xs ys a b c (s, (are, first)) (t, (others, second)) =
    (s ++ t, (texts-more is xs ys s t are others, second ∙ (ap (λ (u : List ℕ). u ++ t) first ∙ append_assoc a s t)))

pub adds_none : {X : Type 0} (is : X → List ℕ → Type 0) (a : List ℕ) → Adds (AreTexts is []) a a
adds_none is a = ([], (refl, sym (append-nil a)))

-- that of one item
pub adds_one : {X : Type 0} (is : X → List ℕ → Type 0) (x : X) (a b : List ℕ) → Adds (is x) a b → Adds (AreTexts is (x ∷ [])) a b
adds_one is x a b (s, (one, e)) = (s, ((s, ([], (one, (refl, sym (append-nil s))))), e))

-- ---- a row of pairs

pairs-append : (xs ys : List EniNo) (from : EniNo) → pairs_from (xs ++ ys) from ≡ pairs_from xs from ++ pairs_from ys from
pairs-append xs ys from =
    ap (map (λ (to : EniNo). (from, to))) (filter-append (λ (to : EniNo). not (to.0 == from.0)) xs ys)
    ∙ map-append (λ (to : EniNo). (from, to)) (filter (λ (to : EniNo). not (to.0 == from.0)) xs) (filter (λ (to : EniNo). not (to.0 == from.0)) ys)

-- one more interface
pub row_more : (is : EniNo × EniNo → List ℕ → Type 0) (hosts : List EniNo) (from : EniNo) (k : ℕ) (to : EniNo) (a b c : List ℕ) → k < length hosts → to ≡ get_or hosts k to
    → Adds (AreTexts is (pairs_from (take k hosts) from)) a b → Adds (AreTexts is (pairs_from (to ∷ []) from)) b c → Adds (AreTexts is (pairs_from (take (k + 1) hosts) from)) a c
row_more is hosts from k to a b c within at so_far one =
    let front = take_more hosts k to within ∙ ap (λ (x : EniNo). take k hosts ++ x ∷ []) (sym at) in
    subst (λ (ps : List (EniNo × EniNo)). Adds (AreTexts is ps) a c) (sym (ap (λ (hs : List EniNo). pairs_from hs from) front ∙ pairs-append (take k hosts) (to ∷ []) from))
    (adds_more is (pairs_from (take k hosts) from) (pairs_from (to ∷ []) from) a b c so_far one)

-- one more row
pub rows_more : (is : EniNo × EniNo → List ℕ → Type 0) (hosts : List EniNo) (k : ℕ) (from : EniNo) (a b c : List ℕ) → k < length hosts → from ≡ get_or hosts k from
    → Adds (AreTexts is (flat_map (pairs_from hosts) (take k hosts))) a b → Adds (AreTexts is (pairs_from hosts from)) b c → Adds (AreTexts is (flat_map (pairs_from hosts) (take (k + 1) hosts))) a c
rows_more is hosts k from a b c within at so_far row =
    let front = take_more hosts k from within ∙ ap (λ (x : EniNo). take k hosts ++ x ∷ []) (sym at) in
    let all = ap (flat_map (pairs_from hosts)) front
    ∙ (flat_map-append (pairs_from hosts) (take k hosts) (from ∷ [])
    ∙ ap (λ (ps : List (EniNo × EniNo)). flat_map (pairs_from hosts) (take k hosts) ++ ps) (append-nil (pairs_from hosts from))) in
    subst (λ (ps : List (EniNo × EniNo)). Adds (AreTexts is ps) a c) (sym all)
    (adds_more is (flat_map (pairs_from hosts) (take k hosts)) (pairs_from hosts from) a b c so_far row)

-- an interface has no line with itself
pub same_adds : (is : EniNo × EniNo → List ℕ → Type 0) (from to : EniNo) (a : List ℕ) → to.0 ≡ from.0 → Adds (AreTexts is (pairs_from (to ∷ []) from)) a a
same_adds is from to a same =
    let test : (to.0 == from.0) ≡ true = grind (arith, nat_tests) in
    subst (λ b. Adds (AreTexts is (map (λ (x : EniNo). (from, x)) (cond (not b) (to ∷ []) []))) a a) (sym test) (adds_none is a)

pub other_adds : (is : EniNo × EniNo → List ℕ → Type 0) (from to : EniNo) (a b : List ℕ) → to.0 ≢ from.0 → Adds (is (from, to)) a b → Adds (AreTexts is (pairs_from (to ∷ []) from)) a b
other_adds is from to a b other one =
    let test : (to.0 == from.0) ≡ false = grind (arith, nat_tests) in
    subst (λ t. Adds (AreTexts is (map (λ (x : EniNo). (from, x)) (cond (not t) (to ∷ []) []))) a b) (sym test) (adds_one is (from, to) a b one)

-- ---- what is told

pub told_added : {E : Type 0} (d : Description) (ports : ℕ × ℕ) (pair : EniNo × EniNo) (r : Result (Unit {0}) E) (old new : List ℕ) (ranges slice : List (ℕ × ℕ)) → have_addresses d pair ≡ true → ArePairRanges d ports pair ranges → slice ≡ ranges
    → OnOk r (new ≡ old ++ ranges_text slice) → OnOk r (Adds (IsTold d ports pair) old new)
told_added d ports pair (Ok u) old new ranges slice have are is added = (ranges_text ranges, (matrix.found ranges have are refl, added ∙ ap (λ (rs : List (ℕ × ℕ)). old ++ ranges_text rs) is))
told_added d ports pair (Err e) old new ranges slice have are is added = tt

-- ---- a line

pub line_added : {E : Type 0} (d : Description) (ports : ℕ × ℕ) (pair : EniNo × EniNo) (r : Result (Unit {0}) E) (old one two three : List ℕ) → one ≡ old ++ names_text d pair
    → Adds (IsTold d ports pair) one two → OnOk r (three ≡ two ++ line_end) → OnOk r (Adds (IsPairLine d ports pair) old three)
line_added d ports pair (Ok u) old one two three named (told, (is, added)) ended = (
  names_text d pair ++ told ++ line_end,
  (
    record { told = told; is_told = is; text_is = refl },
    ended ∙ (ap (λ (t : List ℕ). t ++ line_end) (added ∙ ap (λ (t : List ℕ). t ++ told) named) ∙ append_parts old (names_text d pair) told line_end),
  ),
)
line_added d ports pair (Err e) old one two three named adds ended = tt
