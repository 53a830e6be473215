-- Packets of lines, one after another.
use Rattle.std.proofs.Common.{◌≡◌, ◌==◌, ◌≢◌, if◌then◌else◌, ◌∙◌, ◌+◌, ◌<◌, ◌≤◌, ◌++◌, ◌∷◌, [], Bool, Bor, List, None, Option, Some, Result, Err, Ok, ap, append_assoc, arith, drop, false, get_or, length, map, min, refl, subst, sym, take, true, ℕ}
use Rattle.std.proofs.Math.Seq.{take-length}
use Rattle.std.proofs.lemmas.Bool.{ne_eqb}
use Rattle.std.proofs.lemmas.List.{append-nil, drop_all, drop_more, length-take, take_min}
use Rattle.std.specs.List.{filter_map, position_from}
use Rattle.std.specs.Prelude.{IfOk, IfSome}
use Rattle.std.specs.Result.{result_ok}
use Rattle.query_words.specs.Refusal.{Answers}
use Rattle.query_words.specs.declared.refusal.QueryRefusal.{QueryRefusal}
use Rattle.query_words.specs.declared.refusal.QueryRefusal.TheVariants as refusals

-- ---- what was read

-- a refusal that was told is meant, unless memory was wanting
pub refused_if_told : {A : Type 0} (meant : Result A QueryRefusal) (cause : QueryRefusal) → Answers meant (Err cause) → cause ≢ refusals.Memory → meant ≡ Err cause
refused_if_told meant (refusals.BadWord n) is not = is
refused_if_told meant (refusals.UnknownId n) is not = is
refused_if_told meant (refusals.NotAnEnd id) is not = is
refused_if_told meant (refusals.NotAStart n) is not = is
refused_if_told meant refusals.BothInternet is not = is
refused_if_told meant (refusals.EmptyRange n) is not = is
refused_if_told meant refusals.MaxOutOfRange is not = is
refused_if_told meant (refusals.NoAddress id) is not = is
refused_if_told meant refusals.Memory is not = absurd (not refl)

meant_if_told : {A : Type 0} (meant read : Result A QueryRefusal) → Answers meant read → read ≢ Err refusals.Memory → meant ≡ read
meant_if_told meant (Ok value) is not = is
meant_if_told meant (Err cause) is not = refused_if_told meant cause is (λ same. not (ap (λ (c : QueryRefusal). Err c) same))

-- the value that was read is the one that is meant
pub read-meant : {A E : Type 0} (meant read : Result A QueryRefusal) (r : Result (Option A) E) → Answers meant read
    → IfOk r (λ o. o ≡ result_ok read) → IfOk r (λ o. read ≢ Err refusals.Memory) → IfOk r (λ o. o ≡ result_ok meant)
read-meant meant read (Ok o) answers is told = is ∙ ap result_ok (sym (meant_if_told meant read answers told))
read-meant meant read (Err e) answers is told = tt

some_read : {A : Type 0} (P : A → Type 0) (read : Result A QueryRefusal) → IfOk read P → IfSome (result_ok read) P
some_read P (Ok value) holds = holds
some_read P (Err cause) holds = tt

-- what holds of each value that is read holds of it
pub read-holds : {A E : Type 0} (P : A → Type 0) (read : Result A QueryRefusal) (r : Result (Option A) E) → IfOk read P
    → IfOk r (λ o. o ≡ result_ok read) → IfOk r (λ o. IfSome o P)
read-holds P read (Ok o) holds is = subst (λ (v : Option _). IfSome v P) (sym is) (some_read P read holds)
read-holds P read (Err e) holds is = tt

-- ---- one line more

-- what remains begins with the next line
first_of : {X : Type 0} (lines : List (Bor X)) (k : ℕ) (line d : Bor X) → k < length lines → line ≡ get_or lines k d → drop k lines ≡ line ∷ drop (k + 1) lines
first_of {X = X} lines k line d within at = drop_more lines k d within ∙ ap (λ (l : Bor X). l ∷ drop (k + 1) lines) (sym at)

pub packets-step : {X Y : Type 0} (f : X → Option Y) (lines : List (Bor X)) (k : ℕ) (line d : Bor X) (e : Y) (all es whole : List Y)
    → k < length lines → line ≡ get_or lines k d → f line.now ≡ Some e → all ≡ es ++ e ∷ []
    → es ++ filter_map f (map (λ t. t.now) (drop k lines)) ≡ whole → all ++ filter_map f (map (λ t. t.now) (drop (k + 1) lines)) ≡ whole
packets-step {X = X} f lines k line d e all es whole within at some are rest =
    ap (λ (xs : List _). xs ++ filter_map f (map (λ t. t.now) (drop (k + 1) lines))) are
    ∙ (append_assoc es (e ∷ []) (filter_map f (map (λ t. t.now) (drop (k + 1) lines)))
    ∙ (sym (ap (λ (xs : List (Bor X)). es ++ filter_map f (map (λ t. t.now) xs)) (first_of lines k line d within at) ∙ rw some refl) ∙ rest))

pub number-step : {X : Type 0} (p : X → Bool) (lines : List (Bor X)) (k : ℕ) (line d : Bor X) (whole : Option ℕ)
    → k < length lines → line ≡ get_or lines k d → p line.now ≡ false
    → position_from p (k + 1) (map (λ t. t.now) (drop k lines)) ≡ whole → position_from p (k + 1 + 1) (map (λ t. t.now) (drop (k + 1) lines)) ≡ whole
number-step {X = X} p lines k line d whole within at good rest =
    sym (ap (λ (xs : List (Bor X)). position_from p (k + 1) (map (λ t. t.now) xs)) (first_of lines k line d within at) ∙ rw good refl) ∙ rest

pub number-here : {X : Type 0} (p : X → Bool) (lines : List (Bor X)) (k : ℕ) (line d : Bor X) (whole : Option ℕ)
    → k < length lines → line ≡ get_or lines k d → p line.now ≡ true
    → position_from p (k + 1) (map (λ t. t.now) (drop k lines)) ≡ whole → whole ≡ Some (k + 1)
number-here {X = X} p lines k line d whole within at bad rest =
    sym rest ∙ (ap (λ (xs : List (Bor X)). position_from p (k + 1) (map (λ t. t.now) xs)) (first_of lines k line d within at) ∙ rw bad refl)

-- no line is left
pub packets-end : {X Y : Type 0} (f : X → Option Y) (lines : List (Bor X)) (k : ℕ) (es whole : List Y)
    → length lines ≤ k → es ++ filter_map f (map (λ t. t.now) (drop k lines)) ≡ whole → es ≡ whole
packets-end {X = X} f lines k es whole past rest =
    sym (append-nil es) ∙ (ap (λ (xs : List (Bor X)). es ++ filter_map f (map (λ t. t.now) xs)) (sym (drop_all k lines past)) ∙ rest)

pub number-end : {X : Type 0} (p : X → Bool) (lines : List (Bor X)) (k : ℕ) (whole : Option ℕ)
    → length lines ≤ k → position_from p (k + 1) (map (λ t. t.now) (drop k lines)) ≡ whole → whole ≡ None
number-end {X = X} p lines k whole past rest =
    sym rest ∙ ap (λ (xs : List (Bor X)). position_from p (k + 1) (map (λ t. t.now) xs)) (drop_all k lines past)

-- ---- the words of a line

eight_of : (n : ℕ) → min 9 n ≡ 8 → n ≡ 8
eight_of n is = omega arith

least_of : (n : ℕ) → n ≡ 8 → min 9 n ≡ n
least_of n is = omega arith

-- the first nine of a list are eight where all of it are
take-eight : {X : Type 0} (xs ys : List X) → ys ≡ take 9 xs → length ys ≡ 8 → xs ≡ ys
take-eight xs ys are eight =
    let all = eight_of (length xs) (sym (length-take 9 xs) ∙ (ap length (sym are) ∙ eight)) in
    sym (are ∙ (sym (take_min 9 xs) ∙ (ap (λ n. take n xs) (least_of (length xs) all) ∙ take-length xs)))

length-eight : {X : Type 0} (xs ys : List X) → ys ≡ take 9 xs → length xs ≡ 8 → length ys ≡ 8
length-eight xs ys are eight = ap length are ∙ (length-take 9 xs ∙ (ap (min 9) eight))

-- what eight words give is what the line gives
pub eight-words : {X Y : Type 0} (f : List X → Option Y) (xs ys : List X) (other : Option Y) → ys ≡ take 9 xs → length ys ≡ 8
    → (if length xs == 8 then f xs else other) ≡ f ys
eight-words f xs ys other are eight = rw (take-eight xs ys are eight, eight) refl

pub other-words : {X Y : Type 0} (f : List X → Option Y) (xs ys : List X) (other : Option Y) → ys ≡ take 9 xs → (length ys ≡ 8 → ⊥)
    → (if length xs == 8 then f xs else other) ≡ other
other-words f xs ys other are not = rw (ne_eqb (length xs) 8 (λ is. not (length-eight xs ys are is))) refl
