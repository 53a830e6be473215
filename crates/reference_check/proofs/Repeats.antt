-- What stands twice in a list that is gone through part by part.
use Rattle.std.proofs.Common.{◌+◌, ◌++◌, ◌<◌, ◌≡◌, ◌∙◌, ◌∷◌, [], Bool, List, ap, append_assoc, cond, drop, false, get_or, length, map, subst, sym, take, true, ℕ}
use Rattle.std.specs.List.{flat_map, list_any}
use Rattle.std.proofs.lemmas.Grind.{flat_map-append, take_at_read}
use Rattle.std.proofs.lemmas.List.{append-nil, drop_more, map-append}
use Rattle.vpc_base.proofs.Members.{map-nothing}
use Rattle.vpc_model.specs.Accepted.{first_cause, repeats, repeats_after}
use Rattle.vpc_model.specs.declared.refusals.Refusal.{Refusal}
use Rattle.reference_check.specs.Told.{IsTold}
use Rattle.reference_check.proofs.Told.{told_first}

pub repeats_after-append : {X : Type 0} (same : X → X → Bool) (earlier xs ys : List X) → repeats_after same earlier (xs ++ ys) ≡ repeats_after same earlier xs ++ repeats_after same (earlier ++ xs) ys
repeats_after-append same earlier [] ys = ap (λ es. repeats_after same es ys) (sym (append-nil earlier))
repeats_after-append {X = X} same earlier (x ∷ xs) ys = by (list_any (same x) earlier) (repeats_after-append same (earlier ++ x ∷ []) xs ys) (append_assoc earlier (x ∷ []) xs)
  where
    by : (b : Bool) → repeats_after same (earlier ++ x ∷ []) (xs ++ ys) ≡ repeats_after same (earlier ++ x ∷ []) xs ++ repeats_after same ((earlier ++ x ∷ []) ++ xs) ys → (earlier ++ x ∷ []) ++ xs ≡ earlier ++ (x ∷ xs) → cond b (x ∷ repeats_after same (earlier ++ x ∷ []) (xs ++ ys)) (repeats_after same (earlier ++ x ∷ []) (xs ++ ys)) ≡ cond b (x ∷ repeats_after same (earlier ++ x ∷ []) xs) (repeats_after same (earlier ++ x ∷ []) xs) ++ repeats_after same (earlier ++ x ∷ xs) ys
    by true h e = ap (λ zs. x ∷ zs) (h ∙ ap (λ zs. repeats_after same (earlier ++ x ∷ []) xs ++ repeats_after same zs ys) e)
    by false h e = h ∙ ap (λ zs. repeats_after same (earlier ++ x ∷ []) xs ++ repeats_after same zs ys) e

-- one part, and the later ones
repeats-part : {X E : Type 0} (same : X → X → Bool) (earlier : List X) (g : E → List X) (es : List E) (i : ℕ) (e : E) → i < length es → e ≡ get_or es i e → repeats_after same earlier (flat_map g (drop i es)) ≡ repeats_after same earlier (g e) ++ repeats_after same (earlier ++ g e) (flat_map g (drop (i + 1) es))
repeats-part {E = E} same earlier g es i e within is =
    let next : drop i es ≡ e ∷ drop (i + 1) es = drop_more es i e within ∙ ap (λ (x : E). x ∷ drop (i + 1) es) (sym is) in
    ap (λ (xs : List E). repeats_after same earlier (flat_map g xs)) next ∙ repeats_after-append same earlier (g e) (flat_map g (drop (i + 1) es))

-- where nothing of the part stands twice
pub repeats-later : {X E : Type 0} (cause : X → Refusal) (same : X → X → Bool) (earlier all : List X) (g : E → List X) (es : List E) (i : ℕ) (e : E) → i < length es → e ≡ get_or es i e → repeats_after same earlier (flat_map g (drop i es)) ≡ repeats same all → map cause (repeats_after same earlier (g e)) ≡ [] → repeats_after same (earlier ++ g e) (flat_map g (drop (i + 1) es)) ≡ repeats same all
repeats-later {X = X} cause same earlier all g es i e within is rest none =
    let none' = map-nothing cause (repeats_after same earlier (g e)) none in
    sym (ap (λ (xs : List X). xs ++ repeats_after same (earlier ++ g e) (flat_map g (drop (i + 1) es))) none') ∙ sym (repeats-part same earlier g es i e within is) ∙ rest

-- where something does
pub repeats-told : {X E : Type 0} (cause : X → Refusal) (same : X → X → Bool) (earlier all : List X) (g : E → List X) (es : List E) (i : ℕ) (e : E) (told : Refusal) → i < length es → e ≡ get_or es i e → repeats_after same earlier (flat_map g (drop i es)) ≡ repeats same all → IsTold (first_cause (map cause (repeats_after same earlier (g e)))) told → IsTold (first_cause (map cause (repeats same all))) told
repeats-told {X = X} cause same earlier all g es i e told within is rest h =
    let later = repeats_after same (earlier ++ g e) (flat_map g (drop (i + 1) es)) in
    let whole = sym (map-append cause (repeats_after same earlier (g e)) later) ∙ ap (map cause) (sym (repeats-part same earlier g es i e within is) ∙ rest) in
    let P : List Refusal → Type 0 = λ causes. IsTold (first_cause causes) told in
    subst P whole (told_first (map cause (repeats_after same earlier (g e))) (map cause later) told h)

pub flat_map-taken : {X E : Type 0} (g : E → List X) (es : List E) (i : ℕ) (e : E) → i < length es → e ≡ get_or es i e → flat_map g (take i es) ++ g e ≡ flat_map g (take (i + 1) es)
flat_map-taken {E = E} g es i e within is =
    let taken : take (i + 1) es ≡ take i es ++ e ∷ [] = (take_at_read es i e within).1 ∙ ap (λ (y : E). take i es ++ y ∷ []) (sym is) in
    ap (λ ys. flat_map g (take i es) ++ ys) (sym (append-nil (g e))) ∙ sym (flat_map-append g (take i es) (e ∷ [])) ∙ ap (flat_map g) (sym taken)
