-- What a chain adds to a list.
use Rattle.std.proofs.Common.{◌≡◌, ◌∙◌, ◌++◌, ◌<◌, List, Option, Result, Some, ap, length, map, refl, subst, sym}
use Rattle.std.specs.Iterator.{Drains, Yields, YieldsThen}
use Rattle.std.specs.Result.{MatchResult, OnOk}
use Rattle.std.proofs.lemmas.Iterator.{YieldsList}
use Rattle.std.proofs.lemmas.Iterator.Adapters.{fact_from_extend}
use Rattle.std.proofs.lemmas.Iterator.Consumers.{YieldsList-at, YieldsList-turn}
use Rattle.std.proofs.lemmas.List.{map-append}

-- what `extend` adds of a chain, in the words of its items
pub map_from_extend : {T A C E : Type 0} {steps : T → Option A → T → Type 0} {all : List C} {s : T} {P : List A → Type 0} (v : A → C) (old new : List A) (r : Result (Unit {0}) E)
    → ((it : T) × (xs : List A) × (it ≡ s) × P xs × MatchResult r (λ _. Drains steps it xs) (λ _. (t : T) × Yields steps it xs t))
    → YieldsList steps v s all → ((xs : List A) → P xs → new ≡ old ++ xs) → OnOk r (map v new ≡ map v old ++ all)
map_from_extend v old new r ran road says =
    fact_from_extend v r ran (λ it is. YieldsList-at is road) (λ xs yields gives. ap (map v) (says xs gives) ∙ map-append v old xs ∙ ap (λ ys. map v old ++ ys) yields)

-- a chain that has one more item after these is longer than they are
pub longer_if_more : {T A C : Type 0} {steps : T → Option A → T → Type 0} {all : List C} {s it : T} (v : A → C) (xs new : List A) (x : A) (rest : T)
    → it ≡ s → YieldsThen steps it xs (Some x) rest → new ≡ xs → YieldsList steps v s all → length new < length all
longer_if_more {all = all} v xs new x rest is yields are road =
    subst (λ (ys : List _). length ys < length all) (sym are) (YieldsList-turn (YieldsList-at is road) xs yields.0 yields.1 (Some x) rest x refl yields.2).0
