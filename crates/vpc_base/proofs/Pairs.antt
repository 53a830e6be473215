-- What holds of each item and each later one.
use Rattle.std.proofs.Common.{◌∷◌, ◌++◌, [], All, AllPairs, List, arith, map, suc}
use Rattle.std.proofs.lemmas.List.Elements.{All-append, All-head, All-map, All-tail}
use Rattle.std.proofs.lemmas.List.Kept.{AllPairs-cons}

pub AllPairs-tail : {X : Type 0} (R : X → X → Type 0) (x : X) (xs : List X) → AllPairs R (x ∷ xs) → AllPairs R xs
AllPairs-tail R x xs pairs = λ i j d before inside. pairs (suc i) (suc j) d (omega arith) (omega arith)

pub AllPairs-map : {X Y : Type 0} (R : Y → Y → Type 0) (f : X → Y) (xs : List X) → AllPairs (λ a b. R (f a) (f b)) xs → AllPairs R (map f xs)
AllPairs-map R f [] h = λ i j d lt inside. absurd (omega arith)
AllPairs-map R f (x ∷ xs) h =
    AllPairs-cons R (f x) (map f xs) (All-map (R (f x)) f xs (λ k d lt. h 0 (suc k) d (omega arith) (omega arith)))
    (AllPairs-map R f xs (λ i j d lt inside. h (suc i) (suc j) d (omega arith) (omega arith)))

-- two lists one after the other, where it holds of each item of the first and each of the second
pub AllPairs-joined : {X : Type 0} (R : X → X → Type 0) (xs ys : List X) → AllPairs R xs → AllPairs R ys → All (λ x. All (R x) ys) xs → AllPairs R (xs ++ ys)
AllPairs-joined R [] ys one other across = other
AllPairs-joined R (x ∷ xs) ys one other across =
    AllPairs-cons R x (xs ++ ys)
    (All-append (R x) xs ys (λ k d lt. one 0 (suc k) d (omega arith) (omega arith)) (All-head (λ y. All (R y) ys) x xs across))
    (AllPairs-joined R xs ys (λ i j d lt inside. one (suc i) (suc j) d (omega arith) (omega arith)) other (All-tail (λ y. All (R y) ys) x xs across))
