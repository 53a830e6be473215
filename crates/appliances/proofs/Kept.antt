-- Loops that go through rows and keep what is made of some.
use Rattle.std.proofs.Common.{◌≡◌, ◌∙◌, ◌++◌, ◌+◌, ◌<◌, ◌∷◌, [], Bool, List, ap, cond, false, filter, get_or, length, map, sym, take, true, ℕ}
use Rattle.std.proofs.lemmas.List.{append-nil, map-append}
use Rattle.std.proofs.lemmas.List.Elements.{filter_more}

-- a row that passes is kept
pub kept-more : {X Y : Type 0} (p : X → Bool) (f : X → Y) (rows : List X) (k : ℕ) (x : X) (old new : List Y) → k < length rows → x ≡ get_or rows k x
    → old ≡ map f (filter p (take k rows)) → p x ≡ true → new ≡ old ++ f x ∷ [] → new ≡ map f (filter p (take (k + 1) rows))
kept-more {X} p f rows k x old new within is so_far passes added =
    let more : filter p (take (k + 1) rows) ≡ filter p (take k rows) ++ x ∷ [] =
    filter_more p rows k x within ∙ ap (λ (y : X). filter p (take k rows) ++ cond (p y) (y ∷ []) []) (sym is) ∙ ap (λ b. filter p (take k rows) ++ cond b (x ∷ []) []) passes in
    added ∙ ap (λ l. l ++ f x ∷ []) so_far ∙ sym (map-append f (filter p (take k rows)) (x ∷ [])) ∙ ap (map f) (sym more)

-- and one that doesn't is passed over
pub kept-same : {X Y : Type 0} (p : X → Bool) (f : X → Y) (rows : List X) (k : ℕ) (x : X) (old new : List Y) → k < length rows → x ≡ get_or rows k x
    → old ≡ map f (filter p (take k rows)) → p x ≡ false → new ≡ old → new ≡ map f (filter p (take (k + 1) rows))
kept-same {X} p f rows k x old new within is so_far fails same =
    let less : filter p (take (k + 1) rows) ≡ filter p (take k rows) =
    filter_more p rows k x within ∙ ap (λ (y : X). filter p (take k rows) ++ cond (p y) (y ∷ []) []) (sym is) ∙ ap (λ b. filter p (take k rows) ++ cond b (x ∷ []) []) fails ∙ append-nil (filter p (take k rows)) in
    same ∙ so_far ∙ ap (map f) (sym less)
