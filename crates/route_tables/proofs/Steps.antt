-- Loops that add the rows of one more block.
use Rattle.std.proofs.Common.{◌≡◌, ℕ, ◌<◌, ◌+◌, Bool, List, [], ◌∷◌, ◌++◌, ap, append_assoc, get_or, length, map, sym, take, ◌∙◌}
use Rattle.std.specs.List.{filter}
use Rattle.std.proofs.lemmas.List.{map_more}
use Rattle.std.proofs.lemmas.List.Elements.{filter-append}

pub pushed-filter : {X Y : Type 0} (p : Y → Bool) (f : X → Y) (start : List Y) (xs : List X) (i : ℕ) (x : X) (old new : List Y) → i < length xs → x ≡ get_or xs i x → old ≡ start ++ filter p (map f (take i xs)) → new ≡ old ++ filter p (f x ∷ [])
    → new ≡ start ++ filter p (map f (take (i + 1) xs))
pushed-filter p f start xs i x old new within is so_far added =
    added
    ∙ (ap (λ l. l ++ filter p (f x ∷ [])) so_far
    ∙ (append_assoc start (filter p (map f (take i xs))) (filter p (f x ∷ []))
    ∙ ap (λ l. start ++ l)
    (sym (filter-append p (map f (take i xs)) (f x ∷ []))
    ∙ ap (filter p) (ap (λ y. map f (take i xs) ++ f y ∷ []) is ∙ sym (map_more f xs i x within)))))
