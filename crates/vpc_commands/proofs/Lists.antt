-- Mapped lists.
use Rattle.std.proofs.Common.{◌≡◌, Bool, List, [], ◌∷◌, refl, map, not, position}
use Rattle.std.specs.List.{prefix_len}
use Rattle.std.proofs.lemmas.List.{length-map}

prefix_len_map : {X Y : Type 0} (f : X → Y) (p : Y → Bool) (xs : List X) → prefix_len p (map f xs) ≡ prefix_len (λ x. p (f x)) xs
prefix_len_map f p [] = refl
prefix_len_map f p (x ∷ xs) = rw (prefix_len_map f p xs)

pub position_map : {X Y : Type 0} (f : X → Y) (p : Y → Bool) (xs : List X) → position p (map f xs) ≡ position (λ x. p (f x)) xs
position_map f p xs = rw (prefix_len_map f (λ x. not (p x)) xs, length-map xs f)
