-- Arrays as lists of their elements.
use Rattle.std.proofs.Common.{◌≡◌, List, [], ◌∷◌, refl, ap}
use Rattle.std.proofs.lemmas.List.Folds.{list_all-map}
use Rattle.serde_json.specs.Data.{Data}
use Rattle.serde_json.specs.View.{items_of}
use Rattle.json_fields.specs.Fields.{elements_of}

-- the elements of the array that a list makes are the list
pub elements_of-items_of : (values : List Data) → elements_of (items_of values) ≡ values
elements_of-items_of [] = refl
elements_of-items_of (value ∷ values) = ap (λ (rest : List Data). value ∷ rest) (elements_of-items_of values)

-- the lemmas by which a function that goes over an array meets its clause
pub ruleset array_elements = (elements_of-items_of, list_all-map)
