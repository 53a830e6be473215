-- The lists of a bundle.
use Rattle.std.specs.Prelude.{ℕ, ◌∷◌, ◌++◌, List, [], Option, Some, None, Result, Ok, option_and_then, is_some, if◌then◌else◌, Bool}
use Rattle.std.specs.List.{list_all}
use Rattle.serde_json.specs.Data.{Data}
use Rattle.serde_json.specs.Find.{as_object}
use Rattle.json_fields.specs.Paths.{bundle_path}
use Rattle.json_fields.specs.FieldFault.{and_then, in_shape}
use Rattle.json_fields.specs.Fields.{member_of, array_of, elements_if}
use Rattle.json_fields.specs.declared.fault.FieldFault.{FieldFault}

-- the value is an object
abbrev pub is_object : Data → Bool
is_object value = is_some (as_object value)

-- the values, where each of them is an object
abbrev pub all_objects : List Data → Option (List Data)
all_objects values = if list_all is_object values then Some values else None

-- the objects of a bundle, which is one object or an array of objects
abbrev pub objects_of : Data → Option (List Data)
objects_of bundle =
    if is_object bundle then Some (bundle ∷ [])
    else option_and_then all_objects (array_of bundle)

-- the lists of this name in the objects, joined, or the fault at the name where one is no array
abbrev pub joined_lists : List ℕ → List Data → Result (List Data) FieldFault
joined_lists name [] = Ok []
joined_lists name (part ∷ parts) =
    and_then (elements_if name (member_of part name)) (λ rows.
    and_then (joined_lists name parts) (λ others.
    Ok (rows ++ others)))

-- the rows of the list of this name
abbrev pub rows_of : Data → List ℕ → Result (List Data) FieldFault
rows_of bundle name = and_then (in_shape bundle_path (objects_of bundle)) (joined_lists name)
