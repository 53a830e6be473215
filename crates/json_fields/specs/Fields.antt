-- What the members of a row mean.
use Rattle.std.specs.Prelude.{ℕ, ◌∷◌, ◌&&◌, ℤ, List, [], Option, Some, None, Result, Ok, option_and_then, option_map, if◌then◌else◌, Bool, false, bytes_eq, int_le, unwrap_or}
use Rattle.serde_json.specs.Data.{Data, null, Items, no_items, item}
use Rattle.serde_json.specs.Find.{get, as_array, as_str, as_number, as_integer, as_bool}
use Rattle.prefix_text.specs.Addr.{addr_of}
use Rattle.prefix_text.specs.Block.{Block, prefix_of}
use Rattle.vpc_model.specs.Id.{is_id}
use Rattle.json_fields.specs.Paths.{at_member}
use Rattle.json_fields.specs.FieldFault.{and_then, if_there, in_shape, in_grammar}
use Rattle.json_fields.specs.declared.fault.FieldFault.{FieldFault}

-- the value, unless it is null
abbrev pub unless_null : Option Data → Option Data
unless_null None = None
unless_null (Some null) = None
unless_null (Some value) = Some value

-- the member of this name, unless it is absent or null
abbrev pub member_of : Data → List ℕ → Option Data
member_of row field = unless_null (get field row)

-- what the member of this name gives, if it is there
abbrev pub field_of : {A : Type 0} → (Data → Option A) → Data → List ℕ → List ℕ → Result (Option A) FieldFault
field_of kind row path field = if_there (λ value. in_shape (at_member path field) (kind value)) (member_of row field)

-- what the member of this name gives, which must be there
abbrev pub needed : {A : Type 0} → (Data → List ℕ → List ℕ → Result (Option A) FieldFault) → Data → List ℕ → List ℕ → Result A FieldFault
needed read row path field = and_then (read row path field) (in_shape (at_member path field))

-- the object that is the member of this name; where it isn't there, one without members stands for it
abbrev pub part_of : Data → List ℕ → Data
part_of row field = unwrap_or (get field row) null

-- what a member of the member of this name gives, if it is there
abbrev pub within_part : {A : Type 0} → (Data → List ℕ → List ℕ → Result A FieldFault) → Data → List ℕ → List ℕ → List ℕ → Result A FieldFault
within_part read row path part field = read (part_of row part) (at_member path part) field

-- a flag, if it is there
abbrev pub flag_of : Data → List ℕ → List ℕ → Result (Option Bool) FieldFault
flag_of = field_of as_bool

-- a text, if it is there
abbrev pub text_of : Data → List ℕ → List ℕ → Result (Option (List ℕ)) FieldFault
text_of = field_of as_str

-- the text is there, and is this one
abbrev pub is_text : List ℕ → Option (List ℕ) → Bool
is_text text None = false
is_text text (Some told) = bytes_eq told text

-- whether the member is this text, if it is there
abbrev pub has_text : List ℕ → Data → List ℕ → List ℕ → Result Bool FieldFault
has_text text row path field = and_then (text_of row path field) (λ told. Ok (is_text text told))

-- the whole number that a value is, where it fits 64 bits with or without a sign
abbrev pub whole_number_of : Data → Option ℤ
whole_number_of value = option_and_then as_integer (as_number value)

-- the number, where it lies from lo to hi
abbrev pub within : ℤ → ℤ → ℤ → Option ℤ
within lo hi n = if int_le lo n && int_le n hi then Some n else None

-- a whole number from lo to hi, if it is there
abbrev pub number_of : ℤ → ℤ → Data → List ℕ → List ℕ → Result (Option ℤ) FieldFault
number_of lo hi row path field =
    and_then (field_of whole_number_of row path field)
    (if_there (λ n. in_grammar (at_member path field) (within lo hi n)))

-- a text of this grammar, if it is there
abbrev pub text_in : {A : Type 0} → (List ℕ → Option A) → Data → List ℕ → List ℕ → Result (Option A) FieldFault
text_in grammar row path field =
    and_then (text_of row path field)
    (if_there (λ text. in_grammar (at_member path field) (grammar text)))

-- the id that the text is
abbrev pub id_in : List ℕ → Option (List ℕ)
id_in text = if is_id text then Some text else None

-- an id, if it is there
abbrev pub id_if_of : Data → List ℕ → List ℕ → Result (Option (List ℕ)) FieldFault
id_if_of = text_in id_in

-- an id, which must be there
abbrev pub id_of : Data → List ℕ → List ℕ → Result (List ℕ) FieldFault
id_of row path field = and_then (id_if_of row path field) (in_shape (at_member path field))

-- an address, if it is there
abbrev pub addr_of_field : Data → List ℕ → List ℕ → Result (Option ℕ) FieldFault
addr_of_field = text_in addr_of

-- a block of addresses, if it is there
abbrev pub prefix_of_field : Data → List ℕ → List ℕ → Result (Option Block) FieldFault
prefix_of_field = text_in prefix_of

-- the elements of an array, in order
abbrev pub elements_of : Items → List Data
elements_of no_items = []
elements_of (item value values) = value ∷ elements_of values

-- the elements that a value has, where it is an array
abbrev pub array_of : Data → Option (List Data)
array_of value = option_map elements_of (as_array value)

-- the elements of the array that the member at this path is, and none where it isn't there
abbrev pub elements_if : List ℕ → Option Data → Result (List Data) FieldFault
elements_if path None = Ok []
elements_if path (Some value) = in_shape path (array_of value)

-- the elements of an array, and none where it isn't there
abbrev pub list_of : Data → List ℕ → List ℕ → Result (List Data) FieldFault
list_of row path field = elements_if (at_member path field) (member_of row field)
