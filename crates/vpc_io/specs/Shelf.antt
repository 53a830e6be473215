-- What a shelf holds.
use Rattle.std.specs.Prelude.{ℕ, List, [], ◌∷◌, Option, Some, None, bytes_eq, if◌then◌else◌, unwrap_or, map}
use Rattle.std.specs.declared.vec.Vec.{Vec}

-- a file's name with its bytes
abbrev pub NamedBytes : Type 0
NamedBytes = List ℕ × List ℕ

-- a list of files as plain data
abbrev pub files_of : {A B : Type 0} → List (Vec ℕ A × Vec ℕ B) → List NamedBytes
files_of files = map (λ f. (f.0.items, f.1.items)) files

-- the bytes of the first file of this name
abbrev pub bytes_of : List NamedBytes → List ℕ → Option (List ℕ)
bytes_of [] name = None
bytes_of (file ∷ files) name = if bytes_eq file.0 name then Some file.1 else bytes_of files name

-- the bytes of the first file of this name; none where no file has it
abbrev pub bytes_or_empty : List NamedBytes → List ℕ → List ℕ
bytes_or_empty files name = unwrap_or (bytes_of files name) []
