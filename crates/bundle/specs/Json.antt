-- Bytes and the JSON values that they are the text of (RFC 8259; nesting up to 127 is this project's profile).
use Rattle.std.specs.Prelude.{◌≡◌, IsUtf8, List, None, Some, ℕ}
use Rattle.serde_json.specs.Data.{Data}
use Rattle.serde_json.specs.Read.{read}

-- the bytes are the JSON text of the value
abbrev pub IsJson : List ℕ → Data → Type 0
IsJson bytes value = IsUtf8 bytes × (read bytes ≡ Some value)

-- they are the JSON text of none
abbrev pub IsNoJson : List ℕ → Type 0
IsNoJson bytes = IsUtf8 bytes → read bytes ≡ None
