-- The texts of the parts of a path.
use Rattle.std.specs.Prelude.{ℕ, List}
use Rattle.json_fields.specs.Paths.{at_member, at_row}
use Rattle.json_fields.specs.declared.path.Part.{Part}
use Rattle.json_fields.specs.declared.path.Part.TheVariants as part

abbrev pub text_of : Part → List ℕ
text_of (part.List name) = name.now
text_of (part.Row above row) = at_row above.now row
text_of (part.Member above field) = at_member above.now field.now
