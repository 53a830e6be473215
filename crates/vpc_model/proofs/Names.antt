-- Names of stops are told apart by their texts.
use Rattle.std.proofs.Common.{◌≡◌, ◌∙◌, Some, ap, refl, sym, true}
use Rattle.std.proofs.lemmas.Option.{same_Some}
use Rattle.vpc_model.specs.Id.{is_id}
use Rattle.vpc_model.specs.Names.{name_spelled, name_text}
use Rattle.vpc_model.specs.declared.stops.StopName.{StopName}
use Rattle.vpc_model.specs.declared.stops.StopName.TheVariants as names

-- the name that a name's own text spells
pub name_spelled-name_text : (name : StopName) → name_spelled (name_text name) ≡ Some name
name_spelled-name_text names.Detached = refl
name_spelled-name_text _ = refl

pub name_text_tells : (a b : StopName) → name_text a ≡ name_text b → a ≡ b
name_text_tells a b same = same_Some a b (sym (name_spelled-name_text a) ∙ (ap name_spelled same ∙ name_spelled-name_text b))

pub visible_name : (name : StopName) → is_id (name_text name) ≡ true
visible_name names.Detached = refl
visible_name _ = refl
