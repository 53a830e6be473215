-- The rules of an accepted description can be counted.
use Rattle.std.specs.List.{All}
use Rattle.std.proofs.lemmas.List.Elements.{All-contains_itself}
use Rattle.vpc_laws.specs.Types.{Description}
use Rattle.vpc_laws.proofs.Lengths.{accepted_has_short_lists}
use Rattle.vpc_model.specs.Accepted.{IsAccepted}
use Rattle.unused_rules.specs.Rules.{HasShortRows, HasShortRules, IsShort}

pub few-groups : (d : Description) → IsAccepted d → IsShort d.groups
few-groups d accepted = let short = accepted_has_short_lists d accepted in short.groups

pub few-acls : (d : Description) → IsAccepted d → IsShort d.acls
few-acls d accepted = let short = accepted_has_short_lists d accepted in short.acls

pub short-groups : (d : Description) → IsAccepted d → All HasShortRules d.groups
short-groups d accepted k g below =
    let short = accepted_has_short_lists d accepted in
    let has = All-contains_itself d.groups k g below in
    record { inward = short.inward_of_group _ has; outward = short.outward_of_group _ has }

pub short-acls : (d : Description) → IsAccepted d → All HasShortRows d.acls
short-acls d accepted k a below = let short = accepted_has_short_lists d accepted in short.rows_of_acl _ (All-contains_itself d.acls k a below)
