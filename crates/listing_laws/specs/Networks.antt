-- Networks whose listings can be read.
use Rattle.std.specs.Prelude.{◌≡◌, Ok, codes, false}
use Rattle.bundle.specs.Meaning.{meaning_of}
use Rattle.serde_json.specs.Data.{Data}
use Rattle.vpc_laws.specs.Types.{Description}
use Rattle.vpc_model.specs.Accepted.{IsAccepted}
use Rattle.vpc_model.specs.Lookup.{has_interface}
use Rattle.listing_laws.specs.Typed.{HasTypedRows}

-- accepted, with rows as their types allow; and `internet` is the id of none of its interfaces
pub record CanBeListed (d : Description) : Type 0 where
  pub accepted : IsAccepted d
  pub typed : HasTypedRows d
  pub named : has_interface d (codes "internet") ≡ false

-- each network that a bundle describes is so, unless it has such an interface
abbrev pub BundlesCanBeListed : Type 0
BundlesCanBeListed =
    (bundle : Data) (d : Description) → meaning_of bundle ≡ Ok d → has_interface d (codes "internet") ≡ false → CanBeListed d
