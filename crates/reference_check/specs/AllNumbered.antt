-- The ids of all lists of a description.
use Rattle.std.specs.List.{flat_map}
use Rattle.std.specs.Prelude.{◌++◌, ◌≡◌, [], List}
use Rattle.vpc_model.specs.Accepted.{duplicate_ids, duplicates_in}
use Rattle.vpc_model.specs.declared.refusals.Refusal.{Refusal}
use Rattle.vpc_model.specs.declared.rows.Description.{Description}
use Rattle.reference_check.specs.Numbered.{AreFilterIds, AreGatewayIds, AreNetworkIds, AreOutsideIds, filter_ids_of, gateway_ids_of, network_ids_of}
use Rattle.reference_check.specs.declared.directory.AllIds.{AllIds}

-- ids that stand twice, of the lists of networks, of filters and of gateways
abbrev pub duplicates_by_part : Description → List Refusal
duplicates_by_part d =
    flat_map duplicates_in (network_ids_of d)
    ++ (flat_map duplicates_in (filter_ids_of d) ++ flat_map duplicates_in (gateway_ids_of d))

-- what finds the rows of all lists by their ids
pub record AreAllIds (d : Description) (ids : AllIds) : Type 0 where
  pub networks : AreNetworkIds d ids.networks
  pub filters : AreFilterIds d ids.filters
  pub gateways : AreGatewayIds d ids.gateways
  pub outside : AreOutsideIds d ids.outside

-- a description and the ids of its lists, of which none stands twice
pub record IsDirectory (d : Description) (ids : AllIds) : Type 0 where
  pub numbered : AreAllIds d ids
  pub differ : duplicate_ids d ≡ []
