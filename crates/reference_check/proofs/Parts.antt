-- What is wrong with the lists of a description, part by part.
use Rattle.std.proofs.Common.{◌++◌, ◌≡◌, ◌∙◌, List, ap, append_assoc, sym}
use Rattle.std.specs.List.{flat_map}
use Rattle.std.proofs.lemmas.Grind.{flat_map-append}
use Rattle.vpc_model.specs.Accepted.{duplicate_ids, duplicates_in, missing_of_acl, missing_of_appliance, missing_of_attachment, missing_of_firewall, missing_of_group, missing_of_igw, missing_of_interface, missing_of_life, missing_of_subnet, missing_of_table, missing_references}
use Rattle.vpc_model.specs.declared.rows.Description.{Description}
use Rattle.reference_check.specs.AllNumbered.{duplicates_by_part}
use Rattle.reference_check.specs.Missing.{missing_by_part}
use Rattle.reference_check.specs.Numbered.{filter_ids_of, gateway_ids_of, network_ids_of}

-- ids that stand twice, of all lists
pub duplicates_of_parts : (d : Description) → duplicates_by_part d ≡ duplicate_ids d
duplicates_of_parts d =
    ap (λ causes. flat_map duplicates_in (network_ids_of d) ++ causes) (sym (flat_map-append duplicates_in (filter_ids_of d) (gateway_ids_of d)))
    ∙ sym (flat_map-append duplicates_in (network_ids_of d) (filter_ids_of d ++ gateway_ids_of d))

ten : {X : Type 0} (a b c e f g h i j k : List X) → (a ++ (b ++ c)) ++ ((e ++ f) ++ (g ++ (h ++ (i ++ (j ++ k))))) ≡ a ++ b ++ c ++ e ++ f ++ g ++ h ++ i ++ j ++ k
ten a b c e f g h i j k = simp append_assoc

-- what rows name and isn't there, of all lists
pub missing_of_parts : (d : Description) → missing_by_part d ≡ missing_references d
missing_of_parts d =
    ten
    (flat_map (missing_of_subnet d) d.subnets)
    (flat_map (missing_of_interface d) d.interfaces)
    (flat_map (missing_of_table d) d.tables)
    (flat_map (missing_of_acl d) d.acls)
    (flat_map (missing_of_group d) d.groups)
    (flat_map (missing_of_igw d) d.igws)
    (flat_map (λ n. missing_of_life d n.id n.life) d.nats)
    (flat_map (missing_of_attachment d) d.attachments)
    (flat_map (missing_of_appliance d) d.appliances)
    (flat_map (missing_of_firewall d) d.firewalls)
