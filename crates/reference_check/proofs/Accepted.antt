-- What is wrong with a description, all of it and part by part; and what is known where nothing is.
use Rattle.std.proofs.Common.{◌++◌, ◌<◌, ◌^◌, ◌≡◌, ◌≤◌, ◌∙◌, [], List, append_assoc, arith, length, subst, sym, ℕ}
use Rattle.vpc_base.proofs.Members.{nothing-append}
use Rattle.vpc_model.specs.Accepted.{IsAccepted, first_cause, duplicate_addresses, duplicate_ids, duplicate_publics, missing_references, refusals_of, too_many_rows, two_acls, two_gateways, two_tables, without_acl, without_table}
use Rattle.vpc_model.specs.declared.refusals.Refusal.{Refusal}
use Rattle.vpc_model.specs.declared.rows.Description.{Description}
use Rattle.vpc_laws.proofs.Lengths.{accepted_has_short_lists}
use Rattle.reference_check.specs.Causes.{causes_by_part, causes_of_rows}
use Rattle.reference_check.specs.Network.{AreCounted}
use Rattle.reference_check.specs.Told.{IsTold}
use Rattle.reference_check.proofs.Told.{told_second}

ten : {X : Type 0} (a b c e f g h i j k : List X)
    → a ++ ((b ++ (c ++ e)) ++ (((f ++ g) ++ (h ++ (i ++ j))) ++ k)) ≡ a ++ b ++ c ++ e ++ f ++ g ++ h ++ i ++ j ++ k
ten a b c e f g h i j k = simp append_assoc

-- the parts are all that is asked
pub causes_of_parts : (d : Description) → causes_by_part d ≡ refusals_of d
causes_of_parts d =
    ten (duplicate_ids d) (missing_references d) (duplicate_addresses d) (duplicate_publics d) (without_table d) (without_acl d)
    (two_gateways d) (two_tables d) (two_acls d) (too_many_rows d)

-- nothing is wrong where nothing is wrong with the ids and the rows
pub no_causes : (d : Description) → duplicate_ids d ≡ [] → causes_of_rows d ≡ [] → refusals_of d ≡ []
no_causes d e f = sym (causes_of_parts d) ∙ nothing-append (duplicate_ids d) (causes_of_rows d) e f

-- the first cause of the rows is the first of all, where the ids differ
pub told_of_rows : (e d : Description) (cause : Refusal) → e ≡ d → duplicate_ids d ≡ [] → IsTold (first_cause (causes_of_rows e)) cause → IsTold (first_cause (refusals_of d)) cause
told_of_rows e d cause same none told =
    subst (λ causes. IsTold (first_cause causes) cause) (causes_of_parts d)
    (told_second (duplicate_ids d) (causes_of_rows d) cause none (subst (λ x. IsTold (first_cause (causes_of_rows x)) cause) same told))

counted : (n : ℕ) → n ≤ 100000 → n < 2 ^ 32
counted n h = omega arith

-- the rows of an accepted description have numbers of 32 bits
pub accepted_is_counted : (d : Description) → IsAccepted d → AreCounted d
accepted_is_counted d h =
    let short = accepted_has_short_lists d h in
    record {
      vpcs = counted (length d.vpcs) short.vpcs;
      subnets = counted (length d.subnets) short.subnets;
      interfaces = counted (length d.interfaces) short.interfaces;
      tables = counted (length d.tables) short.tables;
      acls = counted (length d.acls) short.acls;
      groups = counted (length d.groups) short.groups;
      igws = counted (length d.igws) short.igws;
      nats = counted (length d.nats) short.nats;
      peerings = counted (length d.peerings) short.peerings;
      attachments = counted (length d.attachments) short.attachments;
      tgw_tables = counted (length d.tgw_tables) short.tgw_tables;
      fars = counted (length d.fars) short.fars;
      firewalls = counted (length d.firewalls) short.firewalls;
    }
