-- ACLs and groups that differ in their rules alone, one of which has fewer.
use Rattle.std.proofs.Common.{◌≡◌, ◌≤◌, ◌∙◌, ◌++◌, [], Bool, List, ap₂, arith, false, length, refl, sym}
use Rattle.std.specs.List.{flat_map, list_any}
use Rattle.std.proofs.lemmas.Bool.{or_from, or_parts}
use Rattle.std.proofs.lemmas.Grind.{flat_map-append}
use Rattle.std.proofs.lemmas.List.Folds.{list_any-append}
use Rattle.vpc_base.specs.declared.headers.Dir.TheVariants as dirs
use Rattle.vpc_base.proofs.Members.{append-nothing}
use Rattle.vpc_laws.specs.Types.{Acl, Dir, Group, Permission}
use Rattle.vpc_model.specs.Groups.{permissions_of}
use Rattle.vpc_model.specs.declared.refusals.Refusal.{Refusal}
use Rattle.unused_rules.proofs.Parts.{IsPart, none-part, nothing-part, part-itself}

pub record FewerRows (a b : Acl) : Type 0 where
  pub id : a.id ≡ b.id
  pub subnets : a.subnets ≡ b.subnets
  pub rows : length b.rows ≤ length a.rows

pub record FewerRules (a b : Group) : Type 0 where
  pub id : a.id ≡ b.id
  pub vpc : a.vpc ≡ b.vpc
  pub inward : IsPart a.inward b.inward
  pub outward : IsPart a.outward b.outward

pub same-rows : (a : Acl) → FewerRows a a
same-rows a = record { id = refl; subnets = refl; rows = omega arith }

pub same-rules : (g : Group) → FewerRules g g
same-rules g = record { id = refl; vpc = refl; inward = part-itself g.inward; outward = part-itself g.outward }

-- ---- rules of a group

pub rules-part : (dir : Dir) (a b : Group) → FewerRules a b → IsPart (permissions_of dir a) (permissions_of dir b)
rules-part dirs.Inward a b fewer = fewer.inward
rules-part dirs.Outward a b fewer = fewer.outward

-- what no rule of the one passes, none of the other does
pub none-fewer : (p : Permission → Bool) (a b : Group) → FewerRules a b → list_any p (a.inward ++ a.outward) ≡ false
    → list_any p (b.inward ++ b.outward) ≡ false
none-fewer p a b fewer none =
    let parts = or_parts (list_any p a.inward) (list_any p a.outward) (sym (list_any-append p a.inward a.outward) ∙ none) in
    list_any-append p b.inward b.outward ∙ or_from (list_any p b.inward) (list_any p b.outward) (none-part p fewer.inward parts.0)
    (none-part p fewer.outward parts.1)

pub nothing-fewer : (f : Permission → List Refusal) (a b : Group) → FewerRules a b → flat_map f (a.inward ++ a.outward) ≡ []
    → flat_map f (b.inward ++ b.outward) ≡ []
nothing-fewer f a b fewer none =
    let parts = append-nothing (flat_map f a.inward) (flat_map f a.outward) (sym (flat_map-append f a.inward a.outward) ∙ none) in
    flat_map-append f b.inward b.outward ∙ ap₂ (λ (x y : List Refusal). x ++ y) (nothing-part f fewer.inward parts.0)
    (nothing-part f fewer.outward parts.1)
