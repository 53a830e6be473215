-- What the tables of a network's public addresses say of their owners.
use Rattle.std.proofs.Common.{◌≡◌, ◌∙◌, ◌==◌, IfSome, None, Option, Some, ap, find, option_map, refl, subst, sym, true, ℕ}
use Rattle.std.specs.List.{flat_map}
use Rattle.reference_check.proofs.VpcIds.{ids_agree, vpc_described}
use Rattle.edge_gateways.specs.Edges.{AreEdgesOf, EdgeLists, owner_in}
use Rattle.vpc_laws.proofs.Sounding.{IfFound, known-accepted, owner-by}
use Rattle.vpc_laws.specs.Types.{Description, VpcNo}
use Rattle.vpc_model.specs.Accepted.{IsAccepted}
use Rattle.vpc_model.specs.Internet.{owned_by, owner_of, private_of}
use Rattle.vpc_model.specs.Lookup.{vpc_of_interface}
use Rattle.vpc_model.specs.Sound.{is_vpc}
use Rattle.fabric.proofs.Publics.{Agrees, private_of-elsewhere}

agrees : (d : Description) (v : VpcNo) → IsAccepted d → is_vpc d v ≡ true → Agrees d v
agrees d v accepted lies = λ e has. ids_agree d v (vpc_of_interface d e) accepted lies (vpc_described d e accepted has)

-- the VPC owns the address
pub private-own : (d : Description) (m : EdgeLists) (v w : VpcNo) (public own : ℕ) → AreEdgesOf d m → Some (w, own) ≡ owner_in m public → w.0 ≡ v.0 → Some own ≡ private_of d v public
private-own d m v w public own are found same =
    let pairs = are.pairs in
    let here : private_of d w public ≡ Some own = subst (λ (o : Option (VpcNo × ℕ)). IfSome o (λ x. private_of d x.0 public ≡ Some x.1)) (sym found) (pairs.own public) in
    let number : w ≡ v = ap (λ (k : ℕ). record { 0 = k }) same in
    let there : private_of d v public ≡ Some own = subst (λ (x : VpcNo). private_of d x public ≡ Some own) number here in
    sym there

pub owner-first : (d : Description) (m : EdgeLists) (public : ℕ) (o : Option (VpcNo × ℕ)) → AreEdgesOf d m → o ≡ owner_in m public → owner_of d public ≡ option_map (λ (x : VpcNo × ℕ). x.0) o
owner-first d m public o are found = let pairs = are.pairs in sym (pairs.owner public) ∙ ap (option_map (λ (x : VpcNo × ℕ). x.0)) (sym found)

-- another one does
pub private-other : (d : Description) (m : EdgeLists) (v w : VpcNo) (public own : ℕ) → IsAccepted d → is_vpc d v ≡ true → AreEdgesOf d m → Some (w, own) ≡ owner_in m public → (w.0 ≡ v.0 → ⊥)
    → None ≡ private_of d v public
private-other d m v w public own accepted lies are found differs =
    let first = owner-first d m public (Some (w, own)) are found in
    let none = private_of-elsewhere d v public accepted (agrees d v accepted lies)
    (λ x is same. let owner : Some w ≡ Some x = sym first ∙ is in let number : w ≡ x = cc in differs (ap (λ (y : VpcNo). y.0) number ∙ same)) in
    sym none

-- none does
pub private-none : (d : Description) (m : EdgeLists) (v : VpcNo) (public : ℕ) → IsAccepted d → is_vpc d v ≡ true → AreEdgesOf d m → None ≡ owner_in m public → None ≡ private_of d v public
private-none d m v public accepted lies are found =
    let first = owner-first d m public None are found in
    let none = private_of-elsewhere d v public accepted (agrees d v accepted lies) (λ x is same. let owner : None ≡ Some x = sym first ∙ is in absurd cc) in
    sym none

-- the owner of a public address is described
pub owner-lies : (d : Description) (m : EdgeLists) (v : VpcNo) (public own : ℕ) → IsAccepted d → AreEdgesOf d m → Some (v, own) ≡ owner_in m public → is_vpc d v ≡ true
owner-lies d m v public own accepted are found =
    subst (λ (o : Option VpcNo). IfFound (is_vpc d) o) (owner-first d m public (Some (v, own)) are found)
    (owner-by d (known-accepted d accepted) public (find (λ (o : VpcNo × ℕ). o.1 == public) (flat_map (owned_by d) d.interfaces)) refl)
