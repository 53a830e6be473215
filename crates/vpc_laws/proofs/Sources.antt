-- In an accepted description NAT gateways send from addresses of interfaces.
use Rattle.std.proofs.Common.{◌≡◌, ◌||◌, Bool, ap, refl, subst, sym, true, ℕ}
use Rattle.std.specs.List.{AllByRecursion, Contains, list_any}
use Rattle.prefix_text.specs.Block.{holds}
use Rattle.std.proofs.lemmas.Bool.{and_parts, false≢true}
use Rattle.vpc_base.proofs.Members.{row-member}
use Rattle.vpc_laws.specs.Types.{Description, Header, Interface, Label, NatLife, NatNo}
use Rattle.vpc_model.specs.declared.rows.NatLife.TheVariants as lives
use Rattle.vpc_model.specs.declared.places.Place.TheVariants as places
use Rattle.vpc_model.specs.Accepted.{IsAccepted}
use Rattle.vpc_model.specs.Appliances.{Appliances}
use Rattle.vpc_model.specs.Lookup.{eni_no, has_address, interface_at, nat_at, no_interface}
use Rattle.vpc_model.specs.Sound.{is_live, is_nat, is_sound}
use Rattle.vpc_model.specs.Step.{step_of}
use Rattle.vpc_model.specs.Step.Nat.{own_address}
use Rattle.vpc_model.specs.Step.Words.{Moment, Next, arrive, go, stop}
use Rattle.vpc_laws.specs.Rewriting.{IfGoes, IsToOwn}
use Rattle.vpc_laws.proofs.Gateways.{nat_gives_own_address}
use Rattle.vpc_laws.proofs.Numbering.{nat_addresses_are_interfaces}

abbrev HasInterface : Description → ℕ → Type 0
HasInterface d a = (e : Interface) × Contains d.interfaces e × (has_address e a ≡ true)

own-interface : (d : Description) (n : NatNo) (life : NatLife) → IsAccepted d → is_nat d n ≡ true → (let row = nat_at d n in row.life ≡ life) → is_live life ≡ true → HasInterface d (own_address life)
own-interface d n lives.Gone accepted inside is works = absurd (false≢true works)
own-interface d n lives.Unmodelled accepted inside is works = absurd (false≢true works)
own-interface d n (lives.Live subnet eni address) accepted inside is works =
    let found = nat_addresses_are_interfaces d n subnet eni address accepted inside is in
    let i = eni_no d eni in
    let e = interface_at d i in
    (e, row-member d.interfaces i.0 no_interface found.0, ap (λ (b : Bool). b || list_any (holds address) e.prefixes) found.3)

goes-as : (P Q : Header → Type 0) (x : Next) → ((k : Header) → P k → Q k) → IfGoes x P → IfGoes x Q
goes-as P Q (go p k) turn holds = turn k holds
goes-as P Q (arrive end) turn holds = tt
goes-as P Q (stop s) turn holds = tt

pub nat_sources_are_interfaces : (d : Description) (appliances : Appliances) (label : Label) (m : Moment) (n : NatNo) → IsAccepted d → is_sound d (places.NatOut n) ≡ true
    → m.place ≡ places.NatOut n → AllByRecursion (IsToOwn d) m.nats
    → let s = step_of d appliances label m in IfGoes s.next (λ k. (e : Interface) × Contains d.interfaces e × (has_address e k.src ≡ true))
nat_sources_are_interfaces d appliances label m n accepted sound here own =
    let s = step_of d appliances label m in
    let row = nat_at d n in
    let works = and_parts (is_nat d n) (is_live row.life) sound in
    let found = own-interface d n row.life accepted works.0 refl works.1 in
    goes-as (λ k. k.src ≡ own_address row.life) (λ k. HasInterface d k.src) s.next (λ k e. subst (HasInterface d) (sym e) found) ((nat_gives_own_address d appliances label m own).1 n here)
