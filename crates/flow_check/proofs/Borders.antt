-- Across the borders of subnets.
use Rattle.std.proofs.Common.{◌≡◌, ◌==◌, ◌∙◌, Bool, IfSome, None, Option, Some, ap, false, option_map, position, refl, subst, sym, true, ℕ}
use Rattle.std.proofs.lemmas.Bool.{true≢false}
use Rattle.vpc_base.proofs.Lemmas.{both_ways, cond-false, position-at, same_bytes}
use Rattle.vpc_laws.proofs.Lemmas.{or_else-first, or_else-later}
use Rattle.vpc_laws.proofs.Numbering.{accepted_numbers_are_own, nat_addresses_are_interfaces}
use Rattle.vpc_laws.specs.Types.{Came, Description, EniNo, Header, NatGateway, NatLife, NatNo, Place, SubnetNo}
use Rattle.vpc_laws.specs.Terms.{GoesOn, LiesIn, across, firewall, host, into, is_rewriting, nat_answered, nat_asked, out_of, past_none}
use Rattle.vpc_model.specs.Terms.{IsAccepted, crossing, eni_no, entering, host_of, interface_at, is_eni, is_eni_of, is_nat, leaving, nat_at, nat_of, or_else, own_subnet, subnet_no, subnet_of}
use Rattle.vpc_model.specs.declared.places.Place.TheVariants as places
use Rattle.vpc_model.specs.declared.rows.NatLife.TheVariants as lives
use Rattle.flow_check.proofs.Owners.{found-lies}
use Rattle.flow_check.specs.Walked.{is_inside, is_router_of, subnet_of_nat}
use Rattle.vpc_model.specs.Lookup.{no_nat}

-- ---- the subnets of NAT gateways

abbrev numbered : ℕ → NatNo
numbered k = record { 0 = k }

-- a live NAT gateway's interface is in its subnet
life-subnet : (d : Description) (i : EniNo) (n : NatNo) (life : NatLife) → IsAccepted d → is_eni d i ≡ true → is_nat d n ≡ true → (let row = nat_at d n in row.life ≡ life)
    → is_eni_of (interface_at d i).id life ≡ true → subnet_of d i ≡ subnet_no d (own_subnet life)
life-subnet d i n lives.Gone accepted lies there is own = absurd (both_ways false refl own)
life-subnet d i n lives.Unmodelled accepted lies there is own = absurd (both_ways false refl own)
life-subnet d i n (lives.Live subnet eni address) accepted lies there is own =
    let e = interface_at d i in
    let numbers = accepted_numbers_are_own d accepted in
    let same : eni_no d eni ≡ i = ap (eni_no d) (same_bytes eni e.id own) ∙ numbers.interface i lies in
    let place = nat_addresses_are_interfaces d n subnet eni address accepted there is in
    ap (subnet_no d) (subst (λ (j : EniNo). let o = interface_at d j in o.subnet ≡ subnet) same place.2)

nat-subnet : (d : Description) (i : EniNo) (n : NatNo) → IsAccepted d → is_eni d i ≡ true → nat_of d i ≡ Some n → subnet_of d i ≡ subnet_of_nat d n
nat-subnet d i n accepted lies found = by (position owns d.nats) refl found
  where
    owns : NatGateway → Bool
    owns g = is_eni_of (interface_at d i).id g.life

    by : (o : Option ℕ) → position owns d.nats ≡ o → option_map numbered o ≡ Some n → subnet_of d i ≡ subnet_of_nat d n
    by None e none = absurd (cc)
    by (Some k) e some =
        let at = position-at owns d.nats k no_nat e in
        let same : numbered k ≡ n = cc in
        let row = nat_at d (numbered k) in
        subst (λ (j : NatNo). subnet_of d i ≡ subnet_of_nat d j) same (life-subnet d i (numbered k) row.life accepted lies at.0 refl at.1)

-- ---- the subnet where a place lies

eni-found : (d : Description) (i : EniNo) (o : Option EniNo) → IfSome o (λ j. is_eni d j ≡ true) → o ≡ Some i → is_eni d i ≡ true
eni-found d i o lies found = subst (λ (x : Option EniNo). IfSome x (λ j. is_eni d j ≡ true)) found lies

inside-is : (d : Description) (s t : SubnetNo) (h : Header) (q : Place) → IsAccepted d → LiesIn d h q t → is_inside d s q ≡ (s.0 == t.0)
inside-is d s t h q accepted (host i here is) = ap (is_inside d s) here ∙ ap (λ (u : SubnetNo). s.0 == u.0) (sym is)
inside-is d s t h q accepted (nat_answered v i n here found has is) =
    let lies = eni-found d i (host_of d v h.dst) (found-lies d v h.dst (host_of d v h.dst) refl) found in
    ap (is_inside d s) here ∙ ap (λ (u : SubnetNo). s.0 == u.0) (sym (is ∙ nat-subnet d i n accepted lies has))
inside-is d s t h q accepted (nat_asked n here is) = ap (is_inside d s) here ∙ ap (λ (u : SubnetNo). s.0 == u.0) (sym is)
inside-is d s t h q accepted (firewall e here is) = ap (is_inside d s) here ∙ ap (λ (u : SubnetNo). s.0 == u.0) (sym is)

host-subnet : (d : Description) (h : Header) (i : EniNo) (t : SubnetNo) → LiesIn d h (places.Into i) t → t ≡ subnet_of d i
host-subnet d h i t (host j here is) = let same : j ≡ i = cc in is ∙ ap (subnet_of d) same
host-subnet d h i t (nat_answered v j n here found has is) = absurd (cc)
host-subnet d h i t (nat_asked n here is) = absurd (cc)
host-subnet d h i t (firewall e here is) = absurd (cc)

-- ---- past ACLs

crossing-parts : (d : Description) (s t : SubnetNo) (h : Header) → crossing d s t h ≡ None → (s.0 == t.0) ≡ false → (leaving d s h ≡ None) × (entering d t h ≡ None)
crossing-parts d s t h passed other =
    let both = sym (cond-false (s.0 == t.0) None (or_else (leaving d s h) (entering d t h)) other) ∙ passed in
    (or_else-first (leaving d s h) (entering d t h) both, or_else-later (leaving d s h) (entering d t h) both)

-- what went on from a router across the border was let out
pub crossed-leaves : (d : Description) (s : SubnetNo) (came : Came) (h : Header) (q : Place) → IsAccepted d → GoesOn d h (places.Router s came) q → is_inside d s q ≡ false → leaving d s h ≡ None
crossed-leaves d s came h q accepted (across r t from here lies passed) other =
    let same : r ≡ s = cc in
    (crossing-parts d s t h (subst (λ (u : SubnetNo). crossing d u t h ≡ None) same passed) (sym (inside-is d s t h q accepted lies) ∙ other)).0
crossed-leaves d s came h q accepted (out_of r from here away passed) other = let same : r ≡ s = cc in subst (λ (u : SubnetNo). leaving d u h ≡ None) same passed
crossed-leaves d s came h q accepted (into v by t here lies passed) other = absurd (cc)
crossed-leaves d s came h q accepted (past_none asked away) other = absurd (true≢false asked)

-- what came to an interface across the border was let in
pub crossed-enters : (d : Description) (i : EniNo) (h k : Header) (p : Place) → GoesOn d h p (places.Into i) → is_router_of (subnet_of d i) p ≡ false → (is_rewriting p ≡ false → k ≡ h)
    → entering d (subnet_of d i) k ≡ None
crossed-enters d i h k p (across s t came here lies passed) other stays =
    let lets = (crossing-parts d s (subnet_of d i) h (subst (λ (u : SubnetNo). crossing d s u h ≡ None) (host-subnet d h i t lies) passed) (sym (ap (is_router_of (subnet_of d i)) here) ∙ other)).1 in
    subst (λ (x : Header). entering d (subnet_of d i) x ≡ None) (sym (stays (ap is_rewriting here))) lets
crossed-enters d i h k p (out_of s came here away passed) other stays = absurd (true≢false away)
crossed-enters d i h k p (into v by t here lies passed) other stays =
    subst (λ (x : Header). entering d (subnet_of d i) x ≡ None) (sym (stays (ap is_rewriting here)))
    (subst (λ (u : SubnetNo). entering d u h ≡ None) (host-subnet d h i t lies) passed)
crossed-enters d i h k p (past_none asked away) other stays = absurd (true≢false away)
