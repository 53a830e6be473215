-- Steps of a packet that the groups of two descriptions both let pass, or both don't.
use Rattle.std.proofs.Common.{◌≡◌, ◌&&◌, ◌∷◌, [], Bool, List, None, Option, Some, cond, false, not, refl, true, ℕ}
use Rattle.copied_rows.specs.Filters.{with_filters}
use Rattle.vpc_base.specs.declared.headers.Dir.TheVariants as dirs
use Rattle.vpc_base.specs.declared.headers.Label.TheVariants as labels
use Rattle.vpc_laws.specs.Types.{Acl, Description, Dir, EniNo, Group, Header, Interface, Label, RuleRef, Stop}
use Rattle.vpc_model.specs.Terms.{Appliances, Connection, Moment, Next, Step, answer_passing, first_rule, go, has_address, interface_at, is_tracked, open_passing, passing_groups, step_into, step_out, subnet_of, taken_in}
use Rattle.vpc_model.specs.declared.outcomes.By.TheVariants as bys
use Rattle.vpc_model.specs.declared.places.Came.TheVariants as from
use Rattle.vpc_model.specs.declared.places.Place.TheVariants as places
use Rattle.vpc_model.specs.declared.stops.Stop.TheVariants as stops
use Rattle.unused_rules.proofs.NestedSteps.{IsSameStep, itself-step, passed}

pub same-cond : (b : Bool) (s t u : Step) → IsSameStep t u → IsSameStep (cond b s t) (cond b s u)
same-cond true s t u same = itself-step s
same-cond false s t u same = same

-- by the first rule that allows the packet, if one does
same-by_rule : (by : Option RuleRef → Step) → ((a b : RuleRef) → IsSameStep (by (Some a)) (by (Some b))) → (one other : Option RuleRef)
    → (one ≡ None → other ≡ None) → (other ≡ None → one ≡ None) → IsSameStep (by other) (by one)
same-by_rule by alike None None first second = itself-step (by None)
same-by_rule by alike (Some a) (Some b) first second = alike b a
same-by_rule by alike None (Some b) first second = let e = first refl in absurd (cc)
same-by_rule by alike (Some a) None first second = let e = second refl in absurd (cc)

-- the groups of no interface let the header pass in one of them alone
pub record LetPassTheSame (one other : Description) (h : Header) : Type 0 where
  pub first : (e : Interface) (dir : Dir) → first_rule one e dir h ≡ None → first_rule other e dir h ≡ None
  pub second : (e : Interface) (dir : Dir) → first_rule other e dir h ≡ None → first_rule one e dir h ≡ None

-- of two descriptions that differ in ACLs and groups alone
module _ (d : Description) (acls other_acls : List Acl) (groups other_groups : List Group) where
  abbrev one : Description
  one = with_filters d acls groups

  abbrev other : Description
  other = with_filters d other_acls other_groups

  same-groups : (s : Stop) (x : Next) (label : Label) (i : EniNo) (dir : Dir) (m : Moment) (ids : List (List ℕ)) → LetPassTheSame one other m.header
      → IsSameStep (passed m s x (passing_groups other label i dir m.header m.conns ids)) (passed m s x (passing_groups one label i dir m.header m.conns ids))
  same-groups s x label i dir m [] pass = itself-step _
  same-groups s x labels.Opening i dir m (_ ∷ _) pass =
      let e = interface_at d i in
      let own : Connection = record { eni = i; dir = dir; header = m.header } in
      same-by_rule (λ (r : Option RuleRef). passed m s x (open_passing m.conns own r))
      (λ a b. record { next = refl; conns = refl; nats = refl }) (first_rule one e dir m.header) (first_rule other e dir m.header)
      (pass.first e dir) (pass.second e dir)
  same-groups s x labels.Answer i dir m (_ ∷ _) pass =
      let e = interface_at d i in
      tracked (is_tracked m.conns i dir m.header) (first_rule one e dir m.header) (first_rule other e dir m.header)
      (same-by_rule (λ (r : Option RuleRef). passed m s x (answer_passing m.conns r))
      (λ a b. record { next = refl; conns = refl; nats = refl }) (first_rule one e dir m.header) (first_rule other e dir m.header)
      (pass.first e dir) (pass.second e dir))
    where
      tracked : (b : Bool) (a c : Option RuleRef)
          → IsSameStep (passed m s x (answer_passing m.conns c)) (passed m s x (answer_passing m.conns a))
          → IsSameStep
          (passed m s x (cond b (record { by = Some bys.Tracked; conns = m.conns }) (answer_passing m.conns c)))
          (passed m s x (cond b (record { by = Some bys.Tracked; conns = m.conns }) (answer_passing m.conns a)))
      tracked true a c same = itself-step _
      tracked false a c same = same

  pub same-out : (label : Label) (i : EniNo) (m : Moment) → LetPassTheSame one other m.header → IsSameStep (step_out other label i m) (step_out one label i m)
  same-out label i m pass =
      let e = interface_at d i in
      same-cond e.idle _ _ _ (same-cond (e.checked && not (has_address e m.header.src)) _ _ _
      (same-groups (stops.GroupsOut i) (go (places.Router (subnet_of d i) (from.Host i)) m.header) label i dirs.Outward m e.groups pass))

  pub same-into : (appliances : Appliances) (label : Label) (i : EniNo) (m : Moment) → LetPassTheSame one other m.header
      → IsSameStep (step_into other appliances label i m) (step_into one appliances label i m)
  same-into appliances label i m pass =
      let e = interface_at d i in
      same-cond e.idle _ _ _ (same-cond (e.checked && not (has_address e m.header.dst)) _ _ _
      (same-groups (stops.GroupsIn i) (taken_in d appliances i m.header) label i dirs.Inward m e.groups pass))
