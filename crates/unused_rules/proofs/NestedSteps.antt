-- Steps, walks and verdicts in three descriptions that differ in the rules of their groups alone, each with fewer than
-- the one before: where the first and the last agree, so does the one between them.
use Rattle.std.proofs.Common.{◌≡◌, ◌&&◌, ◌∷◌, [], Bool, List, None, Option, Some, ap, cond, false, not, refl, true, ℕ}
use Rattle.copied_rows.specs.Filters.{with_filters}
use Rattle.vpc_base.specs.declared.headers.Dir.TheVariants as dirs
use Rattle.vpc_base.specs.declared.headers.Label.TheVariants as labels
use Rattle.vpc_laws.proofs.Lemmas.{by_memory, taken_by-unrefused}
use Rattle.vpc_laws.specs.Onward.{door_of}
use Rattle.vpc_laws.specs.Step.{is_refused}
use Rattle.vpc_laws.specs.Types.{Description, Dir, EniNo, Group, Header, Label, Place, RuleRef, Stop}
use Rattle.vpc_model.specs.Terms.{Appliances, Connection, Moment, Next, Passing, Step, answer_passing, boxes_at, first_rule, go, has_address, interface_at, is_tracked, open_passing, passing_groups, plain, step_at, step_of, stop, subnet_of, taken_in}
use Rattle.vpc_model.specs.declared.outcomes.By.TheVariants as bys
use Rattle.vpc_model.specs.declared.places.Came.TheVariants as from
use Rattle.vpc_model.specs.declared.places.Place.TheVariants as places
use Rattle.vpc_model.specs.declared.stops.Stop.TheVariants as stops
use Rattle.vpc_base.proofs.Lemmas.{both_ways}
use Rattle.vpc_model.proofs.Nexts.{go≢stop}
use Rattle.unused_rules.proofs.Alike.{Alike}
use Rattle.unused_rules.proofs.Allowing.{none_allows}
use Rattle.unused_rules.proofs.Fewer.{FewerRules}

-- ---- steps

-- the same comes next, and the same is remembered; the rule by which groups let the packet pass may be another
pub record IsSameStep (s t : Step) : Type 0 where
  pub next : s.next ≡ t.next
  pub conns : s.conns ≡ t.conns
  pub nats : s.nats ≡ t.nats

-- of the steps of one packet: all three are the same, or groups stop it with the fewest rules, and not with the most
pub data AreNestedSteps (p : Place) (more between fewer : Step) : Type 0 where
  same : IsSameStep between more → IsSameStep fewer more → AreNestedSteps p more between fewer
  refused : (s : Stop) → door_of s ≡ Some p → (more.next ≡ stop s → ⊥) → fewer.next ≡ stop s → AreNestedSteps p more between fewer

pub itself-step : (s : Step) → IsSameStep s s
itself-step s = record { next = refl; conns = refl; nats = refl }

all-same : (p : Place) (s : Step) → AreNestedSteps p s s s
all-same p s = same (itself-step s) (itself-step s)

all-alike : (p : Place) (more between fewer s : Step) → more ≡ s → between ≡ s → fewer ≡ s → AreNestedSteps p more between fewer
all-alike p more between fewer s a b c = rw (a, b, c) (all-same p s)

nested-cond : (p : Place) (b : Bool) (s more between fewer : Step) → AreNestedSteps p more between fewer
    → AreNestedSteps p (cond b s more) (cond b s between) (cond b s fewer)
nested-cond p true s more between fewer nested = all-same p s
nested-cond p false s more between fewer nested = nested

-- by the first rule that allows the packet, if one does
nested-by_rule : (p : Place) (s : Stop) (by : Option RuleRef → Step) → door_of s ≡ Some p
    → ((a b : RuleRef) → IsSameStep (by (Some a)) (by (Some b)))
    → (by None).next ≡ stop s → ((a : RuleRef) → (by (Some a)).next ≡ stop s → ⊥) → (more between fewer : Option RuleRef)
    → (more ≡ None → between ≡ None) → (between ≡ None → fewer ≡ None)
    → AreNestedSteps p (by more) (by between) (by fewer)
nested-by_rule p s by door alike stopped passes None None None first second = all-same p (by None)
nested-by_rule p s by door alike stopped passes None None (Some c) first second = let e = second refl in absurd (cc)
nested-by_rule p s by door alike stopped passes None (Some b) fewer first second = let e = first refl in absurd (cc)
nested-by_rule p s by door alike stopped passes (Some a) None (Some c) first second = let e = second refl in absurd (cc)
nested-by_rule p s by door alike stopped passes (Some a) (Some b) (Some c) first second = same (alike b a) (alike c a)
nested-by_rule p s by door alike stopped passes (Some a) between None first second = refused s door (passes a) stopped

-- on to what comes next, if groups let the packet pass
abbrev pub passed : Moment → Stop → Next → Passing → Step
passed m s x p =
    elim p.by [
      | None ↦ plain m (stop s)
      | Some by ↦ record { next = x; by = by; conns = p.conns; nats = m.nats }
    ]

pub no-door : (s : Stop) (p : Place) → door_of s ≡ None → door_of s ≡ Some p → ⊥
no-door s p none some = cc

-- into an interface, no group stops a packet that groups let pass
pub taken-no_stop : (d : Description) (appliances : Appliances) (i : EniNo) (h : Header) → taken_in d appliances i h ≡ stop (stops.GroupsIn i)
    → ⊥
taken-no_stop d appliances i h e = both_ways (is_refused (taken_in d appliances i h)) (taken_by-unrefused d i h (boxes_at appliances i)) (ap is_refused e)

module _ (d : Description) (more between fewer : List Group) (first : Alike FewerRules more between)
    (second : Alike FewerRules between fewer) where
  abbrev most : Description
  most = with_filters d d.acls more

  abbrev middle : Description
  middle = with_filters d d.acls between

  abbrev fewest : Description
  fewest = with_filters d d.acls fewer

  nested-groups : (p : Place) (s : Stop) (x : Next) → door_of s ≡ Some p → (x ≡ stop s → ⊥)
      → (label : Label) (i : EniNo) (dir : Dir) (m : Moment) (groups : List (List ℕ))
      → AreNestedSteps p
      (passed m s x (passing_groups most label i dir m.header m.conns groups))
      (passed m s x (passing_groups middle label i dir m.header m.conns groups))
      (passed m s x (passing_groups fewest label i dir m.header m.conns groups))
  nested-groups p s x door goes label i dir m [] = same (itself-step _) (itself-step _)
  nested-groups p s x door goes labels.Opening i dir m (_ ∷ _) =
      let e = interface_at d i in
      let own : Connection = record { eni = i; dir = dir; header = m.header } in
      nested-by_rule p s (λ (r : Option RuleRef). passed m s x (open_passing m.conns own r)) door
      (λ a b. record { next = refl; conns = refl; nats = refl }) refl (λ a. goes)
      (first_rule most e dir m.header) (first_rule middle e dir m.header) (first_rule fewest e dir m.header)
      (none_allows d more between first e dir m.header) (none_allows d between fewer second e dir m.header)
  nested-groups p s x door goes labels.Answer i dir m (_ ∷ _) =
      let e = interface_at d i in
      tracked (is_tracked m.conns i dir m.header) (first_rule most e dir m.header) (first_rule middle e dir m.header)
      (first_rule fewest e dir m.header)
      (nested-by_rule p s (λ (r : Option RuleRef). passed m s x (answer_passing m.conns r)) door
      (λ a b. record { next = refl; conns = refl; nats = refl }) refl (λ a. goes)
      (first_rule most e dir m.header) (first_rule middle e dir m.header) (first_rule fewest e dir m.header)
      (none_allows d more between first e dir m.header) (none_allows d between fewer second e dir m.header))
    where
      tracked : (b : Bool) (a c f : Option RuleRef)
          → AreNestedSteps p (passed m s x (answer_passing m.conns a)) (passed m s x (answer_passing m.conns c))
          (passed m s x (answer_passing m.conns f))
          → AreNestedSteps p
          (passed m s x (cond b (record { by = Some bys.Tracked; conns = m.conns }) (answer_passing m.conns a)))
          (passed m s x (cond b (record { by = Some bys.Tracked; conns = m.conns }) (answer_passing m.conns c)))
          (passed m s x (cond b (record { by = Some bys.Tracked; conns = m.conns }) (answer_passing m.conns f)))
      tracked true a c f nested = same (itself-step _) (itself-step _)
      tracked false a c f nested = nested

  nested-at : (appliances : Appliances) (label : Label) (p : Place) (m : Moment)
      → AreNestedSteps p (step_at most appliances label p m) (step_at middle appliances label p m) (step_at fewest appliances label p m)
  nested-at appliances label p m =
      by_memory (λ q. AreNestedSteps q (step_at most appliances label q m) (step_at middle appliances label q m) (step_at fewest appliances label q m))
      out into (λ n. all-same _ _)
      (λ q rest. all-alike q _ _ _ (step_at d appliances label q m) (rest.groups d more appliances label m) (rest.groups d between appliances label m) (rest.groups d fewer appliances label m)) p
    where
      out : (i : EniNo) → AreNestedSteps (places.OutOf i) (step_at most appliances label (places.OutOf i) m) (step_at middle appliances label (places.OutOf i) m) (step_at fewest appliances label (places.OutOf i) m)
      out i =
          let e = interface_at d i in
          nested-cond (places.OutOf i) e.idle _ _ _ _ (nested-cond (places.OutOf i) (e.checked && not (has_address e m.header.src)) _ _ _ _
          (nested-groups (places.OutOf i) (stops.GroupsOut i) (go (places.Router (subnet_of d i) (from.Host i)) m.header) refl
          (go≢stop (places.Router (subnet_of d i) (from.Host i)) m.header (stops.GroupsOut i)) label i dirs.Outward m e.groups))

      into : (i : EniNo) → AreNestedSteps (places.Into i) (step_at most appliances label (places.Into i) m) (step_at middle appliances label (places.Into i) m) (step_at fewest appliances label (places.Into i) m)
      into i =
          let e = interface_at d i in
          nested-cond (places.Into i) e.idle _ _ _ _ (nested-cond (places.Into i) (e.checked && not (has_address e m.header.dst)) _ _ _ _
          (nested-groups (places.Into i) (stops.GroupsIn i) (taken_in d appliances i m.header) refl (taken-no_stop d appliances i m.header)
          label i dirs.Inward m e.groups))

  pub nested_steps : (appliances : Appliances) (label : Label) (m : Moment)
      → AreNestedSteps m.place (step_of most appliances label m) (step_of middle appliances label m) (step_of fewest appliances label m)
  nested_steps appliances label m = nested-at appliances label m.place m
