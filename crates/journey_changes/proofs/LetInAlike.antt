-- Interfaces that let in the same.
use Rattle.std.proofs.Common.{Bool, IfSome, List, None, Option, Some, [], ap, ap₂, cond, is_some, not, refl, subst, sym, true, ℕ, ◌&&◌, ◌==◌, ◌||◌, ◌∙◌, ◌∷◌, ◌≡◌}
use Rattle.std.specs.List.{list_any}
use Rattle.box_steps.specs.Passing.{is_passed}
use Rattle.box_walk.proofs.Homes.{start_among}
use Rattle.box_walk.specs.Terms.{AreArrivals, Starting, journey_of, open_cuts, reached_end, starting_by}
use Rattle.box_walk.specs.declared.arriving.Arrivals.{Arrivals}
use Rattle.box_walk.specs.declared.journeys.Journey.{Journey}
use Rattle.box_walk.specs.declared.journeys.Journey.TheVariants as journeys
use Rattle.header_boxes.specs.Boxes.{low_of}
use Rattle.prefix_text.specs.Block.{Block, holds}
use Rattle.security_groups.specs.Terms.{BothGroups, GroupLists, GroupsLetInSame, HasRulesOf}
use Rattle.vpc_base.specs.Cuts.{AreAmong}
use Rattle.vpc_base.specs.declared.headers.Dir.TheVariants as dirs
use Rattle.vpc_base.specs.declared.headers.Label.TheVariants as labels
use Rattle.vpc_laws.specs.Types.{Box5, Description, End, EniNo, FarNo, Header, Interface, RuleRef}
use Rattle.vpc_model.specs.Terms.{Connection, appliances_of, first_rule, has_address, homes_among, interface_at, is_eni, open_passing, passing_groups}
use Rattle.journey_changes.proofs.Asked.{from_start, open_sent}
use Rattle.journey_changes.specs.Terms.{AskAlike, ComeTo, LetInAlike, Sent, fate_by, has_groups, reached_by, sent, start_or}
use Rattle.journey_changes.specs.declared.fates.Toward.TheVariants as towards

-- ---- requests that come to an interface

reached-end : (j : Journey) → reached_by (fate_by j) ≡ reached_end j
reached-end (journeys.Reached end) = refl
reached-end (journeys.Stopped phase s) = refl

come : (d : Description) (s : End) (links : List FarNo) (sides : Box5) (x : Arrivals) → AreArrivals d (appliances_of d) (homes_among links s) sides x
    → ComeTo (sent d (Some s) links towards.Any) sides x
come d s links sides x k = record {
  reached = λ h inside. reached-end (journey_of d (appliances_of d) (homes_among links s) None h) ∙ k.reached h inside;
  end = k.end;
  valid = k.valid;
  body = k.body;
  aligned = λ cuts e.
      k.aligned cuts (subst (λ (start : End). AreAmong (open_cuts d (appliances_of d) start (low_of sides)) cuts) (sym (start_among links s)) e);
}

-- what a probe finds, whatever it asks
abbrev pub AreArrivalsOf : Starting → Box5 → Arrivals → Type 0
AreArrivalsOf asks sides x = AreArrivals asks.network (appliances_of asks.network) asks.homes sides x

pub come_if : (q : Sent) (s : End) (asks : Starting) (sides : Box5) (found : Option Arrivals) → q.start ≡ Some s
    → asks ≡ starting_by q.network (homes_among q.links (start_or q.start)) → q.toward ≡ towards.Any → IfSome found (AreArrivalsOf asks sides) → IfSome found (ComeTo q sides)
come_if q s asks sides None is same toward k = tt
come_if q s asks sides (Some x) is same toward k =
    subst (λ (r : Sent). ComeTo r sides x) (from_start q s towards.Any is toward)
    (come q.network s q.links sides x (subst (λ (y : Starting). AreArrivalsOf y sides x) (open_sent q s asks is same) k))

-- ---- interfaces that let in the same

-- an index has the rules of the network that requests are sent in, whatever these are
pub rules_as : (q r : Sent) (groups : GroupLists) → q.network ≡ r.network → HasRulesOf r.network groups → HasRulesOf q.network groups
rules_as q r groups same rules = subst (λ (d : Description). HasRulesOf d groups) (sym same) rules

passed-by : (conns : List Connection) (c : Connection) (rule : Option RuleRef) → is_passed (open_passing conns c rule) ≡ is_some rule
passed-by conns c None = refl
passed-by conns c (Some r) = refl

-- whether groups let an open in
abbrev passed : Bool → Bool → Bool
passed grouped ruled = cond grouped ruled true

passes : (d : Description) (i : EniNo) (h : Header) (groups : List (List ℕ))
    → is_passed (passing_groups d labels.Opening i dirs.Inward h [] groups) ≡ passed (has_groups groups) (is_some (first_rule d (interface_at d i) dirs.Inward h))
passes d i h [] = refl
passes d i h (g ∷ gs) = passed-by [] (record { eni = i; dir = dirs.Inward; header = h }) (first_rule d (interface_at d i) dirs.Inward h)

five : (a b c x y k : Bool) (p q r s t u : Bool) → a ≡ x → b ≡ y → c ≡ k → p ≡ q → r ≡ s → (not a && (not (b && not c) && passed p r)) ≡ (not x && (not (y && not k) && passed q s))
five a b c x y k p q r s t u e1 e2 e3 e4 e5 = cc

pub lets_alike : (d c : Description) (e i : EniNo) (both : BothGroups) → AskAlike (interface_at d e) (interface_at c i) → HasRulesOf d both.one → HasRulesOf c both.other → is_eni d e ≡ true → is_eni c i ≡ true
    → GroupsLetInSame both e i → LetInAlike d e c i
lets_alike d c e i both rows one other there here same h fits =
    let row = interface_at d e in
    let far = interface_at c i in
    let addressed : has_address row h.dst ≡ has_address far h.dst = among row far rows.addresses rows.prefixes in
    let ruled : is_some (first_rule d row dirs.Inward h) ≡ is_some (first_rule c far dirs.Inward h)
    = ap is_some (sym (one.rules e dirs.Inward h there fits.src)) ∙ same h fits.src ∙ ap is_some (other.rules i dirs.Inward h here fits.src) in
    ap (λ (x : Bool). not row.idle && (not (row.checked && not (has_address row h.dst)) && x)) (passes d e h row.groups)
    ∙ (five row.idle row.checked (has_address row h.dst) far.idle far.checked (has_address far h.dst) (has_groups row.groups) (has_groups far.groups)
    (is_some (first_rule d row dirs.Inward h)) (is_some (first_rule c far dirs.Inward h)) true true rows.idle rows.checked addressed rows.groups ruled
    ∙ ap (λ (x : Bool). not far.idle && (not (far.checked && not (has_address far h.dst)) && x)) (sym (passes c i h far.groups)))
  where
    among : (row far : Interface) → row.addresses ≡ far.addresses → row.prefixes ≡ far.prefixes → has_address row h.dst ≡ has_address far h.dst
    among row far is same =
        ap₂ (λ (p q : Bool). p || q) (ap (λ (all : List (ℕ × Option ℕ)). list_any (λ x. x.0 == h.dst) all) is) (ap (λ (all : List Block). list_any (holds h.dst) all) same)
