-- What a step adds to connections and translations.
use Rattle.std.proofs.Common.{◌≡◌, ℕ, ◌&&◌, not, List, [], ◌∷◌, ◌++◌, Option, Some, None, ap, refl, inl, inr, ◌∙◌, sym}
use Rattle.std.specs.List.{list_any}
use Rattle.std.proofs.lemmas.Bool.{cond_both}
use Rattle.std.proofs.lemmas.List.{append-nil}
use Rattle.vpc_base.specs.declared.headers.Dir.TheVariants.{Inward, Outward}
use Rattle.vpc_base.specs.declared.headers.Label.TheVariants.{Opening, Answer}
use Rattle.vpc_model.specs.declared.places.Place.TheVariants.{OutOf, Into, NatOut}
use Rattle.vpc_laws.specs.Types.{By, Description, Dir, EniNo, Header, Label, NatNo, Place, RuleRef}
use Rattle.vpc_laws.specs.Step.{AddsOwn, AddsTranslation, Begins, own_connection}
use Rattle.vpc_model.specs.Appliances.{Appliances}
use Rattle.vpc_model.specs.Connections.{Connection, Passing, added, answer_passing, is_tracked, label_passing, open_passing, passing_groups, passing_of, same_connection}
use Rattle.vpc_model.specs.Groups.{first_rule}
use Rattle.vpc_model.specs.Lookup.{has_address, interface_at}
use Rattle.vpc_model.specs.Nat.{Translation, is_full, is_translatable, translation_of}
use Rattle.vpc_model.specs.Step.{step_at, step_of}
use Rattle.vpc_model.specs.Step.Interface.{in_passing, out_passing, step_into, step_out}
use Rattle.vpc_model.specs.Step.Nat.{step_nat_out, translate}
use Rattle.vpc_model.specs.Step.Words.{Moment, Step}
use Rattle.vpc_laws.proofs.ByMemory.{by_memory}

-- ---- connections

pub added-adds : (p : Place) (h : Header) (conns : List Connection) (c : Connection) → own_connection p h ≡ Some c → AddsOwn Opening p h conns (added conns c)
added-adds p h conns c own =
    cond_both (list_any (same_connection c) conns) conns (conns ++ c ∷ []) (λ (x : List Connection). AddsOwn Opening p h conns x)
    (λ _. inl refl) (λ _. inr (c, (refl, (own, refl))))

open_passing-adds : (p : Place) (h : Header) (conns : List Connection) (c : Connection) (r : Option RuleRef) → own_connection p h ≡ Some c → AddsOwn Opening p h conns (open_passing conns c r).conns
open_passing-adds p h conns c None own = inl refl
open_passing-adds p h conns c (Some r) own = added-adds p h conns c own

answer_passing-conns : (conns : List Connection) (r : Option RuleRef) → (answer_passing conns r).conns ≡ conns
answer_passing-conns conns None = refl
answer_passing-conns conns (Some r) = refl

label_passing-adds : (d : Description) (label : Label) (i : EniNo) (dir : Dir) (p : Place) (h : Header) (conns : List Connection) → own_connection p h ≡ Some (record { eni = i; dir = dir; header = h }) → AddsOwn label p h conns (label_passing d label i dir h conns).conns
label_passing-adds d Opening i dir p h conns own = open_passing-adds p h conns (record { eni = i; dir = dir; header = h }) (first_rule d (interface_at d i) dir h) own
label_passing-adds d Answer i dir p h conns own =
    cond_both (is_tracked conns i dir h) _ (answer_passing conns (first_rule d (interface_at d i) dir h)) (λ (x : Passing). AddsOwn Answer p h conns x.conns)
    (λ _. inl refl) (λ _. inl (answer_passing-conns conns (first_rule d (interface_at d i) dir h)))

passing_groups-adds : (d : Description) (label : Label) (i : EniNo) (dir : Dir) (p : Place) (h : Header) (conns : List Connection) (groups : List (List ℕ)) → own_connection p h ≡ Some (record { eni = i; dir = dir; header = h }) → AddsOwn label p h conns (passing_groups d label i dir h conns groups).conns
passing_groups-adds d label i dir p h conns [] own = inl refl
passing_groups-adds d label i dir p h conns (g ∷ gs) own = label_passing-adds d label i dir p h conns own

out_passing-adds : (d : Description) (label : Label) (i : EniNo) (p : Place) (m : Moment) (by : Option By) (conns : List Connection) → AddsOwn label p m.header m.conns conns → AddsOwn label p m.header m.conns (out_passing d i m (record { by = by; conns = conns })).conns
out_passing-adds d label i p m None conns adds = inl refl
out_passing-adds d label i p m (Some by) conns adds = adds

in_passing-adds : (d : Description) (appliances : Appliances) (label : Label) (i : EniNo) (p : Place) (m : Moment) (by : Option By) (conns : List Connection) → AddsOwn label p m.header m.conns conns → AddsOwn label p m.header m.conns (in_passing d appliances i m (record { by = by; conns = conns })).conns
in_passing-adds d appliances label i p m None conns adds = inl refl
in_passing-adds d appliances label i p m (Some by) conns adds = adds

step_out-adds : (d : Description) (label : Label) (i : EniNo) (m : Moment) → AddsOwn label (OutOf i) m.header m.conns (step_out d label i m).conns
step_out-adds d label i m =
    let e = interface_at d i in
    let passing = passing_of d label i Outward m.header m.conns in
    cond_both e.idle _ _ (λ (s : Step). AddsOwn label (OutOf i) m.header m.conns s.conns) (λ _. inl refl)
    (λ _. cond_both (e.checked && not (has_address e m.header.src)) _ _ (λ (s : Step). AddsOwn label (OutOf i) m.header m.conns s.conns) (λ _. inl refl)
    (λ _. out_passing-adds d label i (OutOf i) m passing.by passing.conns (passing_groups-adds d label i Outward (OutOf i) m.header m.conns e.groups refl)))

step_into-adds : (d : Description) (appliances : Appliances) (label : Label) (i : EniNo) (m : Moment) → AddsOwn label (Into i) m.header m.conns (step_into d appliances label i m).conns
step_into-adds d appliances label i m =
    let e = interface_at d i in
    let passing = passing_of d label i Inward m.header m.conns in
    cond_both e.idle _ _ (λ (s : Step). AddsOwn label (Into i) m.header m.conns s.conns) (λ _. inl refl)
    (λ _. cond_both (e.checked && not (has_address e m.header.dst)) _ _ (λ (s : Step). AddsOwn label (Into i) m.header m.conns s.conns) (λ _. inl refl)
    (λ _. in_passing-adds d appliances label i (Into i) m passing.by passing.conns (passing_groups-adds d label i Inward (Into i) m.header m.conns e.groups refl)))

translate-conns : (d : Description) (n : NatNo) (m : Moment) (t : Option Translation) → (translate d n m t).conns ≡ m.conns
translate-conns d n m (Some t) = refl
translate-conns d n m None = cond_both (is_full m.nats n m.header) _ _ (λ (s : Step). s.conns ≡ m.conns) (λ _. refl) (λ _. refl)

pub step_nat_out-conns : (d : Description) (label : Label) (n : NatNo) (m : Moment) → (step_nat_out d label n m).conns ≡ m.conns
step_nat_out-conns d Answer n m = refl
step_nat_out-conns d Opening n m =
    cond_both (is_translatable m.header.proto) (translate d n m (translation_of m.nats n m.header)) _ (λ (s : Step). s.conns ≡ m.conns)
    (λ _. translate-conns d n m (translation_of m.nats n m.header)) (λ _. refl)

pub step_at-adds : (d : Description) (appliances : Appliances) (label : Label) (p : Place) (m : Moment) → AddsOwn label p m.header m.conns (step_at d appliances label p m).conns
step_at-adds d appliances label p m =
    by_memory (λ q. AddsOwn label q m.header m.conns (step_at d appliances label q m).conns)
    (λ i. step_out-adds d label i m) (λ i. step_into-adds d appliances label i m) (λ n. inl (step_nat_out-conns d label n m))
    (λ q rest. inl (ap (λ (s : Step). s.conns) (rest.step d appliances label m))) p

-- ---- translations

out_passing-nats : (d : Description) (i : EniNo) (m : Moment) (by : Option By) (conns : List Connection) → (out_passing d i m (record { by = by; conns = conns })).nats ≡ m.nats
out_passing-nats d i m None conns = refl
out_passing-nats d i m (Some by) conns = refl

in_passing-nats : (d : Description) (appliances : Appliances) (i : EniNo) (m : Moment) (by : Option By) (conns : List Connection) → (in_passing d appliances i m (record { by = by; conns = conns })).nats ≡ m.nats
in_passing-nats d appliances i m None conns = refl
in_passing-nats d appliances i m (Some by) conns = refl

pub step_out-nats : (d : Description) (label : Label) (i : EniNo) (m : Moment) → (step_out d label i m).nats ≡ m.nats
step_out-nats d label i m =
    let e = interface_at d i in
    let passing = passing_of d label i Outward m.header m.conns in
    cond_both e.idle _ _ (λ (s : Step). s.nats ≡ m.nats) (λ _. refl)
    (λ _. cond_both (e.checked && not (has_address e m.header.src)) _ _ (λ (s : Step). s.nats ≡ m.nats) (λ _. refl)
    (λ _. out_passing-nats d i m passing.by passing.conns))

pub step_into-nats : (d : Description) (appliances : Appliances) (label : Label) (i : EniNo) (m : Moment) → (step_into d appliances label i m).nats ≡ m.nats
step_into-nats d appliances label i m =
    let e = interface_at d i in
    let passing = passing_of d label i Inward m.header m.conns in
    cond_both e.idle _ _ (λ (s : Step). s.nats ≡ m.nats) (λ _. refl)
    (λ _. cond_both (e.checked && not (has_address e m.header.dst)) _ _ (λ (s : Step). s.nats ≡ m.nats) (λ _. refl)
    (λ _. in_passing-nats d appliances i m passing.by passing.conns))

translate-adds : (d : Description) (n : NatNo) (m : Moment) (t : Option Translation) → AddsTranslation Opening (NatOut n) m.header m.nats (translate d n m t).nats
translate-adds d n m (Some t) = inl refl
translate-adds d n m None =
    cond_both (is_full m.nats n m.header) _ _ (λ (s : Step). AddsTranslation Opening (NatOut n) m.header m.nats s.nats)
    (λ _. inl refl) (λ _. inr (_, (refl, (refl, (refl, refl)))))

step_nat_out-adds : (d : Description) (label : Label) (n : NatNo) (m : Moment) → AddsTranslation label (NatOut n) m.header m.nats (step_nat_out d label n m).nats
step_nat_out-adds d Answer n m = inl refl
step_nat_out-adds d Opening n m =
    cond_both (is_translatable m.header.proto) (translate d n m (translation_of m.nats n m.header)) _ (λ (s : Step). AddsTranslation Opening (NatOut n) m.header m.nats s.nats)
    (λ _. translate-adds d n m (translation_of m.nats n m.header)) (λ _. inl refl)

pub step_at-translates : (d : Description) (appliances : Appliances) (label : Label) (p : Place) (m : Moment) → AddsTranslation label p m.header m.nats (step_at d appliances label p m).nats
step_at-translates d appliances label p m =
    by_memory (λ q. AddsTranslation label q m.header m.nats (step_at d appliances label q m).nats)
    (λ i. inl (step_out-nats d label i m)) (λ i. inl (step_into-nats d appliances label i m)) (λ n. step_nat_out-adds d label n m)
    (λ q rest. inl (ap (λ (s : Step). s.nats) (rest.step d appliances label m))) p

-- ---- what follows

pub AddsOwn-begins : (label : Label) (p : Place) (h : Header) (before after : List Connection) → AddsOwn label p h before after → Begins before after
AddsOwn-begins label p h before after (inl e) = ([], e ∙ sym (append-nil before))
AddsOwn-begins label p h before after (inr (c, (opens, (own, e)))) = (c ∷ [], e)

pub AddsTranslation-begins : (label : Label) (p : Place) (h : Header) (before after : List Translation) → AddsTranslation label p h before after → Begins before after
AddsTranslation-begins label p h before after (inl e) = ([], e ∙ sym (append-nil before))
AddsTranslation-begins label p h before after (inr (t, (opens, (here, (whole, e))))) = (t ∷ [], e)

pub AddsOwn-elsewhere : (label : Label) (p : Place) (h : Header) (before after : List Connection) → own_connection p h ≡ None → AddsOwn label p h before after → after ≡ before
AddsOwn-elsewhere label p h before after none (inl e) = e
AddsOwn-elsewhere label p h before after none (inr (c, (opens, (own, e)))) = cc

pub AddsOwn-answer : (p : Place) (h : Header) (before after : List Connection) → AddsOwn Answer p h before after → after ≡ before
AddsOwn-answer p h before after (inl e) = e
AddsOwn-answer p h before after (inr (c, (opens, (own, e)))) = cc

pub AddsTranslation-answer : (p : Place) (h : Header) (before after : List Translation) → AddsTranslation Answer p h before after → after ≡ before
AddsTranslation-answer p h before after (inl e) = e
AddsTranslation-answer p h before after (inr (t, (opens, (here, (whole, e))))) = cc

-- ---- the laws

pub step_adds_own : (d : Description) (appliances : Appliances) (label : Label) (m : Moment) → AddsOwn label m.place m.header m.conns (step_of d appliances label m).conns
step_adds_own d appliances label m = step_at-adds d appliances label m.place m

pub step_adds_translation : (d : Description) (appliances : Appliances) (label : Label) (m : Moment) → AddsTranslation label m.place m.header m.nats (step_of d appliances label m).nats
step_adds_translation d appliances label m = step_at-translates d appliances label m.place m

pub step_keeps : (d : Description) (appliances : Appliances) (label : Label) (m : Moment) → Begins m.conns (step_of d appliances label m).conns × Begins m.nats (step_of d appliances label m).nats
step_keeps d appliances label m = (AddsOwn-begins label m.place m.header _ _ (step_adds_own d appliances label m), AddsTranslation-begins label m.place m.header _ _ (step_adds_translation d appliances label m))

pub connections_change_at_interfaces : (d : Description) (appliances : Appliances) (label : Label) (m : Moment) → own_connection m.place m.header ≡ None → (step_of d appliances label m).conns ≡ m.conns
connections_change_at_interfaces d appliances label m none = AddsOwn-elsewhere label m.place m.header _ _ none (step_adds_own d appliances label m)

pub answer_adds_nothing : (d : Description) (appliances : Appliances) (m : Moment) → ((step_of d appliances Answer m).conns ≡ m.conns) × ((step_of d appliances Answer m).nats ≡ m.nats)
answer_adds_nothing d appliances m = (AddsOwn-answer m.place m.header _ _ (step_adds_own d appliances Answer m), AddsTranslation-answer m.place m.header _ _ (step_adds_translation d appliances Answer m))
