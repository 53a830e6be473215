-- By what packets pass groups, and what is remembered of them.
use Rattle.std.proofs.Common.{◌≡◌, ℕ, ◌&&◌, ◌⊎◌, not, List, [], ◌∷◌, ◌++◌, Option, Some, None, ap, false, inl, inr, refl, subst, sym, true, ◌∙◌}
use Rattle.vpc_base.proofs.Lemmas.{both_ways, cond_both, false≢true, none-some}
use Rattle.vpc_base.specs.declared.headers.Dir.TheVariants.{Inward, Outward}
use Rattle.vpc_base.specs.declared.headers.Label.TheVariants.{Answer, Opening}
use Rattle.vpc_model.specs.declared.outcomes.By.TheVariants.{Nothing, Rule, Tracked}
use Rattle.vpc_model.specs.declared.places.End.TheVariants.{Interface}
use Rattle.vpc_model.specs.declared.places.Place.TheVariants.{Into, NatOut, OutOf}
use Rattle.vpc_laws.specs.Types.{Box5, By, Description, Dir, EniNo, Header, Label, NatNo, Place, RuleRef}
use Rattle.vpc_model.specs.Terms.{Appliances, Connection, Moment, Next, Passing, Step, Translation, answer_passing, arrive, boxes_at, first_rule, first_rule_of, forwarded, has_address, in_passing, interface_at, is_full, is_tracked, is_translatable, label_passing, nat_at, new_translation, open_passing, out_passing, own_address, passes, passing_groups, passing_of, step_at, step_into, step_nat_out, step_of, step_out, taken_in, translate, translation_of}
use Rattle.vpc_laws.specs.Step.{AsksGroups, IsNewOpen, LetsPass, connection_of, is_refused, own_connection, remembered}
use Rattle.vpc_laws.specs.Memory.{Memory}
use Rattle.vpc_laws.proofs.ByMemory.{by_memory, plain-other}
use Rattle.vpc_laws.proofs.Flow.{taken_by}
use Rattle.vpc_laws.proofs.Growth.{step_into-nats, step_nat_out-conns, step_out-nats}

-- ---- what a step says of groups

Opening≢Answer : Opening ≡ Answer → ⊥
Opening≢Answer e = cc

-- it passed by what lets it pass, and what is remembered is by that
record IsPassed (d : Description) (label : Label) (own : Option Connection) (before : List Connection) (s : Step) : Type 0 where
  pub asks : AsksGroups d label before own s.by
  pub leaves : s.conns ≡ remembered label s.by own before
  pub forgets : is_refused s.next ≡ true → s.conns ≡ before

-- how groups decide
abbrev Decided : Description → Label → Connection → List Connection → Passing → Type 0
Decided d label c before passing = elim passing.by [
  | None ↦ Unit {0}
  | Some by ↦ LetsPass d label before c by × (passing.conns ≡ remembered label by (Some c) before)
]

open_passing-decided : (d : Description) (c : Connection) (conns : List Connection) (r : Option RuleRef) → first_rule d (interface_at d c.eni) c.dir c.header ≡ r → Decided d Opening c conns (open_passing conns c r)
open_passing-decided d c conns None e = tt
open_passing-decided d c conns (Some r) e = ((e, λ opens. absurd (Opening≢Answer opens)), refl)

answer_passing-decided : (d : Description) (c : Connection) (conns : List Connection) (r : Option RuleRef) → is_tracked conns c.eni c.dir c.header ≡ false → first_rule d (interface_at d c.eni) c.dir c.header ≡ r → Decided d Answer c conns (answer_passing conns r)
answer_passing-decided d c conns None new e = tt
answer_passing-decided d c conns (Some r) new e = ((e, λ _. new), refl)

label_passing-decided : (d : Description) (label : Label) (i : EniNo) (dir : Dir) (h : Header) (conns : List Connection) → Decided d label (record { eni = i; dir = dir; header = h }) conns (label_passing d label i dir h conns)
label_passing-decided d Opening i dir h conns = open_passing-decided d (record { eni = i; dir = dir; header = h }) conns (first_rule d (interface_at d i) dir h) refl
label_passing-decided d Answer i dir h conns =
    let c : Connection = record { eni = i; dir = dir; header = h } in
    let tracked : Passing = record { by = Some Tracked; conns = conns } in
    cond_both (is_tracked conns i dir h) tracked (answer_passing conns (first_rule d (interface_at d i) dir h)) (λ (x : Passing). Decided d Answer c conns x)
    (λ known. ((refl, known), refl)) (λ new. answer_passing-decided d c conns (first_rule d (interface_at d i) dir h) new refl)

passing_groups-decided : (d : Description) (label : Label) (i : EniNo) (dir : Dir) (h : Header) (conns : List Connection) (groups : List (List ℕ)) → (let e = interface_at d i in e.groups ≡ groups)
    → Decided d label (record { eni = i; dir = dir; header = h }) conns (passing_groups d label i dir h conns groups)
passing_groups-decided d Opening i dir h conns [] e = (e, refl)
passing_groups-decided d Answer i dir h conns [] e = (e, refl)
passing_groups-decided d label i dir h conns (g ∷ gs) e = label_passing-decided d label i dir h conns

-- a step that asks nothing
unasked : (d : Description) (label : Label) (c : Connection) (m : Moment) (s : Step) → s.by ≡ Nothing → s.conns ≡ m.conns → IsPassed d label (Some c) m.conns s
unasked d Opening c m s by same = record { asks = subst (LetsPass d Opening m.conns c) (sym by) tt; leaves = same ∙ ap (λ b. remembered Opening b (Some c) m.conns) (sym by); forgets = λ _. same }
unasked d Answer c m s by same = record { asks = subst (LetsPass d Answer m.conns c) (sym by) tt; leaves = same; forgets = λ _. same }

out_passing-passed : (d : Description) (label : Label) (i : EniNo) (m : Moment) (c : Connection) (by : Option By) (conns : List Connection) → Decided d label c m.conns (record { by = by; conns = conns })
    → IsPassed d label (Some c) m.conns (out_passing d i m (record { by = by; conns = conns }))
out_passing-passed d label i m c None conns decided = unasked d label c m _ refl refl
out_passing-passed d label i m c (Some by) conns decided = record { asks = decided.0; leaves = decided.1; forgets = λ e. absurd (false≢true e) }

pub taken_by-unrefused : (d : Description) (i : EniNo) (h : Header) (boxes : Option (List Box5)) → is_refused (taken_by d i h boxes) ≡ false
taken_by-unrefused d i h None = refl
taken_by-unrefused d i h (Some boxes) =
    cond_both (has_address (interface_at d i) h.dst) (arrive (Interface i)) (forwarded i h boxes) (λ (x : Next). is_refused x ≡ false) (λ _. refl)
    (λ _. cond_both (passes boxes h) _ _ (λ (x : Next). is_refused x ≡ false) (λ _. refl) (λ _. refl))

in_passing-passed : (d : Description) (appliances : Appliances) (label : Label) (i : EniNo) (m : Moment) (c : Connection) (by : Option By) (conns : List Connection) → Decided d label c m.conns (record { by = by; conns = conns })
    → IsPassed d label (Some c) m.conns (in_passing d appliances i m (record { by = by; conns = conns }))
in_passing-passed d appliances label i m c None conns decided = unasked d label c m _ refl refl
in_passing-passed d appliances label i m c (Some by) conns decided =
    record { asks = decided.0; leaves = decided.1; forgets = λ e. absurd (both_ways (is_refused (taken_in d appliances i m.header)) (taken_by-unrefused d i m.header (boxes_at appliances i)) e) }

step_out-passed : (d : Description) (label : Label) (i : EniNo) (m : Moment) → IsPassed d label (own_connection (OutOf i) m.header) m.conns (step_out d label i m)
step_out-passed d label i m =
    let e = interface_at d i in
    let c : Connection = record { eni = i; dir = Outward; header = m.header } in
    let passing = passing_of d label i Outward m.header m.conns in
    cond_both e.idle _ _ (λ (s : Step). IsPassed d label (Some c) m.conns s) (λ _. unasked d label c m _ refl refl)
    (λ _. cond_both (e.checked && not (has_address e m.header.src)) _ _ (λ (s : Step). IsPassed d label (Some c) m.conns s) (λ _. unasked d label c m _ refl refl)
    (λ _. out_passing-passed d label i m c passing.by passing.conns (passing_groups-decided d label i Outward m.header m.conns e.groups refl)))

step_into-passed : (d : Description) (appliances : Appliances) (label : Label) (i : EniNo) (m : Moment) → IsPassed d label (own_connection (Into i) m.header) m.conns (step_into d appliances label i m)
step_into-passed d appliances label i m =
    let e = interface_at d i in
    let c : Connection = record { eni = i; dir = Inward; header = m.header } in
    let passing = passing_of d label i Inward m.header m.conns in
    cond_both e.idle _ _ (λ (s : Step). IsPassed d label (Some c) m.conns s) (λ _. unasked d label c m _ refl refl)
    (λ _. cond_both (e.checked && not (has_address e m.header.dst)) _ _ (λ (s : Step). IsPassed d label (Some c) m.conns s) (λ _. unasked d label c m _ refl refl)
    (λ _. in_passing-passed d appliances label i m c passing.by passing.conns (passing_groups-decided d label i Inward m.header m.conns e.groups refl)))

-- elsewhere nothing is asked
elsewhere : (d : Description) (label : Label) (m : Moment) (s : Step) → s.by ≡ Nothing → s.conns ≡ m.conns → IsPassed d label None m.conns s
elsewhere d Opening m s by same = record { asks = by; leaves = same ∙ ap (λ b. remembered Opening b None m.conns) (sym by); forgets = λ _. same }
elsewhere d Answer m s by same = record { asks = by; leaves = same; forgets = λ _. same }

translate-by : (d : Description) (n : NatNo) (m : Moment) (t : Option Translation) → (translate d n m t).by ≡ Nothing
translate-by d n m (Some t) = refl
translate-by d n m None = cond_both (is_full m.nats n m.header) _ _ (λ (s : Step). s.by ≡ Nothing) (λ _. refl) (λ _. refl)

step_nat_out-by : (d : Description) (label : Label) (n : NatNo) (m : Moment) → (step_nat_out d label n m).by ≡ Nothing
step_nat_out-by d Answer n m = refl
step_nat_out-by d Opening n m =
    cond_both (is_translatable m.header.proto) (translate d n m (translation_of m.nats n m.header)) _ (λ (s : Step). s.by ≡ Nothing)
    (λ _. translate-by d n m (translation_of m.nats n m.header)) (λ _. refl)

step_at-passed : (d : Description) (appliances : Appliances) (label : Label) (p : Place) (m : Moment) → IsPassed d label (own_connection p m.header) m.conns (step_at d appliances label p m)
step_at-passed d appliances label p m =
    by_memory (λ q. IsPassed d label (own_connection q m.header) m.conns (step_at d appliances label q m))
    (λ i. step_out-passed d label i m) (λ i. step_into-passed d appliances label i m)
    (λ n. elsewhere d label m _ (step_nat_out-by d label n m) (step_nat_out-conns d label n m))
    (λ q rest. let same = rest.step d appliances label m in
    subst (λ (x : Memory). IsPassed d label (connection_of x m.header) m.conns (step_at d appliances label q m)) (sym rest.memory)
    (elsewhere d label m _ (ap (λ (s : Step). s.by) same) (ap (λ (s : Step). s.conns) same))) p

pub rules_are_remembered : (d : Description) (appliances : Appliances) (label : Label) (m : Moment) → let s = step_of d appliances label m in s.conns ≡ remembered label s.by (own_connection m.place m.header) m.conns
rules_are_remembered d appliances label m = (step_at-passed d appliances label m.place m).leaves

pub packets_pass_by_groups : (d : Description) (appliances : Appliances) (label : Label) (m : Moment) → let s = step_of d appliances label m in AsksGroups d label m.conns (own_connection m.place m.header) s.by
packets_pass_by_groups d appliances label m = (step_at-passed d appliances label m.place m).asks

pub refused_are_forgotten : (d : Description) (appliances : Appliances) (label : Label) (m : Moment) → let s = step_of d appliances label m in is_refused s.next ≡ true → s.conns ≡ m.conns
refused_are_forgotten d appliances label m = (step_at-passed d appliances label m.place m).forgets

-- ---- opens that a rule allows

open-by : (d : Description) (i : EniNo) (dir : Dir) (h : Header) (conns : List Connection) (r : RuleRef) (groups : List (List ℕ)) → first_rule_of d (interface_at d i) dir h groups ≡ Some r → first_rule d (interface_at d i) dir h ≡ Some r
    → (passing_groups d Opening i dir h conns groups).by ≡ Some (Rule r)
open-by d i dir h conns r [] e f = absurd (none-some r e)
open-by d i dir h conns r (g ∷ gs) e f = rw f refl

out_passing-by : (d : Description) (i : EniNo) (m : Moment) (b : By) (p : Passing) → p.by ≡ Some b → (out_passing d i m p).by ≡ b
out_passing-by d i m b p e = rw e refl

in_passing-by : (d : Description) (appliances : Appliances) (i : EniNo) (m : Moment) (b : By) (p : Passing) → p.by ≡ Some b → (in_passing d appliances i m p).by ≡ b
in_passing-by d appliances i m b p e = rw e refl

pub opens_pass_by_rules : (d : Description) (appliances : Appliances) (i : EniNo) (h : Header) (conns : List Connection) (nats : List Translation) (r : RuleRef)
    → let e = interface_at d i in
    let out = step_of d appliances Opening (record { place = OutOf i; header = h; conns = conns; nats = nats }) in
    let into = step_of d appliances Opening (record { place = Into i; header = h; conns = conns; nats = nats }) in
    e.idle ≡ false
    → (((e.checked && not (has_address e h.src)) ≡ false → first_rule d e Outward h ≡ Some r → out.by ≡ Rule r)
    × ((e.checked && not (has_address e h.dst)) ≡ false → first_rule d e Inward h ≡ Some r → into.by ≡ Rule r))
opens_pass_by_rules d appliances i h conns nats r attached =
    let e = interface_at d i in
    let m : Moment = record { place = OutOf i; header = h; conns = conns; nats = nats } in
    let n : Moment = record { place = Into i; header = h; conns = conns; nats = nats } in (
      λ checked allowed. rw (attached, checked) (out_passing-by d i m (Rule r) (passing_of d Opening i Outward h conns) (open-by d i Outward h conns r e.groups allowed allowed)),
      λ checked allowed. rw (attached, checked) (in_passing-by d appliances i n (Rule r) (passing_of d Opening i Inward h conns) (open-by d i Inward h conns r e.groups allowed allowed)),
    )

-- ---- opens that are translated

-- what a step leaves of translations
abbrev Translates : Description → Label → Moment → List Translation → Type 0
Translates d label m nats =
    ((nats ≡ m.nats) × ((n : NatNo) → IsNewOpen label m n → ⊥))
    ⊎ ((n : NatNo) × (let row = nat_at d n in IsNewOpen label m n × (nats ≡ m.nats ++ new_translation m.nats n (own_address row.life) m.header ∷ [])))

NatOut-same : (n k : NatNo) → NatOut n ≡ NatOut k → n ≡ k
NatOut-same n k e = cc

translate-translates : (d : Description) (n : NatNo) (m : Moment) (t : Option Translation) → m.place ≡ NatOut n → is_translatable m.header.proto ≡ true → translation_of m.nats n m.header ≡ t → Translates d Opening m (translate d n m t).nats
translate-translates d n m (Some t) here translatable known = inl (refl, λ k is. none-some t (sym (rw (NatOut-same k n (sym is.here ∙ here)) at is.unknown) ∙ known))
translate-translates d n m None here translatable unknown =
    let row = nat_at d n in
    cond_both (is_full m.nats n m.header) _ _ (λ (s : Step). Translates d Opening m s.nats)
    (λ full. inl (refl, λ k is. both_ways (is_full m.nats n m.header) (subst (λ j. is_full m.nats j m.header ≡ false) (NatOut-same k n (sym is.here ∙ here)) is.room) full))
    (λ room. inr (n, (record { opens = refl; here = here; translatable = translatable; unknown = unknown; room = room }, refl)))

step_nat_out-translates : (d : Description) (label : Label) (n : NatNo) (m : Moment) → m.place ≡ NatOut n → Translates d label m (step_nat_out d label n m).nats
step_nat_out-translates d Answer n m here = inl (refl, λ k is. Opening≢Answer (sym is.opens))
step_nat_out-translates d Opening n m here =
    cond_both (is_translatable m.header.proto) (translate d n m (translation_of m.nats n m.header)) _ (λ (s : Step). Translates d Opening m s.nats)
    (λ translatable. translate-translates d n m (translation_of m.nats n m.header) here translatable refl)
    (λ foreign. inl (refl, λ k is. both_ways (is_translatable m.header.proto) foreign is.translatable))

-- elsewhere none is translated
untranslated : (d : Description) (label : Label) (m : Moment) (p : Place) (nats : List Translation) → m.place ≡ p → ((n : NatNo) → p ≡ NatOut n → ⊥) → nats ≡ m.nats → Translates d label m nats
untranslated d label m p nats here other same = inl (same, λ n is. other n (sym here ∙ is.here))

step_at-new : (d : Description) (appliances : Appliances) (label : Label) (p : Place) (m : Moment) → m.place ≡ p → Translates d label m (step_at d appliances label p m).nats
step_at-new d appliances label p m =
    by_memory (λ q. m.place ≡ q → Translates d label m (step_at d appliances label q m).nats)
    (λ i here. untranslated d label m (OutOf i) _ here (λ n e. cc) (step_out-nats d label i m))
    (λ i here. untranslated d label m (Into i) _ here (λ n e. cc) (step_into-nats d appliances label i m))
    (λ n here. step_nat_out-translates d label n m here)
    (λ q rest here. untranslated d label m q _ here (λ n. plain-other q n rest) (ap (λ (s : Step). s.nats) (rest.step d appliances label m))) p

pub new_opens_are_translated : (d : Description) (appliances : Appliances) (label : Label) (m : Moment)
    → let s = step_of d appliances label m in
    ((s.nats ≡ m.nats) × ((n : NatNo) → IsNewOpen label m n → ⊥))
    ⊎ ((n : NatNo) × (let row = nat_at d n in IsNewOpen label m n × (s.nats ≡ m.nats ++ new_translation m.nats n (own_address row.life) m.header ∷ [])))
new_opens_are_translated d appliances label m = step_at-new d appliances label m.place m refl
