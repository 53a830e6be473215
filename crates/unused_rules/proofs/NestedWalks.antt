-- Walks in three descriptions that differ in the rules of their groups alone, each with fewer than the one before.
use Rattle.std.proofs.Common.{◌≡◌, ◌∙◌, ◌||◌, ◌++◌, ◌∷◌, [], Bool, List, None, Option, Some, ap, ap₂, cond, false, refl, subst, suc, sym, true, zero, ℕ}
use Rattle.std.proofs.lemmas.Bool.{both_ways, cond_both}
use Rattle.std.proofs.lemmas.List.Folds.{list_any-append}
use Rattle.copied_rows.specs.Filters.{with_filters}
use Rattle.vpc_laws.proofs.Adding.{is_visited-last, is_visited-more}
use Rattle.vpc_laws.proofs.Lemmas.{steps_lead_on}
use Rattle.vpc_laws.proofs.Walking.{hop_at, moment}
use Rattle.vpc_laws.specs.Onward.{IsDoor, LeadsOn, door_of}
use Rattle.vpc_laws.specs.Types.{Description, End, Group, Header, Hop, Label, Outcome, Place, Stop}
use Rattle.vpc_model.specs.Appliances.{Appliances}
use Rattle.vpc_model.specs.Connections.{Connection}
use Rattle.vpc_model.specs.Nat.{Translation}
use Rattle.vpc_model.specs.Step.{step_of}
use Rattle.vpc_model.specs.Step.Words.{Moment, Next, Step, arrive, go, stop}
use Rattle.vpc_model.specs.Walk.{Walk, ended, is_visited, same_place, turned_back, walk_of, walk_on}
use Rattle.vpc_model.specs.declared.outcomes.Outcome.TheVariants as outcomes
use Rattle.vpc_model.specs.declared.stops.Stop.TheVariants as stops
use Rattle.unused_rules.proofs.Alike.{Alike}
use Rattle.unused_rules.proofs.Fewer.{FewerRules}
use Rattle.unused_rules.proofs.NestedSteps.{AreNestedSteps, IsSameStep, nested_steps, no-door, refused as refused_step, same as same_step}

-- ---- places

-- the same places are among the hops
abbrev pub SameSeen : List Hop → List Hop → Type 0
SameSeen g h = (p : Place) → is_visited g p ≡ is_visited h p

visited-push : (hops : List Hop) (h : Hop) (p : Place)
    → is_visited (hops ++ h ∷ []) p ≡ (is_visited hops p || (same_place h.place p || false))
visited-push hops h p = list_any-append (λ (g : Hop). same_place g.place p) hops (h ∷ [])

pub seen-push : (g h : List Hop) (a b : Hop) → SameSeen g h → a.place ≡ b.place → SameSeen (g ++ a ∷ []) (h ++ b ∷ [])
seen-push g h a b seen place p =
    visited-push g a p ∙ (ap₂ (λ (x : Bool) (q : Place). x || (same_place q p || false)) (seen p) place ∙ sym (visited-push h b p))

-- ---- a place that groups let a packet pass

arrived-not_stopped : (end : End) (h : Header) (s : Stop) → outcomes.Arrived end h ≡ outcomes.Stopped s → ⊥
arrived-not_stopped end h s e = cc

stopped-same : (s t : Stop) → outcomes.Stopped s ≡ outcomes.Stopped t → s ≡ t
stopped-same s t e = cc

turned_back-no_door : (hops : List Hop) (p : Place) → door_of (turned_back hops p) ≡ None
turned_back-no_door hops p =
    cond_both (is_visited hops p) (stops.Loop p) (stops.TooFar p) (λ (s : Stop). door_of s ≡ None) (λ _. refl) (λ _. refl)

not-by_groups : (t s : Stop) (p : Place) → door_of s ≡ Some p → door_of t ≡ None → outcomes.Stopped t ≡ outcomes.Stopped s → ⊥
not-by_groups t s p door none e = no-door s p (subst (λ (x : Stop). door_of x ≡ None) (stopped-same t s e) none) door

door-here : (d : Description) (h : Header) (s : Stop) (p q : Place) (x : Next) → door_of s ≡ Some p → LeadsOn d q h x → x ≡ stop s → q ≡ p
door-here d h s p q x door at e =
    let here : IsDoor q (door_of s) = (subst (LeadsOn d q h) e at).0 in
    subst (λ (o : Option Place). IsDoor q o) door here

-- groups don't stop it there later
passed-for_good : (d : Description) (appliances : Appliances) (label : Label) (s : Stop) (p : Place) → door_of s ≡ Some p
    → (n : ℕ) (hops : List Hop) (h : Header) (x : Next) (conns : List Connection) (nats : List Translation) → is_visited hops p ≡ true
    → (x ≡ stop s → ⊥)
    → (walk_on d appliances label n hops h x conns nats).outcome ≡ outcomes.Stopped s → ⊥
passed-for_good d appliances label s p door n hops h (arrive end) conns nats there goes = arrived-not_stopped end h s
passed-for_good d appliances label s p door n hops h (stop t) conns nats there goes = λ e. goes (ap stop (stopped-same t s e))
passed-for_good d appliances label s p door zero hops h (go q k) conns nats there goes =
    not-by_groups (turned_back hops q) s p door (turned_back-no_door hops q)
passed-for_good d appliances label s p door (suc n) hops h (go q k) conns nats there goes =
    let m = moment q k conns nats in
    let t = step_of d appliances label m in
    cond_both (is_visited hops q) (ended hops (outcomes.Stopped (stops.Loop q)) conns nats)
    (walk_on d appliances label n (hops ++ hop_at d appliances label m ∷ []) k t.next t.conns t.nats)
    (λ (w : Walk). w.outcome ≡ outcomes.Stopped s → ⊥)
    (λ _. not-by_groups (stops.Loop q) s p door refl)
    (λ new. passed-for_good d appliances label s p door n (hops ++ hop_at d appliances label m ∷ []) k t.next t.conns t.nats
    (is_visited-more hops (hop_at d appliances label m) p there)
    (λ e. both_ways (is_visited hops p)
    (subst (λ (r : Place). is_visited hops r ≡ false) (door-here d k s p q t.next door (steps_lead_on d appliances label m) e) new) there))

-- ---- walks

pub record IsSameWalk (v w : Walk) : Type 0 where
  pub outcome : v.outcome ≡ w.outcome
  pub conns : v.conns ≡ w.conns
  pub nats : v.nats ≡ w.nats

-- all three end alike, or groups stop the packet with the fewest rules where they don't with the most
pub data AreNestedWalks (more between fewer : Walk) : Type 0 where
  same : IsSameWalk between more → IsSameWalk fewer more → AreNestedWalks more between fewer
  refused : (s : Stop) (p : Place) → door_of s ≡ Some p → (more.outcome ≡ outcomes.Stopped s → ⊥) → fewer.outcome ≡ outcomes.Stopped s
      → AreNestedWalks more between fewer

ended-same : (f g : List Hop) (o : Outcome) (conns : List Connection) (nats : List Translation)
    → IsSameWalk (ended f o conns nats) (ended g o conns nats)
ended-same f g o conns nats = record { outcome = refl; conns = refl; nats = refl }

ended-nested : (f g h : List Hop) (o : Outcome) (conns : List Connection) (nats : List Translation)
    → AreNestedWalks (ended f o conns nats) (ended g o conns nats) (ended h o conns nats)
ended-nested f g h o conns nats = same (ended-same g f o conns nats) (ended-same h f o conns nats)

nested-if : (a b c : Bool) → b ≡ a → c ≡ a → (one two three more between fewer : Walk) → AreNestedWalks one two three
    → AreNestedWalks more between fewer
    → AreNestedWalks (cond a one more) (cond b two between) (cond c three fewer)
nested-if true true true e f one two three more between fewer first second = first
nested-if false false false e f one two three more between fewer first second = second
nested-if true false c e f one two three more between fewer first second = absurd (cc)
nested-if true true false e f one two three more between fewer first second = absurd (cc)
nested-if false true c e f one two three more between fewer first second = absurd (cc)
nested-if false false true e f one two three more between fewer first second = absurd (cc)

pub walk-moved : (d : Description) (appliances : Appliances) (label : Label) (n : ℕ) (hops : List Hop) (h : Header) (s t : Step)
    → IsSameStep s t
    → walk_on d appliances label n hops h s.next s.conns s.nats ≡ walk_on d appliances label n hops h t.next t.conns t.nats
walk-moved d appliances label n hops h s t alike =
    ap (λ (x : Next). walk_on d appliances label n hops h x s.conns s.nats) alike.next
    ∙ ap₂ (λ (c : List Connection) (r : List Translation). walk_on d appliances label n hops h t.next c r) alike.conns alike.nats

-- from what a step leaves on
after-step : (c d e : Description) (appliances : Appliances) (label : Label) (n : ℕ) (p : Place) (f g h : List Hop) (k : Header)
    (more between fewer : Step)
    → AreNestedSteps p more between fewer → is_visited f p ≡ true
    → AreNestedWalks
    (walk_on c appliances label n f k more.next more.conns more.nats)
    (walk_on d appliances label n g k more.next more.conns more.nats)
    (walk_on e appliances label n h k more.next more.conns more.nats)
    → AreNestedWalks
    (walk_on c appliances label n f k more.next more.conns more.nats)
    (walk_on d appliances label n g k between.next between.conns between.nats)
    (walk_on e appliances label n h k fewer.next fewer.conns fewer.nats)
after-step c d e appliances label n p f g h k more between fewer (same_step first second) there rest =
    let one = walk_on c appliances label n f k more.next more.conns more.nats in
    subst (λ (w : Walk). AreNestedWalks one (walk_on d appliances label n g k between.next between.conns between.nats) w)
    (sym (walk-moved e appliances label n h k fewer more second))
    (subst (λ (w : Walk). AreNestedWalks one w (walk_on e appliances label n h k more.next more.conns more.nats))
    (sym (walk-moved d appliances label n g k between more first)) rest)
after-step c d e appliances label n p f g h k more between fewer (refused_step s door goes stopped) there rest =
    refused s p door (passed-for_good c appliances label s p door n f k more.next more.conns more.nats there goes)
    (ap (λ (x : Next). (walk_on e appliances label n h k x fewer.conns fewer.nats).outcome) stopped)

-- ---- in three descriptions

module _ (d : Description) (more between fewer : List Group) (first : Alike FewerRules more between)
    (second : Alike FewerRules between fewer) (appliances : Appliances) where
  abbrev most : Description
  most = with_filters d d.acls more

  abbrev middle : Description
  middle = with_filters d d.acls between

  abbrev fewest : Description
  fewest = with_filters d d.acls fewer

  nested-on : (label : Label) (n : ℕ) (f g h : List Hop) → SameSeen g f → SameSeen h f
      → (k : Header) (x : Next) (conns : List Connection) (nats : List Translation)
      → AreNestedWalks (walk_on most appliances label n f k x conns nats) (walk_on middle appliances label n g k x conns nats)
      (walk_on fewest appliances label n h k x conns nats)
  nested-on label n f g h seen told k (arrive end) conns nats = ended-nested f g h (outcomes.Arrived end k) conns nats
  nested-on label n f g h seen told k (stop s) conns nats = ended-nested f g h (outcomes.Stopped s) conns nats
  nested-on label zero f g h seen told k (go p j) conns nats =
      let back : Bool → Outcome = λ b. outcomes.Stopped (cond b (stops.Loop p) (stops.TooFar p)) in
      same (record { outcome = ap back (seen p); conns = refl; nats = refl })
      (record { outcome = ap back (told p); conns = refl; nats = refl })
  nested-on label (suc n) f g h seen told k (go p j) conns nats =
      let m = moment p j conns nats in
      let s = step_of most appliances label m in
      let a = hop_at most appliances label m in
      let b = hop_at middle appliances label m in
      let c = hop_at fewest appliances label m in
      nested-if (is_visited f p) (is_visited g p) (is_visited h p) (seen p) (told p) _ _ _ _ _ _
      (ended-nested f g h (outcomes.Stopped (stops.Loop p)) conns nats)
      (after-step most middle fewest appliances label n p (f ++ a ∷ []) (g ++ b ∷ []) (h ++ c ∷ []) j s (step_of middle appliances label m)
      (step_of fewest appliances label m)
      (nested_steps d more between fewer first second appliances label m) (is_visited-last f a)
      (nested-on label n (f ++ a ∷ []) (g ++ b ∷ []) (h ++ c ∷ []) (seen-push g f b a seen refl) (seen-push h f c a told refl)
      j s.next s.conns s.nats))

  pub nested_walks : (label : Label) (m : Moment)
      → AreNestedWalks (walk_of most appliances label m) (walk_of middle appliances label m) (walk_of fewest appliances label m)
  nested_walks label m =
      let s = step_of most appliances label m in
      let a = hop_at most appliances label m in
      let b = hop_at middle appliances label m in
      let c = hop_at fewest appliances label m in
      after-step most middle fewest appliances label 63 m.place (a ∷ []) (b ∷ []) (c ∷ []) m.header s (step_of middle appliances label m)
      (step_of fewest appliances label m)
      (nested_steps d more between fewer first second appliances label m) (is_visited-last [] a)
      (nested-on label 63 (a ∷ []) (b ∷ []) (c ∷ []) (λ p. refl) (λ p. refl) m.header s.next s.conns s.nats)
