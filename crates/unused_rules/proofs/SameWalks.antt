-- Walks and verdicts in two descriptions in which the packets of a walk take the same steps.
use Rattle.std.proofs.Common.{◌≡◌, ◌∙◌, ◌++◌, ◌∷◌, [], Bool, List, None, Option, Some, ap, ap₂, cond, false, refl, subst, suc, sym, true, zero, ℕ}
use Rattle.vpc_base.specs.Header.{reply_of}
use Rattle.vpc_base.specs.declared.headers.Label.TheVariants as labels
use Rattle.vpc_laws.proofs.Walking.{hop_at, moment}
use Rattle.vpc_laws.specs.Types.{Description, End, Header, Hop, Label, Outcome, Place, Verdict}
use Rattle.vpc_model.specs.Terms.{Appliances, Connection, Moment, Next, Step, Translation, Walk, alone, arrive, go, is_visited, same_end, start_of, step_of, stop, verdict_of, verdict_of_arrival, verdict_of_reply, verdict_of_request, walk_of, walk_on}
use Rattle.vpc_model.specs.declared.outcomes.Outcome.TheVariants as outcomes
use Rattle.vpc_model.specs.declared.outcomes.Phase.TheVariants as phases
use Rattle.vpc_model.specs.declared.outcomes.Verdict.TheVariants as verdicts
use Rattle.vpc_model.specs.declared.stops.Stop.TheVariants as stops
use Rattle.unused_rules.proofs.NestedSteps.{IsSameStep}
use Rattle.unused_rules.proofs.NestedWalks.{IsSameWalk, SameSeen, seen-push, walk-moved}

-- ---- steps

-- what holds of the place and of the header that come next, if they do
abbrev pub IfGoesTo : (Place → Type 0) → (Header → Type 0) → Next → Type 0
IfGoesTo At Of (go p k) = At p × Of k
IfGoesTo At Of (arrive end) = Unit {0}
IfGoesTo At Of (stop s) = Unit {0}

-- of the header that arrives, if one does
abbrev pub IfArrived : (Header → Type 0) → Outcome → Type 0
IfArrived Of (outcomes.Arrived end k) = Of k
IfArrived Of (outcomes.Stopped s) = Unit {0}

-- at such places, packets with such headers take the same step in both, and go on to such places with such headers
pub record TakeSameSteps (d e : Description) (appliances : Appliances) (label : Label) (At : Place → Type 0) (Of : Header → Type 0) : Type 0 where
  pub same : (m : Moment) → At m.place → Of m.header → IsSameStep (step_of e appliances label m) (step_of d appliances label m)
  pub leads : (m : Moment) → At m.place → Of m.header → let s = step_of d appliances label m in IfGoesTo At Of s.next

-- ---- walks

-- both end alike, and what arrives is such a header
pub record AreSame (Of : Header → Type 0) (v w : Walk) : Type 0 where
  pub same : IsSameWalk v w
  pub arrived : IfArrived Of w.outcome

same-if : (Of : Header → Type 0) (a b : Bool) → b ≡ a → (one two more other : Walk) → AreSame Of two one → AreSame Of other more
    → AreSame Of (cond b two other) (cond a one more)
same-if Of true true e one two more other first second = first
same-if Of false false e one two more other first second = second
same-if Of true false e one two more other first second = absurd (cc)
same-if Of false true e one two more other first second = absurd (cc)

module _ (d e : Description) (appliances : Appliances) (label : Label) (At : Place → Type 0) (Of : Header → Type 0)
    (take : TakeSameSteps d e appliances label At Of) where
  -- from what a step leaves on
  after-step : (n : ℕ) (f g : List Hop) (k : Header) (s t : Step) → IsSameStep t s
      → AreSame Of (walk_on e appliances label n g k s.next s.conns s.nats) (walk_on d appliances label n f k s.next s.conns s.nats)
      → AreSame Of (walk_on e appliances label n g k t.next t.conns t.nats) (walk_on d appliances label n f k s.next s.conns s.nats)
  after-step n f g k s t same rest =
      subst (λ (w : Walk). AreSame Of w (walk_on d appliances label n f k s.next s.conns s.nats)) (sym (walk-moved e appliances label n g k t s same)) rest

  same-on : (n : ℕ) (f g : List Hop) → SameSeen g f → (h : Header) → Of h → (x : Next) → IfGoesTo At Of x
      → (conns : List Connection) (nats : List Translation)
      → AreSame Of (walk_on e appliances label n g h x conns nats) (walk_on d appliances label n f h x conns nats)
  same-on n f g seen h has (arrive end) good conns nats = record { same = record { outcome = refl; conns = refl; nats = refl }; arrived = has }
  same-on n f g seen h has (stop s) good conns nats = record { same = record { outcome = refl; conns = refl; nats = refl }; arrived = tt }
  same-on zero f g seen h has (go p k) good conns nats =
      let back : Bool → Outcome = λ b. outcomes.Stopped (cond b (stops.Loop p) (stops.TooFar p)) in
      record { same = record { outcome = ap back (seen p); conns = refl; nats = refl }; arrived = tt }
  same-on (suc n) f g seen h has (go p k) good conns nats =
      let m = moment p k conns nats in
      let s = step_of d appliances label m in
      let a = hop_at d appliances label m in
      let b = hop_at e appliances label m in
      same-if Of (is_visited f p) (is_visited g p) (seen p) _ _ _ _
      (record { same = record { outcome = refl; conns = refl; nats = refl }; arrived = tt })
      (after-step n (f ++ a ∷ []) (g ++ b ∷ []) k s (step_of e appliances label m) (take.same m good.0 good.1)
      (same-on n (f ++ a ∷ []) (g ++ b ∷ []) (seen-push g f b a seen refl) k good.1 s.next (take.leads m good.0 good.1) s.conns s.nats))

  pub same_walks : (m : Moment) → At m.place → Of m.header → AreSame Of (walk_of e appliances label m) (walk_of d appliances label m)
  same_walks m at has =
      let s = step_of d appliances label m in
      let a = hop_at d appliances label m in
      let b = hop_at e appliances label m in
      after-step 63 (a ∷ []) (b ∷ []) m.header s (step_of e appliances label m) (take.same m at has)
      (same-on 63 (a ∷ []) (b ∷ []) (λ p. refl) m.header has s.next (take.leads m at has) s.conns s.nats)

-- ---- verdicts

-- where the request and the reply of what arrives are such packets
module _ (d e : Description) (appliances : Appliances) (start goal : End) (h : Header) (At : Place → Type 0) (Of Back : Header → Type 0)
    (asked : TakeSameSteps d e appliances labels.Opening At Of) (answered : TakeSameSteps d e appliances labels.Answer At Back)
    (from : At (start_of start)) (there : At (start_of goal)) (own : Of h)
    (turned : (k r : Header) → Of k → reply_of k ≡ Some r → Back r) where
  abbrev replied : Description → Header → List Connection → List Translation → Verdict
  replied x r conns nats =
      let w = walk_of x appliances labels.Answer (record { place = start_of goal; header = r; conns = conns; nats = nats }) in
      verdict_of_reply (alone start) h w.outcome

  same-arrivals : (one two : Walk) → IsSameWalk two one → (r : Option Header) → ((k : Header) → r ≡ Some k → Back k)
      → verdict_of_arrival e appliances (alone start) goal h two r ≡ verdict_of_arrival d appliances (alone start) goal h one r
  same-arrivals one two same None back = refl
  same-arrivals one two same (Some r) back =
      let m : Moment = record { place = start_of goal; header = r; conns = one.conns; nats = one.nats } in
      let walks = same_walks d e appliances labels.Answer At Back answered m there (back r refl) in
      ap₂ (replied e r) same.conns same.nats ∙ ap (λ (o : Outcome). verdict_of_reply (alone start) h o) walks.same.outcome

  same-ends : (one two : Walk) → IsSameWalk two one → (o : Outcome) → IfArrived Of o
      → verdict_of_request e appliances (alone start) goal h two o ≡ verdict_of_request d appliances (alone start) goal h one o
  same-ends one two same (outcomes.Stopped s) has = refl
  same-ends one two same (outcomes.Arrived end k) has =
      ap (λ (v : Verdict). cond (same_end end goal) v (verdicts.Stopped phases.Request (stops.WrongPlace end)))
      (same-arrivals one two same (reply_of k) (λ r is. turned k r has is))

  pub same_verdicts : verdict_of e appliances start goal h ≡ verdict_of d appliances start goal h
  same_verdicts =
      let m : Moment = record { place = start_of start; header = h; conns = []; nats = [] } in
      let walks = same_walks d e appliances labels.Opening At Of asked m from own in
      let one = walk_of d appliances labels.Opening m in
      let two = walk_of e appliances labels.Opening m in
      ap (λ (o : Outcome). verdict_of_request e appliances (alone start) goal h two o) walks.same.outcome
      ∙ same-ends one two walks.same one.outcome walks.arrived
