-- The walks and verdicts of a network, and of the same one in which no mode of Block Public Access is told.
use Rattle.std.proofs.Common.{Bool, List, None, Option, Some, [], ap, cond, false, inl, inr, subst, suc, true, zero, refl, ℕ, ◌++◌, ◌∙◌, ◌∷◌, ◌≡◌, ◌⊎◌}
use Rattle.vpc_base.specs.Header.{reply_of}
use Rattle.vpc_base.specs.declared.headers.Label.TheVariants as labels
use Rattle.vpc_laws.proofs.Opened.{step_at-off, step_at-or}
use Rattle.vpc_laws.specs.Access.{IsBlockedNext, IsBlockedVerdict, IsOff, opened}
use Rattle.vpc_laws.specs.Types.{Description, End, Header, Hop, Label, Outcome, Place, SubnetNo, Verdict}
use Rattle.vpc_model.specs.Terms.{Appliances, Connection, Moment, Next, Step, Translation, Walk, alone, arrive, ended, go, is_visited, same_end, start_of, step_of, stop, verdict_of, verdict_of_arrival, verdict_of_reply, verdict_of_request, walk_of, walk_on}
use Rattle.vpc_model.specs.declared.outcomes.Outcome.TheVariants as outcomes
use Rattle.vpc_model.specs.declared.outcomes.Phase.TheVariants as phases
use Rattle.vpc_model.specs.declared.outcomes.Verdict.TheVariants as verdicts
use Rattle.vpc_model.specs.declared.stops.Stop.TheVariants as stops

abbrev moment : Place → Header → List Connection → List Translation → Moment
moment p h conns nats = record { place = p; header = h; conns = conns; nats = nats }

module _ (d : Description) (appliances : Appliances) (label : Label) where
  abbrev e : Description
  e = opened d

  -- from a step on
  abbrev on : Description → ℕ → List Hop → Place → Header → Step → Walk
  on x n hops p k s = walk_on x appliances label n (hops ++ record { place = p; header = k; by = s.by } ∷ []) k s.next s.conns s.nats

  -- ---- where all modes are off

  walk_on-off : IsOff d → (n : ℕ) (hops : List Hop) (h : Header) (x : Next) (conns : List Connection) (nats : List Translation)
      → walk_on d appliances label n hops h x conns nats ≡ walk_on e appliances label n hops h x conns nats
  walk_on-off off n hops h (arrive end) conns nats = refl
  walk_on-off off n hops h (stop s) conns nats = refl
  walk_on-off off zero hops h (go p k) conns nats = refl
  walk_on-off off (suc n) hops h (go p k) conns nats =
      let m = moment p k conns nats in
      let t = step_of e appliances label m in
      ap (λ (w : Walk). cond (is_visited hops p) (ended hops (outcomes.Stopped (stops.Loop p)) conns nats) w)
      (ap (on d n hops p k) (step_at-off d off appliances label p m)
      ∙ walk_on-off off n (hops ++ record { place = p; header = k; by = t.by } ∷ []) k t.next t.conns t.nats)

  pub walk_of-off : IsOff d → (m : Moment) → walk_of d appliances label m ≡ walk_of e appliances label m
  walk_of-off off m =
      let t = step_of e appliances label m in
      ap (on d 63 [] m.place m.header) (step_at-off d off appliances label m.place m)
      ∙ walk_on-off off 63 (record { place = m.place; header = m.header; by = t.by } ∷ []) m.header t.next t.conns t.nats

  -- ---- where they aren't

  -- a mode stops the walk, or it is the other
  abbrev pub WalkOr : Walk → Walk → Type 0
  WalkOr v w = ((s : SubnetNo) × (v.outcome ≡ outcomes.Stopped (stops.BlockPublicAccess s))) ⊎ (v ≡ w)

  by-cond : (b : Bool) (x v w : Walk) → WalkOr v w → WalkOr (cond b x v) (cond b x w)
  by-cond true x v w or = inr refl
  by-cond false x v w or = or

  or-ends : (v w x : Walk) → WalkOr v w → w ≡ x → WalkOr v x
  or-ends v w x (inl b) same = inl b
  or-ends v w x (inr is) same = inr (is ∙ same)

  or-begins : (u v w : Walk) → u ≡ v → WalkOr v w → WalkOr u w
  or-begins u v w same (inl b) = inl (b.0, ap (λ (x : Walk). x.outcome) same ∙ b.1)
  or-begins u v w same (inr is) = inr (same ∙ is)

  blocked-on : (n : ℕ) (hops : List Hop) (k : Header) (s : Step) → IsBlockedNext s.next
      → (t : SubnetNo) × ((walk_on d appliances label n hops k s.next s.conns s.nats).outcome ≡ outcomes.Stopped (stops.BlockPublicAccess t))
  blocked-on n hops k s b =
      (b.subnet, ap (λ (x : Next). (walk_on d appliances label n hops k x s.conns s.nats).outcome) b.stops_there)

  walk_on-or : (n : ℕ) (hops : List Hop) (h : Header) (x : Next) (conns : List Connection) (nats : List Translation)
      → WalkOr (walk_on d appliances label n hops h x conns nats) (walk_on e appliances label n hops h x conns nats)
  walk_on-or n hops h (arrive end) conns nats = inr refl
  walk_on-or n hops h (stop s) conns nats = inr refl
  walk_on-or zero hops h (go p k) conns nats = inr refl
  walk_on-or (suc n) hops h (go p k) conns nats =
      let m = moment p k conns nats in
      let s = step_of d appliances label m in
      let t = step_of e appliances label m in
      by-cond (is_visited hops p) (ended hops (outcomes.Stopped (stops.Loop p)) conns nats) (on d n hops p k s) (on e n hops p k t)
      (elim (step_at-or d appliances label p m) [
        | inl b ↦ inl (blocked-on n (hops ++ record { place = p; header = k; by = s.by } ∷ []) k s b)
        | inr same ↦
            or-begins (on d n hops p k s) (on d n hops p k t) (on e n hops p k t) (ap (on d n hops p k) same)
            (walk_on-or n (hops ++ record { place = p; header = k; by = t.by } ∷ []) k t.next t.conns t.nats)
      ])

  pub walk_of-or : (m : Moment) → WalkOr (walk_of d appliances label m) (walk_of e appliances label m)
  walk_of-or m =
      let s = step_of d appliances label m in
      let t = step_of e appliances label m in
      elim (step_at-or d appliances label m.place m) [
        | inl b ↦ inl (blocked-on 63 (record { place = m.place; header = m.header; by = s.by } ∷ []) m.header s b)
        | inr same ↦
            or-begins (on d 63 [] m.place m.header s) (on d 63 [] m.place m.header t) (on e 63 [] m.place m.header t) (ap (on d 63 [] m.place m.header) same)
            (walk_on-or 63 (record { place = m.place; header = m.header; by = t.by } ∷ []) m.header t.next t.conns t.nats)
      ]

-- ---- verdicts

module _ (d : Description) (appliances : Appliances) (start goal : End) (h : Header) where
  abbrev pub VerdictOr : Verdict → Verdict → Type 0
  VerdictOr v w = IsBlockedVerdict v ⊎ (v ≡ w)

  by-end : (b : Bool) (x v w : Verdict) → VerdictOr v w → VerdictOr (cond b v x) (cond b w x)
  by-end true x v w or = or
  by-end false x v w or = inr refl

  arrival-or : (request : Walk) (r : Option Header)
      → VerdictOr (verdict_of_arrival d appliances (alone start) goal h request r) (verdict_of_arrival (opened d) appliances (alone start) goal h request r)
  arrival-or request None = inr refl
  arrival-or request (Some r) =
      elim (walk_of-or d appliances labels.Answer (moment (start_of goal) r request.conns request.nats)) [
        | inl b ↦ inl (record { phase = phases.Reply; subnet = b.0; stops_there = ap (verdict_of_reply (alone start) h) b.1 })
        | inr same ↦ inr (ap (λ (w : Walk). verdict_of_reply (alone start) h w.outcome) same)
      ]

  request-or : (request : Walk) (o : Outcome)
      → VerdictOr (verdict_of_request d appliances (alone start) goal h request o) (verdict_of_request (opened d) appliances (alone start) goal h request o)
  request-or request (outcomes.Stopped s) = inr refl
  request-or request (outcomes.Arrived end k) =
      by-end (same_end end goal) (verdicts.Stopped phases.Request (stops.WrongPlace end)) _ _ (arrival-or request (reply_of k))

  pub modes_stop_alone : VerdictOr (verdict_of d appliances start goal h) (verdict_of (opened d) appliances start goal h)
  modes_stop_alone =
      let m = moment (start_of start) h [] [] in
      let w = walk_of d appliances labels.Opening m in
      elim (walk_of-or d appliances labels.Opening m) [
        | inl b ↦ inl (record { phase = phases.Request; subnet = b.0; stops_there = ap (verdict_of_request d appliances (alone start) goal h w) b.1 })
        | inr same ↦
            subst (λ (x : Walk). VerdictOr (verdict_of_request d appliances (alone start) goal h w w.outcome) (verdict_of_request (opened d) appliances (alone start) goal h x x.outcome)) same
            (request-or w w.outcome)
      ]
