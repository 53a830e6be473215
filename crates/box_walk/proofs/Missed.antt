-- A walk that misses the goal.
use Rattle.std.proofs.Common.{◌≡◌, ◌&&◌, ◌++◌, ◌∷◌, [], Bool, List, None, Option, Some, false, is_none, not, refl, suc, true, zero, ℕ}
use Rattle.std.proofs.lemmas.Bool.{and_parts, cond_both, false≢true, not-true}
use Rattle.vpc_base.specs.declared.headers.Dir.TheVariants as dirs
use Rattle.vpc_base.specs.declared.headers.Label.TheVariants as labels
use Rattle.box_steps.specs.Terms.{is_elsewhere, misses}
use Rattle.vpc_laws.proofs.Lemmas.{hop_at, taken_by}
use Rattle.vpc_laws.specs.Types.{Box5, By, Description, End, EniNo, Header, Hop, Place}
use Rattle.vpc_model.specs.Terms.{Appliances, Connection, Moment, Next, Step, Translation, Walk, arrive, boxes_at, ended, go, has_address, in_passing, interface_at, is_visited, passing_of, same_end, step_into, step_of, stop, walk_on}
use Rattle.vpc_model.specs.declared.outcomes.Outcome.TheVariants as outcomes
use Rattle.vpc_model.specs.declared.places.End.TheVariants as ends
use Rattle.vpc_model.specs.declared.places.Place.TheVariants as places
use Rattle.vpc_model.specs.declared.stops.Stop.TheVariants as stops
use Rattle.box_walk.specs.Terms.{MissesNeverArrive, arrives_at}

-- what comes next ends the walk, but not at the goal
abbrev ends_away : End → Next → Bool
ends_away goal (stop s) = true
ends_away goal (arrive end) = not (same_end end goal)
ends_away goal (go p h) = false

ended-away : (d : Description) (a : Appliances) (goal : End) (n : ℕ) (hops : List Hop) (h : Header) (next : Next) (conns : List Connection) (nats : List Translation) → ends_away goal next ≡ true
    → let w = walk_on d a labels.Opening n hops h next conns nats in arrives_at goal w.outcome ≡ false
ended-away d a goal n hops h (stop s) conns nats e = refl
ended-away d a goal n hops h (arrive end) conns nats e = not-true (same_end end goal) e
ended-away d a goal n hops h (go p k) conns nats e = absurd (false≢true e)

-- at an interface that is neither the goal nor an appliance's
taken_by-away : (d : Description) (goal : End) (i : EniNo) (h : Header) (o : Option (List Box5)) → is_none o ≡ true → not (same_end (ends.Interface i) goal) ≡ true → ends_away goal (taken_by d i h o) ≡ true
taken_by-away d goal i h None none e = e
taken_by-away d goal i h (Some boxes) none e = absurd (false≢true none)

in_passing-away : (d : Description) (a : Appliances) (goal : End) (i : EniNo) (m : Moment) (by : Option By) (conns : List Connection) → is_elsewhere a goal i ≡ true
    → let s = in_passing d a i m (record { by = by; conns = conns }) in ends_away goal s.next ≡ true
in_passing-away d a goal i m None conns e = refl
in_passing-away d a goal i m (Some by) conns e =
    let parts = and_parts (not (same_end (ends.Interface i) goal)) (is_none (boxes_at a i)) e in
    taken_by-away d goal i m.header (boxes_at a i) parts.1 parts.0

step_into-away : (d : Description) (a : Appliances) (goal : End) (i : EniNo) (m : Moment) → is_elsewhere a goal i ≡ true
    → let s = step_into d a labels.Opening i m in ends_away goal s.next ≡ true
step_into-away d a goal i m e =
    let row = interface_at d i in
    let passing = passing_of d labels.Opening i dirs.Inward m.header m.conns in
    cond_both row.idle _ _ (λ (s : Step). ends_away goal s.next ≡ true) (λ _. refl)
    (λ _. cond_both (row.checked && not (has_address row m.header.dst)) _ _ (λ (s : Step). ends_away goal s.next ≡ true) (λ _. refl)
    (λ _. in_passing-away d a goal i m passing.by passing.conns e))

-- a step from a place that leads away
away-next : (d : Description) (a : Appliances) (goal : End) (p : Place) (k : Header) (conns : List Connection) (nats : List Translation) → misses a goal (go p k) ≡ true
    → let s = step_of d a labels.Opening (record { place = p; header = k; conns = conns; nats = nats }) in ends_away goal s.next ≡ true
away-next d a goal (places.Into i) k conns nats e = step_into-away d a goal i (record { place = places.Into i; header = k; conns = conns; nats = nats }) e
away-next d a goal (places.NatIn n) k conns nats e = refl
away-next d a goal (places.OutOf i) k conns nats e = absurd (false≢true e)
away-next d a goal (places.Router s came) k conns nats e = absurd (false≢true e)
away-next d a goal (places.Enter v by) k conns nats e = absurd (false≢true e)
away-next d a goal (places.IgwOut v) k conns nats e = absurd (false≢true e)
away-next d a goal places.Internet k conns nats e = absurd (false≢true e)
away-next d a goal (places.IgwIn v) k conns nats e = absurd (false≢true e)
away-next d a goal (places.NatOut n) k conns nats e = absurd (false≢true e)
away-next d a goal (places.Peer x v) k conns nats e = absurd (false≢true e)
away-next d a goal (places.Tgw t s) k conns nats e = absurd (false≢true e)
away-next d a goal (places.TgwLeave t s) k conns nats e = absurd (false≢true e)
away-next d a goal (places.FarOut f) k conns nats e = absurd (false≢true e)
away-next d a goal (places.FarIn f) k conns nats e = absurd (false≢true e)
away-next d a goal (places.Inspect f) k conns nats e = absurd (false≢true e)

walk_on-missed : (d : Description) (a : Appliances) (goal : End) (n : ℕ) (hops : List Hop) (h : Header) (next : Next) (conns : List Connection) (nats : List Translation) → misses a goal next ≡ true
    → let w = walk_on d a labels.Opening n hops h next conns nats in arrives_at goal w.outcome ≡ false
walk_on-missed d a goal n hops h (arrive end) conns nats e = absurd (false≢true e)
walk_on-missed d a goal n hops h (stop s) conns nats e = refl
walk_on-missed d a goal zero hops h (go p k) conns nats e = refl
walk_on-missed d a goal (suc n) hops h (go p k) conns nats e =
    let m : Moment = record { place = p; header = k; conns = conns; nats = nats } in
    let s = step_of d a labels.Opening m in
    cond_both (is_visited hops p) (ended hops (outcomes.Stopped (stops.Loop p)) conns nats) (walk_on d a labels.Opening n (hops ++ hop_at d a labels.Opening m ∷ []) k s.next s.conns s.nats)
    (λ (w : Walk). arrives_at goal w.outcome ≡ false) (λ _. refl)
    (λ _. ended-away d a goal n (hops ++ hop_at d a labels.Opening m ∷ []) k s.next s.conns s.nats (away-next d a goal p k conns nats e))

pub misses_never_arrive : MissesNeverArrive
misses_never_arrive d a goal zero hops m e = refl
misses_never_arrive d a goal (suc n) hops m e =
    let s = step_of d a labels.Opening m in
    cond_both (is_visited hops m.place) (ended hops (outcomes.Stopped (stops.Loop m.place)) m.conns m.nats) (walk_on d a labels.Opening n (hops ++ hop_at d a labels.Opening m ∷ []) m.header s.next s.conns s.nats)
    (λ (w : Walk). arrives_at goal w.outcome ≡ false) (λ _. refl)
    (λ _. walk_on-missed d a goal n (hops ++ hop_at d a labels.Opening m ∷ []) m.header s.next s.conns s.nats e)
