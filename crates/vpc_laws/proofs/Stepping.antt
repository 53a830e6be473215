-- A walk goes by its steps, and ends as its last step says.
use Rattle.std.proofs.Common.{◌≡◌, ℕ, ◌+◌, ◌⊎◌, ◌↔◌, List, [], ◌∷◌, ◌++◌, ap, append_assoc, arith, false, inl, inr, length, length-append, map, refl, suc, subst, sym, true, zero, ◌∙◌}
use Rattle.std.proofs.lemmas.Bool.{both_ways, cond_both}
use Rattle.vpc_laws.specs.Types.{Description, End, Header, Hop, Label, Outcome, Place, Stop}
use Rattle.vpc_model.specs.declared.outcomes.Outcome.TheVariants.{Arrived, Stopped}
use Rattle.vpc_model.specs.declared.stops.Stop.TheVariants.{Loop, TooFar}
use Rattle.vpc_model.specs.Appliances.{Appliances}
use Rattle.vpc_model.specs.Step.{step_of}
use Rattle.vpc_model.specs.Step.Words.{Moment, Next, arrive, go, stop}
use Rattle.vpc_model.specs.Walk.{Walk, ended, is_visited, turned_back, walk_of, walk_on}
use Rattle.vpc_laws.specs.Step.{StopsItself, is_of_step}
use Rattle.vpc_laws.specs.Walk.{EndsSo, Follows, IsNext, IsWalk, hop_of, last_moment}
use Rattle.vpc_laws.proofs.Flow.{steps_stop_themselves}
use Rattle.vpc_laws.proofs.Walking.{moment}

-- the rest of a walk that has come to a moment by some hops
record IsRest (d : Description) (appliances : Appliances) (label : Label) (before : List Hop) (m : Moment) (w : Walk) : Type 0 where
  pub rest : List Moment
  pub follows : Follows d appliances label m rest
  pub hops : w.hops ≡ before ++ map (hop_of d appliances label) (m ∷ rest)
  pub ends : let last = last_moment m rest in let s = step_of d appliances label last in EndsSo w.hops last.header s.next w.outcome
  pub conns : let s = step_of d appliances label (last_moment m rest) in w.conns ≡ s.conns
  pub nats : let s = step_of d appliances label (last_moment m rest) in w.nats ≡ s.nats

-- a walk that ends at a moment
ends-here : (d : Description) (appliances : Appliances) (label : Label) (before : List Hop) (m : Moment) (outcome : Outcome)
    → (let s = step_of d appliances label m in EndsSo (before ++ hop_of d appliances label m ∷ []) m.header s.next outcome)
    → let s = step_of d appliances label m in IsRest d appliances label before m (ended (before ++ hop_of d appliances label m ∷ []) outcome s.conns s.nats)
ends-here d appliances label before m outcome ends = record { rest = []; follows = tt; hops = refl; ends = ends; conns = refl; nats = refl }

-- a walk that goes on to another moment
goes-on : (d : Description) (appliances : Appliances) (label : Label) (before : List Hop) (m n : Moment) (w : Walk) → IsNext d appliances label m n
    → IsRest d appliances label (before ++ hop_of d appliances label m ∷ []) n w → IsRest d appliances label before m w
goes-on d appliances label before m n w next is = record {
  rest = n ∷ is.rest;
  follows = (next, is.follows);
  hops = is.hops ∙ append_assoc before (hop_of d appliances label m ∷ []) (map (hop_of d appliances label) (n ∷ is.rest));
  ends = is.ends;
  conns = is.conns;
  nats = is.nats;
}

long : (before : List Hop) (h : Hop) → length before + 1 ≡ 64 → length (before ++ h ∷ []) ≡ 64
long before h e = length-append before (h ∷ []) ∙ e

walk_on-is : (d : Description) (appliances : Appliances) (label : Label) (n : ℕ) (before : List Hop) (m : Moment) (x : Next) → length before + 1 + n ≡ 64
    → (let s = step_of d appliances label m in s.next ≡ x)
    → let s = step_of d appliances label m in
    IsRest d appliances label before m (walk_on d appliances label n (before ++ hop_of d appliances label m ∷ []) m.header x s.conns s.nats)
walk_on-is d appliances label n before m (arrive end) fits e =
    ends-here d appliances label before m (Arrived end m.header) (subst (λ (y : Next). EndsSo (before ++ hop_of d appliances label m ∷ []) m.header y (Arrived end m.header)) (sym e) refl)
walk_on-is d appliances label n before m (stop r) fits e =
    ends-here d appliances label before m (Stopped r) (subst (λ (y : Next). EndsSo (before ++ hop_of d appliances label m ∷ []) m.header y (Stopped r)) (sym e) refl)
walk_on-is d appliances label zero before m (go p k) fits e =
    let hops = before ++ hop_of d appliances label m ∷ [] in
    let s = step_of d appliances label m in
    let outcome = Stopped (turned_back hops p) in
    ends-here d appliances label before m outcome
    (subst (λ (y : Next). EndsSo hops m.header y outcome) (sym e)
    (cond_both (is_visited hops p) (Loop p) (TooFar p)
    (λ (r : Stop). ((is_visited hops p ≡ true) × (Stopped r ≡ Stopped (Loop p))) ⊎ ((is_visited hops p ≡ false) × ((length hops ≡ 64) × (Stopped r ≡ Stopped (TooFar p)))))
    (λ there. inl (there, refl)) (λ new. inr (new, (long before (hop_of d appliances label m) (omega arith), refl)))))
walk_on-is d appliances label (suc n) before m (go p k) fits e =
    let hops = before ++ hop_of d appliances label m ∷ [] in
    let s = step_of d appliances label m in
    let next = moment p k s.conns s.nats in
    let t = step_of d appliances label next in
    let longer = length-append before (hop_of d appliances label m ∷ []) in
    cond_both (is_visited hops p) (ended hops (Stopped (Loop p)) s.conns s.nats) (walk_on d appliances label n (hops ++ hop_of d appliances label next ∷ []) k t.next t.conns t.nats)
    (λ (w : Walk). IsRest d appliances label before m w)
    (λ there. ends-here d appliances label before m (Stopped (Loop p)) (subst (λ (y : Next). EndsSo hops m.header y (Stopped (Loop p))) (sym e) (inl (there, refl))))
    (λ _. goes-on d appliances label before m next _ (record { goes = e; conns = refl; nats = refl }) (walk_on-is d appliances label n hops next t.next (omega arith) refl))

pub walks_are_of_steps : (d : Description) (appliances : Appliances) (label : Label) (m : Moment) → IsWalk d appliances label m (walk_of d appliances label m)
walks_are_of_steps d appliances label m =
    let s = step_of d appliances label m in
    let is = walk_on-is d appliances label 63 [] m s.next refl refl in
    record { rest = is.rest; follows = is.follows; hops = is.hops; ends = is.ends; conns = is.conns; nats = is.nats }

-- ---- loops and walks that are too far

Stopped-same : (r s : Stop) → Stopped r ≡ Stopped s → r ≡ s
Stopped-same r s e = cc

Stopped≢Arrived : (end : End) (h : Header) (s : Stop) → Arrived end h ≡ Stopped s → ⊥
Stopped≢Arrived end h s e = cc

Loop-same : (p q : Place) → Loop p ≡ Loop q → p ≡ q
Loop-same p q e = cc

TooFar-same : (p q : Place) → TooFar p ≡ TooFar q → p ≡ q
TooFar-same p q e = cc

Loop≢TooFar : (p q : Place) → Loop p ≡ TooFar q → ⊥
Loop≢TooFar p q e = cc

loop-back : (hops : List Hop) (h : Header) (x : Next) (outcome : Outcome) (p : Place) → StopsItself x → EndsSo hops h x outcome → outcome ≡ Stopped (Loop p)
    → ((k : Header) × (x ≡ go p k)) × (is_visited hops p ≡ true)
loop-back hops h (arrive end) outcome p own ends e = absurd (Stopped≢Arrived end h (Loop p) (sym ends ∙ e))
loop-back hops h (stop s) outcome p own ends e =
    absurd (both_ways (is_of_step s) (subst (λ r. is_of_step r ≡ false) (sym (Stopped-same s (Loop p) (sym ends ∙ e))) refl) own)
loop-back hops h (go q k) outcome p own (inl (there, is)) e =
    let same = Loop-same q p (Stopped-same (Loop q) (Loop p) (sym is ∙ e)) in
    ((k, ap (λ r. go r k) same), subst (λ r. is_visited hops r ≡ true) same there)
loop-back hops h (go q k) outcome p own (inr (new, (many, is))) e = absurd (Loop≢TooFar p q (sym (Stopped-same (TooFar q) (Loop p) (sym is ∙ e))))

loop-to : (hops : List Hop) (h : Header) (x : Next) (outcome : Outcome) (p : Place) (k : Header) → EndsSo hops h x outcome → x ≡ go p k → is_visited hops p ≡ true → outcome ≡ Stopped (Loop p)
loop-to hops h x outcome p k ends e there =
    elim (subst (λ y. EndsSo hops h y outcome) e ends) [ inl (a, is) ↦ is | inr (new, rest) ↦ absurd (both_ways (is_visited hops p) new there) ]

pub loops_are_returns : (d : Description) (appliances : Appliances) (label : Label) (m : Moment) (w : Walk) (i : IsWalk d appliances label m w) (p : Place)
    → let s = step_of d appliances label (last_moment m i.rest) in
    (w.outcome ≡ Stopped (Loop p)) ↔ (((k : Header) × (s.next ≡ go p k)) × (is_visited w.hops p ≡ true))
loops_are_returns d appliances label m w i p =
    let last = last_moment m i.rest in
    let s = step_of d appliances label last in (
      λ e. loop-back w.hops last.header s.next w.outcome p (steps_stop_themselves d appliances label last) i.ends e,
      λ found. loop-to w.hops last.header s.next w.outcome p found.0.0 i.ends found.0.1 found.1,
    )

far-back : (hops : List Hop) (h : Header) (x : Next) (outcome : Outcome) (p : Place) → StopsItself x → EndsSo hops h x outcome → outcome ≡ Stopped (TooFar p)
    → ((k : Header) × (x ≡ go p k)) × ((is_visited hops p ≡ false) × (length hops ≡ 64))
far-back hops h (arrive end) outcome p own ends e = absurd (Stopped≢Arrived end h (TooFar p) (sym ends ∙ e))
far-back hops h (stop s) outcome p own ends e =
    absurd (both_ways (is_of_step s) (subst (λ r. is_of_step r ≡ false) (sym (Stopped-same s (TooFar p) (sym ends ∙ e))) refl) own)
far-back hops h (go q k) outcome p own (inr (new, (many, is))) e =
    let same = TooFar-same q p (Stopped-same (TooFar q) (TooFar p) (sym is ∙ e)) in
    ((k, ap (λ r. go r k) same), (subst (λ r. is_visited hops r ≡ false) same new, many))
far-back hops h (go q k) outcome p own (inl (there, is)) e = absurd (Loop≢TooFar q p (Stopped-same (Loop q) (TooFar p) (sym is ∙ e)))

far-to : (hops : List Hop) (h : Header) (x : Next) (outcome : Outcome) (p : Place) (k : Header) → EndsSo hops h x outcome → x ≡ go p k → is_visited hops p ≡ false → outcome ≡ Stopped (TooFar p)
far-to hops h x outcome p k ends e new =
    elim (subst (λ y. EndsSo hops h y outcome) e ends) [ inl (there, is) ↦ absurd (both_ways (is_visited hops p) new there) | inr (a, (many, is)) ↦ is ]

pub far_walks_are_long : (d : Description) (appliances : Appliances) (label : Label) (m : Moment) (w : Walk) (i : IsWalk d appliances label m w) (p : Place)
    → let s = step_of d appliances label (last_moment m i.rest) in
    (w.outcome ≡ Stopped (TooFar p)) ↔ (((k : Header) × (s.next ≡ go p k)) × ((is_visited w.hops p ≡ false) × (length w.hops ≡ 64)))
far_walks_are_long d appliances label m w i p =
    let last = last_moment m i.rest in
    let s = step_of d appliances label last in (
      λ e. far-back w.hops last.header s.next w.outcome p (steps_stop_themselves d appliances label last) i.ends e,
      λ found. far-to w.hops last.header s.next w.outcome p found.0.0 i.ends found.0.1 found.1.0,
    )
