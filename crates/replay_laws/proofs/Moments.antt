-- The moments of an answer's walk: each meets what was remembered before the walk.
use Rattle.std.proofs.Common.{◌≡◌, ◌∙◌, ◌∷◌, ◌++◌, [], List, ap, inl, inr, map, refl, subst, sym}
use Rattle.std.specs.List.{Contains}
use Rattle.vpc_base.specs.declared.headers.Label.TheVariants.{Answer}
use Rattle.vpc_base.proofs.Members.{Contains-cases, Contains-none}
use Rattle.vpc_laws.specs.Types.{Description, Hop, Outcome, Stop}
use Rattle.vpc_model.specs.declared.outcomes.Outcome.TheVariants.{Stopped}
use Rattle.vpc_model.specs.Appliances.{Appliances}
use Rattle.vpc_model.specs.Step.{step_of}
use Rattle.vpc_model.specs.Step.Words.{Moment, go, stop}
use Rattle.vpc_model.proofs.Nexts.{go≢stop}
use Rattle.vpc_laws.specs.Walk.{EndsSo, Follows, hop_of, last_moment}
use Rattle.vpc_laws.proofs.Growth.{answer_adds_nothing}
use Rattle.replay_laws.specs.Interleaved.{IsLast}

-- ---- one hop

-- the moment of a hop, with what was remembered at the start; where its step stops the packet, the walk ends so with this hop
pub record IsHopAt (d : Description) (appliances : Appliances) (start : Moment) (hops : List Hop) (outcome : Outcome) (hop : Hop) : Type 0 where
  pub moment : Moment
  pub is : hop ≡ hop_of d appliances Answer moment
  pub conns : moment.conns ≡ start.conns
  pub nats : moment.nats ≡ start.nats
  pub stops : (s : Stop) → (let step = step_of d appliances Answer moment in step.next ≡ stop s) → (outcome ≡ Stopped s) × IsLast hops hop

pub hops_at : (d : Description) (appliances : Appliances) (start : Moment) (rest : List Moment) (hops : List Hop) (outcome : Outcome) (hop : Hop)
    → Follows d appliances Answer start rest
    → (let last = last_moment start rest in let step = step_of d appliances Answer last in EndsSo hops last.header step.next outcome)
    → Contains (map (hop_of d appliances Answer) (start ∷ rest)) hop
    → IsHopAt d appliances start (map (hop_of d appliances Answer) (start ∷ rest)) outcome hop
hops_at d appliances start [] hops outcome hop follows ends has =
    elim (Contains-cases (hop_of d appliances Answer start) hop [] has) [
      | inl same ↦
          record {
            moment = start;
            is = sym same;
            conns = refl;
            nats = refl;
            stops = λ s e. (subst (λ next. EndsSo hops start.header next outcome) e ends, ([], ap (λ (h : Hop). h ∷ []) same));
          }
      | inr none ↦ absurd (Contains-none hop none)
    ]
hops_at d appliances start (n ∷ rest) hops outcome hop (next, follows) ends has =
    elim (Contains-cases (hop_of d appliances Answer start) hop (map (hop_of d appliances Answer) (n ∷ rest)) has) [
      | inl same ↦
          record { moment = start; is = sym same; conns = refl; nats = refl; stops = λ s e. absurd (go≢stop n.place n.header s (sym next.goes ∙ e)) }
      | inr later ↦
          let at = hops_at d appliances n rest hops outcome hop follows ends later in
          let kept = answer_adds_nothing d appliances start in
          record {
            moment = at.moment;
            is = at.is;
            conns = at.conns ∙ next.conns ∙ kept.0;
            nats = at.nats ∙ next.nats ∙ kept.1;
            stops = λ s e. let t = at.stops s e in (t.0, (hop_of d appliances Answer start ∷ (t.1).0, ap (λ hs. hop_of d appliances Answer start ∷ hs) (t.1).1));
          }
    ]

-- ---- one hop after another

-- the moment of a hop from which the step leads to the next hop
pub record IsBefore (d : Description) (appliances : Appliances) (start : Moment) (hop after : Hop) : Type 0 where
  pub moment : Moment
  pub is : hop ≡ hop_of d appliances Answer moment
  pub nats : moment.nats ≡ start.nats
  pub goes : let step = step_of d appliances Answer moment in step.next ≡ go after.place after.header

pub cons-head : {X : Type 0} (x y : X) (xs ys : List X) → x ∷ xs ≡ y ∷ ys → x ≡ y
cons-head x y xs ys e = cc

pub cons-tail : {X : Type 0} (x y : X) (xs ys : List X) → x ∷ xs ≡ y ∷ ys → xs ≡ ys
cons-tail x y xs ys e = cc

nil≢cons : {X : Type 0} (y : X) (ys : List X) → [] ≡ y ∷ ys → ⊥
nil≢cons y ys e = cc

pub nil≢middle : {X : Type 0} (before : List X) (y : X) (ys : List X) → [] ≡ before ++ y ∷ ys → ⊥
nil≢middle [] y ys e = nil≢cons y ys e
nil≢middle (x ∷ before) y ys e = nil≢cons x (before ++ y ∷ ys) e

pub befores_at : (d : Description) (appliances : Appliances) (start : Moment) (rest : List Moment) (before after : List Hop) (hop next : Hop)
    → Follows d appliances Answer start rest
    → map (hop_of d appliances Answer) (start ∷ rest) ≡ before ++ hop ∷ next ∷ after → IsBefore d appliances start hop next
befores_at d appliances start [] [] after hop next follows e =
    absurd (nil≢cons next after (cons-tail (hop_of d appliances Answer start) hop [] (next ∷ after) e))
befores_at d appliances start [] (x ∷ before) after hop next follows e =
    absurd (nil≢middle before hop (next ∷ after) (cons-tail (hop_of d appliances Answer start) x [] (before ++ hop ∷ next ∷ after) e))
befores_at d appliances start (n ∷ rest) [] after hop next (step, follows) e =
    let hops = map (hop_of d appliances Answer) (n ∷ rest) in
    let later = cons-tail (hop_of d appliances Answer start) hop hops (next ∷ after) e in
    let same : hop_of d appliances Answer n ≡ next = cons-head (hop_of d appliances Answer n) next (map (hop_of d appliances Answer) rest) after later in
    record {
      moment = start;
      is = sym (cons-head (hop_of d appliances Answer start) hop hops (next ∷ after) e);
      nats = refl;
      goes = subst (λ (h : Hop). let s = step_of d appliances Answer start in s.next ≡ go h.place h.header) same step.goes;
    }
befores_at d appliances start (n ∷ rest) (x ∷ before) after hop next (step, follows) e =
    let later = cons-tail (hop_of d appliances Answer start) x (map (hop_of d appliances Answer) (n ∷ rest)) (before ++ hop ∷ next ∷ after) e in
    let at = befores_at d appliances n rest before after hop next follows later in
    let kept = answer_adds_nothing d appliances start in
    record { moment = at.moment; is = at.is; nats = at.nats ∙ step.nats ∙ kept.1; goes = at.goes }
