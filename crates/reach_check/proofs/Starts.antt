-- The starts of a question, with what is asked of each.
use Rattle.std.proofs.Common.{Err, IfOk, IfSome, List, None, Ok, Option, Result, Some, [], ap, arith, length, map, option_map, refl, slice_get, subst, suc, sym, zero, ℕ, ◌<◌, ◌^◌, ◌∙◌, ◌∷◌, ◌≡◌}
use Rattle.vpc_base.proofs.Lemmas.{length-map}
use Rattle.box_walk.specs.Journeys.{reached_of}
use Rattle.journey_changes.proofs.LawLemmas.{reached_is_reach}
use Rattle.journey_changes.specs.Terms.{Fate, Sent, fate, sent}
use Rattle.listing_check.specs.Terms.{Asked, IsLook, id_of, origins_of, outcome_of}
use Rattle.listing_check.specs.declared.looks.Look.{Look}
use Rattle.listing_reader.specs.declared.origins.Origin.{Origin}
use Rattle.query_words.specs.declared.reaches.ReachQuery.{ReachQuery}
use Rattle.end_reach.specs.Asked.{links_of}
use Rattle.vpc_laws.specs.Types.{Description, End, FarNo, Header, Row}
use Rattle.vpc_model.specs.Terms.{appliances_of, end_id, homes_among}
use Rattle.vpc_model.specs.declared.places.End.TheVariants as ends
use Rattle.reach_check.specs.Questions.{asked_at, asked_in, origin_of}
use Rattle.reach_check.specs.Reaches.{all_asked, end_told, fate_text, toward_of}

-- ---- one start of some

pub asked_in-below : (d : Description) (links : List FarNo) (goal : Option End) (origins : List Origin) (starts : List End) (k : ℕ) → k < length (asked_in d links goal origins starts)
    → (k < length origins) × (k < length starts)
asked_in-below d links goal [] starts k below = absurd (omega arith)
asked_in-below d links goal (o ∷ origins) [] k below = absurd (omega arith)
asked_in-below d links goal (o ∷ origins) (s ∷ starts) zero below = (omega arith, omega arith)
asked_in-below d links goal (o ∷ origins) (s ∷ starts) (suc k) below =
    let rest = asked_in-below d links goal origins starts k (omega arith) in
    let first = rest.0 in
    let second = rest.1 in
    (omega arith, omega arith)

pub asked_in-at : (d : Description) (links : List FarNo) (goal : Option End) (origins : List Origin) (starts : List End) (k : ℕ) (o : Origin) (s : End) → slice_get origins k ≡ Some o → slice_get starts k ≡ Some s
    → slice_get (asked_in d links goal origins starts) k ≡ Some (asked_at d links goal o s)
asked_in-at d links goal [] starts k o s is_o is_s = absurd (cc)
asked_in-at d links goal (x ∷ origins) [] k o s is_o is_s = absurd (cc)
asked_in-at d links goal (x ∷ origins) (y ∷ starts) zero o s is_o is_s =
    let one : x ≡ o = cc in
    let other : y ≡ s = cc in
    ap (λ (z : Origin). Some (asked_at d links goal z y)) one ∙ ap (λ (z : End). Some (asked_at d links goal o z)) other
asked_in-at d links goal (x ∷ origins) (y ∷ starts) (suc k) o s is_o is_s = asked_in-at d links goal origins starts k o s is_o is_s

-- ---- all starts of a query

pub asked_in-all : (d : Description) (query : ReachQuery) (targets : List (ℕ × ℕ)) (starts : List End)
    → asked_in d (links_of d query) query.goal (map (origin_of d query targets) starts) starts ≡ all_asked d query targets starts
asked_in-all d query targets [] = refl
asked_in-all d query targets (s ∷ starts) = ap (λ (l : List Asked). asked_at d (links_of d query) query.goal (origin_of d query targets s) s ∷ l) (asked_in-all d query targets starts)

origins_of-all : (d : Description) (query : ReachQuery) (targets : List (ℕ × ℕ)) (starts : List End) → map (origin_of d query targets) starts ≡ origins_of (all_asked d query targets starts)
origins_of-all d query targets [] = refl
origins_of-all d query targets (s ∷ starts) = ap (λ (l : List Origin). origin_of d query targets s ∷ l) (origins_of-all d query targets starts)

-- those that were made, as they are handed on
pub origins_are : (n d : Description) (query : ReachQuery) (targets : List (ℕ × ℕ)) (starts : List End) (made given : List Origin) → given ≡ made → made ≡ map (origin_of n query targets) starts → n ≡ d
    → given ≡ map (origin_of d query targets) starts
origins_are n d query targets starts made given lent are same = lent ∙ (are ∙ ap (λ (x : Description). map (origin_of x query targets) starts) same)

pub asked_in-origins : (d : Description) (query : ReachQuery) (targets : List (ℕ × ℕ)) (starts : List End) (origins : List Origin) → origins ≡ map (origin_of d query targets) starts
    → asked_in d (links_of d query) query.goal origins starts ≡ all_asked d query targets starts
asked_in-origins d query targets starts origins are = ap (λ (l : List Origin). asked_in d (links_of d query) query.goal l starts) are ∙ asked_in-all d query targets starts

-- with the links that were made, as they are handed on
pub links_are : (n d : Description) (query : ReachQuery) (made given : List FarNo) → given ≡ made → made ≡ links_of n query → n ≡ d → given ≡ links_of d query
links_are n d query made given lent are same = lent ∙ (are ∙ ap (λ (x : Description). links_of x query) same)

pub origins_of-asked : (d : Description) (query : ReachQuery) (targets : List (ℕ × ℕ)) (starts : List End) (origins : List Origin) → origins ≡ map (origin_of d query targets) starts
    → origins ≡ origins_of (asked_in d (links_of d query) query.goal origins starts)
origins_of-asked d query targets starts origins are =
    are ∙ (origins_of-all d query targets starts ∙ sym (ap origins_of (asked_in-origins d query targets starts origins are)))

-- ---- what is told of their requests

told_by : (d : Description) (start : End) (links : List FarNo) (goal : Option End) (h : Header)
    → option_map (end_id d) (reached_of d (appliances_of d) (homes_among links start) goal h) ≡ end_told (sent d (Some start) links (toward_of goal)) h
told_by d start links None h = let law = reached_is_reach d start links h in ap (option_map (end_id d)) (sym law.0)
told_by d start links (Some goal) h = let law = reached_is_reach d start links h in ap (option_map (end_id d)) (sym (law.1 goal))

-- by walks from the start
pub told_is : (s : Sent) (d : Description) (start : End) (links : List FarNo) (goal : Option End) (h : Header) → s ≡ sent d (Some start) links (toward_of goal)
    → option_map (end_id d) (reached_of d (appliances_of d) (homes_among links start) goal h) ≡ end_told s h
told_is s d start links goal h same = told_by d start links goal h ∙ ap (λ (t : Sent). end_told t h) (sym same)

module _ (d : Description) (links : List FarNo) (goal : Option End) (origins : List Origin) (starts : List End) (k : ℕ) (o : Origin) (s : End) (is_o : slice_get origins k ≡ Some o) (is_s : slice_get starts k ≡ Some s) where
  pub looked_at : {E : Type 0} (rows : List (Row (List ℕ))) (r : Result Look E) → IfOk r (IsLook (record { asked = asked_at d links goal o s; rows = rows }))
      → IfOk r (λ look. IfSome (slice_get (asked_in d links goal origins starts) k) (λ a. IsLook (record { asked = a; rows = rows }) look))
  looked_at {E} rows (Ok look) is =
      subst (λ (x : Option Asked). IfSome x (λ a. IsLook (record { asked = a; rows = rows }) look)) (sym (asked_in-at d links goal origins starts k o s is_o is_s)) is
  looked_at {E} rows (Err e) is = tt

  pub id_of-start : (id : List ℕ) → id ≡ o.id → id ≡ id_of (slice_get (asked_in d links goal origins starts) k)
  id_of-start id is = is ∙ sym (ap id_of (asked_in-at d links goal origins starts k o s is_o is_s))

  pub outcome_of-start : (n : Description) (id : List ℕ) (f : Fate) (h : Header) → n ≡ d → id ≡ o.id → f ≡ fate (sent d (Some s) links (toward_of goal)) h
      → fate_text n id f ≡ outcome_of (slice_get (asked_in d links goal origins starts) k) h
  outcome_of-start n id f h is_n is_id is_f =
      ap (λ (x : Description). fate_text x id f) is_n
      ∙ (ap (λ (x : List ℕ). fate_text d x f) is_id
      ∙ (ap (fate_text d o.id) is_f
      ∙ sym (ap (λ (x : Option Asked). outcome_of x h) (asked_in-at d links goal origins starts k o s is_o is_s))))

-- as many as they are read by
pub few_origins : (n : Description) (query : ReachQuery) (targets : List (ℕ × ℕ)) (starts : List End) (made given : List Origin) → given ≡ made → made ≡ map (origin_of n query targets) starts
    → length starts < 2 ^ 32 → length given < 2 ^ 32
few_origins n query targets starts made given lent are few =
    let same = ap length lent in
    let all = ap length are in
    let mapped = length-map starts (origin_of n query targets) in
    omega (arith, same, all, mapped, few)
