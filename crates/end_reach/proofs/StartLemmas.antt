-- Where requests start: described ends.
use Rattle.std.proofs.Common.{◌≡◌, ◌∙◌, ◌<◌, ◌+◌, ◌++◌, ◌∷◌, [], All, Bool, List, Option, ap, append_assoc, cond, false, filter, get_or, length, map, refl, subst, sym, take, true, ℕ}
use Rattle.std.proofs.lemmas.List.Elements.{All-append, All-cons, All-filter, All-map, All-nil, filter_more}
use Rattle.std.proofs.lemmas.List.{map-append}
use Rattle.vpc_laws.specs.Types.{Description, End, EniNo, FarNo}
use Rattle.vpc_model.specs.Sound.{is_end, is_eni}
use Rattle.vpc_model.specs.declared.places.End.TheVariants as ends
use Rattle.described_hosts.proofs.HostLemmas.{hosts_are_described}
use Rattle.listing_text.proofs.OutsideLemmas.{sources_are_ends}
use Rattle.end_reach.specs.Asked.{AreAllStarts, is_far_start, is_goal, is_start, starts_among}

first_start : (d : Description) (b : Bool) → All (λ e. is_end d e ≡ true) (cond b [] (ends.Internet ∷ []))
first_start d true = All-nil (λ e. is_end d e ≡ true)
first_start d false = All-cons (λ e. is_end d e ≡ true) ends.Internet [] refl (All-nil (λ e. is_end d e ≡ true))

among_are_described : (d : Description) (src : Option (ℕ × ℕ)) (goal : Option End) (hosts : List EniNo) (outside : List FarNo) → All (λ i. is_eni d i ≡ true) hosts → All (λ k. is_end d (ends.Far k) ≡ true) outside
    → All (λ e. is_end d e ≡ true) (starts_among d src goal hosts outside)
among_are_described d src goal hosts outside all others =
    let first = cond (is_goal goal ends.Internet) [] (ends.Internet ∷ []) in
    All-append (λ e. is_end d e ≡ true) (first ++ map ends.Interface (filter (is_start d src goal) hosts)) (map ends.Far (filter (is_far_start goal) outside))
    (All-append (λ e. is_end d e ≡ true) first (map ends.Interface (filter (is_start d src goal) hosts)) (first_start d (is_goal goal ends.Internet))
    (All-map (λ e. is_end d e ≡ true) ends.Interface (filter (is_start d src goal) hosts) (All-filter (is_start d src goal) (λ i. is_eni d i ≡ true) hosts all)))
    (All-map (λ e. is_end d e ≡ true) ends.Far (filter (is_far_start goal) outside) (All-filter (is_far_start goal) (λ k. is_end d (ends.Far k) ≡ true) outside others))

pub starts_are_described : (d : Description) (src : Option (ℕ × ℕ)) (goal : Option End) (starts : List End) → AreAllStarts d src goal starts → All (λ e. is_end d e ≡ true) starts
starts_are_described d src goal starts k =
    subst (λ (l : List End). All (λ e. is_end d e ≡ true) l) (sym k.are)
    (among_are_described d src goal k.hosts k.outside (hosts_are_described d k.hosts k.by_id) (sources_are_ends d k.outside k.outside_by_id))

-- what is made of those that a test keeps
module _ {X : Type 0} (make : X → End) (p : X → Bool) (xs : List X) (k : ℕ) (x : X) (within : k < length xs) where
  -- one more
  kept_more : map make (filter p (take (k + 1) xs)) ≡ map make (filter p (take k xs)) ++ cond (p (get_or xs k x)) (make (get_or xs k x) ∷ []) []
  kept_more =
      ap (map make) (filter_more p xs k x within)
      ∙ (map-append make (filter p (take k xs)) (cond (p (get_or xs k x)) (get_or xs k x ∷ []) [])
      ∙ ap (λ (l : List End). map make (filter p (take k xs)) ++ l) (by (p (get_or xs k x))))
    where
      by : (b : Bool) → map make (cond b (get_or xs k x ∷ []) []) ≡ cond b (make (get_or xs k x) ∷ []) []
      by true = refl
      by false = refl

  pub starts_more : (old before after : List End) → x ≡ get_or xs k x → before ≡ old ++ map make (filter p (take k xs)) → after ≡ before ++ cond (p x) (make x ∷ []) []
      → after ≡ old ++ map make (filter p (take (k + 1) xs))
  starts_more old before after at so_far added =
      added
      ∙ (ap (λ (l : List End). l ++ cond (p x) (make x ∷ []) []) so_far
      ∙ (append_assoc old (map make (filter p (take k xs))) (cond (p x) (make x ∷ []) [])
      ∙ ap (λ (l : List End). old ++ l)
      (ap (λ (y : X). map make (filter p (take k xs)) ++ cond (p y) (make y ∷ []) []) at ∙ sym kept_more)))

one_start : (d : Description) (start : End) → is_end d start ≡ true → All (λ e. is_end d e ≡ true) (start ∷ [])
one_start d start known = All-cons (λ e. is_end d e ≡ true) start [] known (All-nil (λ e. is_end d e ≡ true))

pub given_is_described : (d : Description) (start : End) (starts : List End) → is_end d start ≡ true → starts ≡ start ∷ [] → All (λ e. is_end d e ≡ true) starts
given_is_described d start starts known is = subst (λ (l : List End). All (λ e. is_end d e ≡ true) l) (sym is) (one_start d start known)
