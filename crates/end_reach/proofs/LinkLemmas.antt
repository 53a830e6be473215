-- The links of a question are the networks that aren't described among its starts.
use Rattle.std.proofs.Common.{◌≡◌, ◌↔◌, ◌⊎◌, ◌++◌, ◌∷◌, [], Bool, Contains, List, None, Option, ap, cond, false, filter, inl, inr, map, subst, sym, true, ℕ}
use Rattle.std.proofs.lemmas.List.Elements.{Contains-append_cases, Contains-append_right}
use Rattle.vpc_base.proofs.Lemmas.{Contains-cases, Contains-filter, Contains-map, Contains-none, Contains-permutation, IsPermutation-sym, filter-member, map-member}
use Rattle.listing_text.specs.Outside as listed
use Rattle.query_words.specs.declared.reaches.ReachQuery.{ReachQuery}
use Rattle.vpc_laws.specs.Types.{Description, End, EniNo, FarNo}
use Rattle.vpc_model.specs.declared.places.End.TheVariants as ends
use Rattle.end_reach.specs.Asked.{AreAllStarts, AreStarts, LinksAreStarts, is_far_start, is_goal, is_start, links_between, starts_among}

-- ---- a network among starts

not_first : (b : Bool) (k : FarNo) → Contains (cond b [] (ends.Internet ∷ [])) (ends.Far k) → ⊥
not_first true k has = Contains-none (ends.Far k) has
not_first false k has = elim (Contains-cases ends.Internet (ends.Far k) [] has) [ inl same ↦ absurd cc | inr later ↦ Contains-none (ends.Far k) later ]

no_host : (hosts : List EniNo) (k : FarNo) → Contains (map ends.Interface hosts) (ends.Far k) → ⊥
no_host hosts k has = let host = map-member ends.Interface hosts (ends.Far k) has in let same = host.2 in absurd cc

one_network : (networks : List FarNo) (k : FarNo) → Contains (map ends.Far networks) (ends.Far k) → Contains networks k
one_network networks k has =
    let found = map-member ends.Far networks (ends.Far k) has in
    let same : ends.Far found.0 ≡ ends.Far k = found.2 in
    let one : found.0 ≡ k = cc in
    subst (Contains networks) one found.1

module _ (d : Description) (src : Option (ℕ × ℕ)) (goal : Option End) (hosts : List EniNo) (outside : List FarNo) (k : FarNo) where
  abbrev first : List End
  first = cond (is_goal goal ends.Internet) [] (ends.Internet ∷ [])

  abbrev made_hosts : List End
  made_hosts = map ends.Interface (filter (is_start d src goal) hosts)

  abbrev made_outside : List End
  made_outside = map ends.Far (filter (is_far_start goal) outside)

  among_outside : Contains (starts_among d src goal hosts outside) (ends.Far k) → Contains (filter (is_far_start goal) outside) k
  among_outside has =
      elim (Contains-append_cases (first ++ made_hosts) made_outside (ends.Far k) has) [
        | inl before ↦
            elim (Contains-append_cases first made_hosts (ends.Far k) before) [
              | inl one ↦ absurd (not_first (is_goal goal ends.Internet) k one)
              | inr host ↦ absurd (no_host (filter (is_start d src goal) hosts) k host)
            ]
        | inr far ↦ one_network (filter (is_far_start goal) outside) k far
      ]

  outside_among : Contains (filter (is_far_start goal) outside) k → Contains (starts_among d src goal hosts outside) (ends.Far k)
  outside_among has = Contains-append_right (first ++ made_hosts) made_outside (ends.Far k) (Contains-map ends.Far (filter (is_far_start goal) outside) k has)

-- ---- in whatever order

-- a test keeps the same items of a list in another order
kept_moved : {X : Type 0} (p : X → Bool) (xs ys : List X) (x : X) → ((z : X) → Contains xs z → Contains ys z) → Contains (filter p xs) x → Contains (filter p ys) x
kept_moved p xs ys x moved has = let kept = filter-member p xs x has in Contains-filter p ys x (moved x kept.1) kept.0

by_starts : (d : Description) (src : Option (ℕ × ℕ)) (goal : Option End) (starts : List End) (k : FarNo) → AreAllStarts d src goal starts
    → Contains starts (ends.Far k) ↔ Contains (links_between d None goal) k
by_starts d src goal starts k all =
    let p = is_far_start goal in
    let there = Contains-permutation (listed.sources_of d) all.outside in
    let back = Contains-permutation all.outside (listed.sources_of d) in (
      λ has.
          kept_moved p all.outside (listed.sources_of d) k (λ z. back z (IsPermutation-sym (listed.sources_of d) all.outside all.outside_by_id.all))
          (among_outside d src goal all.hosts all.outside k (subst (λ (l : List End). Contains l (ends.Far k)) all.are has)),
      λ has.
          subst (λ (l : List End). Contains l (ends.Far k)) (sym all.are)
          (outside_among d src goal all.hosts all.outside k (kept_moved p (listed.sources_of d) all.outside k (λ z. there z all.outside_by_id.all) has)),
    )

pub links_are_starts : LinksAreStarts
links_are_starts d query starts k none are =
    subst (λ (start : Option End). Contains starts (ends.Far k) ↔ Contains (links_between d start query.goal) k) (sym none)
    (by_starts d query.pairs.src query.goal starts k (subst (λ (start : Option End). AreStarts d query.pairs.src start query.goal starts) none are))
