use Rattle.std.proofs.Common.{◌≡◌, ◌≢◌, ◌+◌, ◌-◌, ◌∙◌, ◌||◌, ◌&&◌, not, Bool, true, false, [], ◌∷◌, ◌++◌, ap, arith, refl, subst, sym, take}
use Rattle.std.proofs.lemmas.Bool.{false≢true}
use Rattle.header_boxes.specs.Boxes.{in_range}
use Rattle.ordered_cover.specs.Passed.{AreRangesBelow}
use Rattle.ordered_cover.specs.Ports.{is_in_ranges}
use Rattle.ordered_cover.proofs.Lists.{last_put_back, last_replaced, none_at_all, with_last}
use Rattle.ordered_cover.proofs.OpenRanges.{below_more, in_joined, in_pushed, joined_below, pushed_apart, pushed_first}
use Rattle.ordered_cover.proofs.ports.add_open.Goals as goal
use Rattle.ordered_cover.proofs.ports.add_open.Goals.{in-Some+else-from, in_default}

-- the range is there where the ports are open
if_open : (b x y : Bool) → not b ≡ false → (x || y) ≡ (x || (b && y))
if_open true x y e = refl
if_open false x y e = absurd cc

pub returns-then-not-found-clause-below : goal.returns-then-not-found-clause-below
returns-then-not-found-clause-below c =
    let le = c.requires.some in
    below_more c.args.first (c.args.found.last + 1) c.args.ranges.now.items (omega (arith, le)) c.requires.below

pub returns-then-from-clause-below : goal.returns-then-from-clause-below
returns-then-from-clause-below c =
    let old = c.args.ranges.now.items in
    let n = c.args.ranges.now.len in
    let r = c.in-Some.range.now in
    let count = c.args.ranges.now.ok.0 in
    let some = c.in-Some.ensures.variant.0 refl in
    let touch : r.1 + 1 ≡ c.args.first = omega arith in
    subst (AreRangesBelow (c.args.found.last + 1)) (sym (last_replaced old n (r.0, c.args.found.last) count some))
    (joined_below (take (n - 1) old) r c.args.first c.args.found.last touch c.requires.some
    (subst (AreRangesBelow c.args.first) (with_last old n r count some c.in-Some.ensures.value) c.requires.below))

pub returns-then-from-clause-hold : goal.returns-then-from-clause-hold
returns-then-from-clause-hold c = λ q.
    let old = c.args.ranges.now.items in
    let n = c.args.ranges.now.len in
    let r = c.in-Some.range.now in
    let count = c.args.ranges.now.ok.0 in
    let some = c.in-Some.ensures.variant.0 refl in
    let touch : r.1 + 1 ≡ c.args.first = omega arith in
    let ended = with_last old n r count some c.in-Some.ensures.value in
    ap (λ v. is_in_ranges v q) (last_replaced old n (r.0, c.args.found.last) count some)
    ∙ (in_joined (take (n - 1) old) r c.args.first c.args.found.last q touch c.requires.some (subst (AreRangesBelow c.args.first) ended c.requires.below)
    ∙ (ap (λ v. is_in_ranges v q || in_range (c.args.first, c.args.found.last) q) (sym ended)
    ∙ if_open c.args.found.are_open (is_in_ranges old q) (in_range (c.args.first, c.args.found.last) q) c.if-not-found.false))

pub returns-clause-below : goal.returns-clause-below
returns-clause-below c =
    let old = c.args.ranges.now.items in
    let n = c.args.ranges.now.len in
    let count = c.args.ranges.now.ok.0 in
    let first = c.args.first in
    let last = c.args.found.last in
    elim c.match-last_mut.branch as (λ _. AreRangesBelow (last + 1) c.push.new.self.items) [
      | in-Some+else-from w ↦
          let r = w.in-Some.range.now in
          let some = w.in-Some.ensures.variant.0 refl in
          let same : c.match-last_mut.ranges.items ≡ old = ap (λ v. v.items) w.ranges-is ∙ last_put_back old n r count some w.in-Some.ensures.value in
          let apart : r.1 + 1 ≢ first = (λ e. w.if-from.false (omega arith)) in
          subst (AreRangesBelow (last + 1)) (sym (c.in_ok-push.ensures.items ∙ ap (λ v. v ++ (first, last) ∷ []) same))
          (pushed_apart old (take (n - 1) old) r first last (with_last old n r count some w.in-Some.ensures.value) apart c.requires.some c.requires.below)
      | in_default w ↦
          let same : c.match-last_mut.ranges.items ≡ old = ap (λ v. v.items) w.ranges-is in
          subst (AreRangesBelow (last + 1)) (sym (c.in_ok-push.ensures.items ∙ ap (λ v. v ++ (first, last) ∷ []) same))
          (pushed_first old first last (none_at_all old n count (λ lt. false≢true (w.in_default.ensures.variant.1 lt))) c.requires.some c.requires.below)
    ]

pub returns-clause-hold : goal.returns-clause-hold
returns-clause-hold c = λ q.
    ap (λ v. is_in_ranges v q) (c.in_ok-push.ensures.items ∙ ap (λ v. v ++ (c.args.first, c.args.found.last) ∷ []) same)
    ∙ (in_pushed c.args.ranges.now.items (c.args.first, c.args.found.last) q
    ∙ if_open c.args.found.are_open (is_in_ranges c.args.ranges.now.items q) (in_range (c.args.first, c.args.found.last) q) c.if-not-found.false)
  where
    same : c.match-last_mut.ranges.items ≡ c.args.ranges.now.items
    same = elim c.match-last_mut.branch as (λ _. c.match-last_mut.ranges.items ≡ c.args.ranges.now.items) [
      | in-Some+else-from w ↦ ap (λ v. v.items) w.ranges-is
          ∙ last_put_back c.args.ranges.now.items c.args.ranges.now.len w.in-Some.range.now c.args.ranges.now.ok.0 (w.in-Some.ensures.variant.0 refl) w.in-Some.ensures.value
      | in_default w ↦ ap (λ v. v.items) w.ranges-is
    ]
