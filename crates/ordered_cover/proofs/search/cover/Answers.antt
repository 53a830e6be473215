use Rattle.std.proofs.Common.{◌≡◌, ◌<◌, ◌≤◌, ◌⊎◌, ◌++◌, ◌∷◌, [], List, ap, arith, inl, inr, length, ℕ}
use Rattle.std.proofs.lemmas.List.{length-append}
use Rattle.std.proofs.lemmas.List.Elements.{All-head}
use Rattle.std.proofs.lemmas.List.Sorted.{All-permutation}
use Rattle.header_boxes.specs.Boxes.{IsValid}
use Rattle.ordered_cover.proofs.Splits.{split_at_start, found_from_asked, split_after, valid_from_split, blocked_from_split, more_from_split, volume_falls}
use Rattle.ordered_cover.proofs.search.cover.Goals as goal

-- where they are fewer than the most there may be, with one more they aren't too many
one_more : {X : Type 0} (old new : List X) (x : X) (max : ℕ) → (new ≡ old) ⊎ (length new < length old) → length old < max → length (new ++ x ∷ []) ≤ max
one_more old new x max (inl e) few = let l = length-append new (x ∷ []) in let k = ap length e in omega (arith, l, k, few)
one_more old new x max (inr lt) few = let l = length-append new (x ∷ []) in omega (arith, l, lt, few)

pub kept-init : goal.kept-init
kept-init g c = record {
  split = rw (c.in_ok-boxes.ensures, c.new-rows.ensures.items) (split_at_start c.requires.valid);
  few = rw c.new-rows.ensures.items (omega arith);
  joined = rw c.new-rows.ensures.items (λ k d lt. absurd (omega (arith, lt)));
}

pub ask-requires : goal.ask-requires
ask-requires g c = valid_from_split c.kept.invariant.split

pub returns-in_default : goal.returns-in_default
returns-in_default g c = blocked_from_split c.args.max c.kept.invariant.split (rw c.in_default.is at c.in_ok-part.ensures.none) c.kept.invariant.few c.kept.invariant.joined

pub returns-in-None : goal.returns-in-None
returns-in-None g c =
    let asked = rw c.in-Some.is at c.in_ok-part.ensures.asked in
    rw c.low.ensures.value (found_from_asked c.kept.invariant.split (rw c.in-None.is at asked))

pub kept-smaller : goal.kept-smaller
kept-smaller g c = volume_falls (rw c.in-Some.is at c.in_ok-part.ensures.asked)

pub kept-preserved : goal.kept-preserved
kept-preserved g c =
    let asked = rw c.in-Some.is at c.in_ok-part.ensures.asked in
    let after = split_after c.in-Some-word.word c.kept.invariant.split (rw c.in-Some-word.is at asked) in
    rw c.in_ok-push-in-Some-word.ensures.items (record {
      split = c.join_last-row.ensures.kept _ _ _ _ _ after;
      few = one_more c.kept.rows.items c.join_last-row.new.rows.items c.join_last-row.result c.args.max c.join_last-row.ensures.same
          (let t = c.kept-test.true in let l = c.len.ensures in omega (arith, t, l));
      joined = c.join_last-row.ensures.joined c.kept.invariant.joined;
    })

pub returns-in-None-take_first : goal.returns-in-None-take_first
returns-in-None-take_first g c = blocked_from_split c.args.max c.kept.invariant.split c.in-None-take_first.ensures.none c.kept.invariant.few c.kept.invariant.joined

pub low-requires-in-Some-take_first : goal.low-requires-in-Some-take_first
low-requires-in-Some-take_first g c =
    All-head IsValid _ _ (All-permutation IsValid _ _ c.in-Some-take_first.ensures.taken (valid_from_split c.kept.invariant.split))

pub returns : goal.returns
returns g c =
    let count : length c.kept.rows.items ≡ c.args.max = omega (arith, c.kept.invariant.few, c.kept-test.false, c.len.ensures) in
    rw c.low-in-Some-take_first.ensures.value
    (more_from_split c.args.max c.in-Some-take_first.next c.kept.invariant.split c.in-Some-take_first.ensures.taken c.in-Some-take_first.ensures.least count c.kept.invariant.joined)
