use Rattle.std.proofs.Common.{◌≡◌, ◌<◌, ◌≤◌, ◌⊎◌, ◌∙◌, List, [], ◌∷◌, ◌++◌, ap, arith, inl, inr, length, sym, ℕ}
use Rattle.std.proofs.lemmas.List.{length-append}
use Rattle.header_boxes.proofs.Held.{valid_if_within}
use Rattle.ordered_cover.proofs.Splits.{all_from_split, left_out_from_asked, split_after, split_at_start, told_past, valid_from_split, volume_falls}
use Rattle.ordered_cover.proofs.search.gather.Goals as goal

-- rows that aren't fewer than the most there may be are the rows as they were
still : {X : Type 0} (old new : List X) (room : ℕ) → (new ≡ old) ⊎ (length new < length old) → length new ≡ room → length old ≤ room → new ≡ old
still old new room (inl e) count few = e
still old new room (inr lt) count few = absurd (omega (arith, lt, count, few))

-- with one more they aren't too many
room_left : {X : Type 0} (old new : List X) (x : X) (room : ℕ) → (new ≡ old) ⊎ (length new < length old) → ¬ (length new ≡ room) → length old ≤ room → length (new ++ x ∷ []) ≤ room
room_left old new x room (inl e) count few = let l = length-append new (x ∷ []) in let k = ap length e in omega (arith, l, k, count, few)
room_left old new x room (inr lt) count few = let l = length-append new (x ∷ []) in omega (arith, l, lt, few)

pub asked-init : goal.asked-init
asked-init g c = record {
  split = rw (c.in_ok-boxes.ensures, c.new-rows.ensures.items) (split_at_start c.requires.valid);
  few = rw c.new-rows.ensures.items (omega arith);
  joined = rw c.new-rows.ensures.items (λ k d lt. absurd (omega (arith, lt)));
}

pub ask-requires : goal.ask-requires
ask-requires g c = valid_from_split c.asked.invariant.split

pub asked-smaller-in_default-word : goal.asked-smaller-in_default-word
asked-smaller-in_default-word g c = volume_falls (rw c.in-Some.is at c.in_ok-part.ensures.asked)

pub asked-preserved-in_default-word : goal.asked-preserved-in_default-word
asked-preserved-in_default-word g c =
    let asked = rw c.in-Some.is at c.in_ok-part.ensures.asked in
    record {
      split = told_past c.asked.invariant.split (rw c.in_default-word.is at asked);
      few = c.asked.invariant.few;
      joined = c.asked.invariant.joined;
    }

pub low-requires : goal.low-requires
low-requires g c =
    let asked = rw c.in-Some.is at c.in_ok-part.ensures.asked in
    valid_if_within c.in-Some.part asked.whole asked.within

pub returns-then-len-room : goal.returns-then-len-room
returns-then-len-room g c =
    let asked = rw c.in-Some.is at c.in_ok-part.ensures.asked in
    let asked_word = rw c.in-Some-word.is at asked in
    let count : length c.join_last-joined.new.rows.items ≡ c.args.room = omega (arith, c.len.ensures, c.if-len-room.true) in
    let same = still c.asked.rows.items c.join_last-joined.new.rows.items c.args.room c.join_last-joined.ensures.same count c.asked.invariant.few in
    rw (c.low.ensures.value, same)
    (left_out_from_asked c.args.room c.in-Some-word.word c.asked.invariant.split asked_word (ap length (sym same) ∙ count) c.asked.invariant.joined)

pub asked-smaller : goal.asked-smaller
asked-smaller g c = volume_falls (rw c.in-Some.is at c.in_ok-part.ensures.asked)

pub asked-preserved : goal.asked-preserved
asked-preserved g c =
    let asked = rw c.in-Some.is at c.in_ok-part.ensures.asked in
    let after = split_after c.in-Some-word.word c.asked.invariant.split (rw c.in-Some-word.is at asked) in
    let other : ¬ (length c.join_last-joined.new.rows.items ≡ c.args.room) = (λ e. c.if-len-room.false (omega (arith, c.len.ensures, e))) in
    rw c.in_ok-push.ensures.items (record {
      split = c.join_last-joined.ensures.kept _ _ _ _ _ after;
      few = room_left c.asked.rows.items c.join_last-joined.new.rows.items c.join_last-joined.result c.args.room c.join_last-joined.ensures.same other c.asked.invariant.few;
      joined = c.join_last-joined.ensures.joined c.asked.invariant.joined;
    })

pub returns : goal.returns
returns g c = all_from_split c.args.room c.asked.invariant.split (rw c.in_default.is at c.in_ok-part.ensures.none) c.asked.invariant.few c.asked.invariant.joined
