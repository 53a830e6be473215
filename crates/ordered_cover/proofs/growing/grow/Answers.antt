use Rattle.std.proofs.Common.{◌≡◌, ap, arith, length}
use Rattle.std.proofs.lemmas.List.Elements.{All-head}
use Rattle.std.proofs.lemmas.List.Sorted.{All-permutation}
use Rattle.header_boxes.specs.Boxes.{IsValid}
use Rattle.ordered_cover.proofs.Growth.{growing_at_start}
use Rattle.ordered_cover.proofs.Splits.{found_from_asked, more_from_split, split_after, split_at_start, valid_from_split, volume_falls}
use Rattle.ordered_cover.proofs.Widening.{few_added, growing_added, growing_closed, joined_added, split_added, split_closed}
use Rattle.ordered_cover.proofs.growing.grow.Goals as goal

pub kept-init : goal.kept-init
kept-init g c = record {
  split = rw (c.in_ok-boxes.ensures, c.new-rows.ensures.items) (split_at_start c.requires.valid);
  growing = rw (c.in_ok-boxes.ensures, c.new-rows.ensures.items) growing_at_start;
  few = rw c.new-rows.ensures.items (omega arith);
  joined = rw c.new-rows.ensures.items (λ k d lt. absurd (omega (arith, lt)));
}

pub ask-requires : goal.ask-requires
ask-requires g c = valid_from_split c.kept.invariant.split

pub returns-in-None : goal.returns-in-None
returns-in-None g c =
    let asked = rw c.in-Some.is at c.in_ok-part.ensures.asked in
    rw c.low.ensures.value (found_from_asked c.kept.invariant.split (rw c.in-None.is at asked))

pub kept-smaller : goal.kept-smaller
kept-smaller g c = volume_falls (rw c.in-Some.is at c.in_ok-part.ensures.asked)

pub kept-preserved : goal.kept-preserved
kept-preserved g c =
    let asked = rw c.in-Some.is at c.in_ok-part.ensures.asked in
    let told = rw c.in-Some-word.is at asked in
    let word = c.in-Some-word.word in
    let added = c.in_ok-add_row-in-Some-word.ensures in
    record {
      split = split_added (split_after word c.kept.invariant.split told) added;
      growing = growing_added word c.kept.invariant.growing c.kept.invariant.split told added;
      few = let t = c.kept-test.true in let l = c.len.ensures in let m = few_added added in omega (arith, t, l, m);
      joined = joined_added c.kept.invariant.joined added;
    }

pub blocked-requires : goal.blocked-requires
blocked-requires g c =
    let none = rw c.in_default.is at c.in_ok-part.ensures.none in
    let same = c.as_slice.ensures.value in
    record {
      split = split_closed none same c.kept.invariant.split;
      growing = growing_closed none same c.kept.invariant.growing;
      few = let e = ap length same in let f = c.kept.invariant.few in omega (arith, e, f);
    }

pub blocked-requires-in-None-take_first : goal.blocked-requires-in-None-take_first
blocked-requires-in-None-take_first g c =
    let none = c.in-None-take_first.ensures.none in
    let same = c.as_slice-in-None-take_first.ensures.value in
    record {
      split = split_closed none same c.kept.invariant.split;
      growing = growing_closed none same c.kept.invariant.growing;
      few = let e = ap length same in let f = c.kept.invariant.few in omega (arith, e, f);
    }

pub low-requires-in-Some-take_first : goal.low-requires-in-Some-take_first
low-requires-in-Some-take_first g c =
    All-head IsValid _ _ (All-permutation IsValid _ _ c.in-Some-take_first.ensures.taken (valid_from_split c.kept.invariant.split))

pub returns : goal.returns
returns g c =
    let count : length c.kept.rows.items ≡ c.args.max = omega (arith, c.kept.invariant.few, c.kept-test.false, c.len.ensures) in
    rw c.low-in-Some-take_first.ensures.value
    (more_from_split c.args.max c.in-Some-take_first.next c.kept.invariant.split c.in-Some-take_first.ensures.taken c.in-Some-take_first.ensures.least count c.kept.invariant.joined)
