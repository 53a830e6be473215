use Rattle.std.proofs.Common.{◌≡◌, ◌≤◌, ◌+◌, ◌-◌, ◌/◌, ◌^◌, slice_index_or, ap, ◌∙◌, arith}
use Rattle.std.proofs.lemmas.List.{get_or_default}
use Rattle.piece_table.specs.Pieces.{first_of, last_of, told_of}
use Rattle.piece_table.proofs.Halves.{halved, one_more}
use Rattle.piece_table.proofs.PieceLemmas.{at_number}
use Rattle.piece_table.proofs.table.Pieces.find.Goals as goal

pub loop-high-preserved-then-begin-x : goal.loop-high-preserved-then-begin-x
loop-high-preserved-then-begin-x g c =
    let e : c.at-begin.new.steps - c.args.steps.now ≡ (c.loop-high.steps - c.args.steps.now) + 1 = omega arith in
    let w : 1 ≤ c.loop-high.high - c.loop-high.low - 1 = omega arith in
    record {
      apart = omega arith;
      within = omega arith;
      first = c.at-begin.ensures.first;
      told = c.at-begin.ensures.told;
      last = c.loop-high.invariant.last;
      from = omega arith;
      after = c.loop-high.invariant.after;
      later = omega arith;
      width = halved _ _ _ _ _ e (omega arith) c.loop-high.invariant.width;
      few = let m = one_more _ _ _ _ e w c.loop-high.invariant.width in omega (arith, m);
    }

pub loop-high-preserved : goal.loop-high-preserved
loop-high-preserved g c =
    let e : c.at-begin.new.steps - c.args.steps.now ≡ (c.loop-high.steps - c.args.steps.now) + 1 = omega arith in
    let w : 1 ≤ c.loop-high.high - c.loop-high.low - 1 = omega arith in
    let next = get_or_default c.args.self.now.firsts (c.loop-high.low + (c.loop-high.high - c.loop-high.low) / 2) (2 ^ 32) 0 (omega arith) in
    record {
      apart = omega arith;
      within = omega arith;
      first = c.loop-high.invariant.first;
      told = c.loop-high.invariant.told;
      last = omega (arith, next, c.at-begin.ensures.first);
      from = omega arith;
      after = omega (arith, next, c.at-begin.ensures.first);
      later = omega arith;
      width = halved _ _ _ _ _ e (omega arith) c.loop-high.invariant.width;
      few = let m = one_more _ _ _ _ e w c.loop-high.invariant.width in omega (arith, m);
    }

pub returns-clause-first : goal.returns-clause-first
returns-clause-first g c =
    at_number first_of c.args.self.now c.loop-high.low c.loop-high.high c.args.x _ c.count-high.ensures.pieces (omega arith) (omega arith) (omega arith) c.loop-high.invariant.after
    c.loop-high.invariant.first

pub returns-clause-last : goal.returns-clause-last
returns-clause-last g c =
    let next : c.loop-high.high ≡ c.loop-high.low + 1 = omega arith in
    at_number last_of c.args.self.now c.loop-high.low c.loop-high.high c.args.x _ c.count-high.ensures.pieces next (omega arith) (omega arith) c.loop-high.invariant.after
    (c.loop-high.invariant.last ∙ ap (λ n. slice_index_or c.args.self.now.firsts n (2 ^ 32) - 1) next)

pub returns-clause-told : goal.returns-clause-told
returns-clause-told g c =
    at_number told_of c.args.self.now c.loop-high.low c.loop-high.high c.args.x _ c.count-high.ensures.pieces (omega arith) (omega arith) (omega arith) c.loop-high.invariant.after
    c.loop-high.invariant.told
