use Rattle.std.proofs.Common.{◌≡◌, ◌<◌, ◌-◌, true, ℕ, nat_lt, ap, arith, length, refl, sym, take}
use Rattle.std.proofs.lemmas.Bool.Decides.{nat_tests}
use Rattle.header_boxes.specs.declared.boxes.Box5.{Box5}
use Rattle.ordered_cover.proofs.Lists.{with_last}
use Rattle.ordered_cover.proofs.joining.one_with_last.Goals as goal

some_below : (n : ℕ) → true ≡ nat_lt 0 n → 0 < n
some_below n e = let t : nat_lt 0 n ≡ true = sym e in grind (arith, nat_tests)

pub returns-clause-some : goal.returns-clause-some
returns-clause-some g c =
    let rows = c.args.rows.now in
    let last = c.in_ok-last.last.now in
    let item = c.in_ok-last.ensures.item in
    record {
      before = take (length rows - 1) rows;
      last = last;
      ended = with_last rows (length rows) last refl (some_below (length rows) item.0) item.1;
      can = c.if-not-can_join.ensures.0 refl;
      new_is = ap (λ (b : Box5). record { part = b; word = last.word }) c.span.ensures;
    }
