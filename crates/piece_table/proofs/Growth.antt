-- Pieces that are made one after another.
use Rattle.std.proofs.Common.{◌≡◌, ℕ, ◌≤◌, ◌<◌, ◌+◌, ◌-◌, ◌^◌, Option, None, [], ◌∷◌, ◌++◌, length, slice_index_or, count_by, cond, nat_le, true, false, if◌then◌else◌, arith, ap, sym, refl, ◌∙◌, ⊎_elim, length-append}
use Rattle.std.proofs.Math.ListN.{get_or-append}
use Rattle.std.proofs.Math.Seq.{get_or-append_seam}
use Rattle.std.proofs.lemmas.Bool.{cases_lt, le-leb, lt-leb}
use Rattle.std.proofs.lemmas.List.{get_or_default}
use Rattle.std.proofs.lemmas.List.Elements.{All-push, All-cons, All-nil}
use Rattle.std.proofs.lemmas.List.Kept.{AllPairs-from_increasing}
use Rattle.std.proofs.lemmas.List.Quantifiers.{all_pairs_push}
use Rattle.std.proofs.lemmas.List.Sums.{sum_by_push, count_by-le-length}
use Rattle.piece_table.specs.Pieces.{PieceLists, ArePieces, first_of, told_of, number_at, told_at, one_piece, with_piece}
use Rattle.piece_table.proofs.Ascending.{from-le, count_by-front}

-- a piece of all addresses
pub one_piece_is : (t : Option ℕ) → ArePieces (one_piece t)
one_piece_is t = record { paired = refl; some = omega arith; zero = refl; ascending = λ k within. absurd (omega arith); fit = All-cons (λ f. f < 2 ^ 32) 0 [] (omega arith) (All-nil (λ f. f < 2 ^ 32)) }

pub told_at-one_piece : (x : ℕ) (t : Option ℕ) → told_at (one_piece t) x ≡ t
told_at-one_piece x t =
    let one = ap {B = ℕ} (λ b. cond b 1 0) (le-leb 0 x (omega arith)) in
    let number : number_at (one_piece t) x ≡ 0 = omega (arith, one) in
    ap (told_of (one_piece t)) number

-- all firsts are below one that the last is below
before-lt : (p : PieceLists) (first : ℕ) → ArePieces p → first_of p (length p.firsts - 1) < first → (k : ℕ) (d : ℕ) → k < length p.firsts → slice_index_or p.firsts k d < first
before-lt p first h after k d within =
    let le = from-le p.firsts h.ascending k (length p.firsts - 1) (omega arith) (omega (arith, h.some)) in
    let same = get_or_default p.firsts k d 0 within in
    omega (arith, le, same)

-- a piece after the last one leaves pieces
pub with_piece_is : (p : PieceLists) (first : ℕ) (t : Option ℕ) → ArePieces p → first_of p (length p.firsts - 1) < first → first < 2 ^ 32 → ArePieces (with_piece p first t)
with_piece_is p first t h after fits =
    let firsts = length-append p.firsts (first ∷ []) in
    let pairs = all_pairs_push (λ x y. x < y) p.firsts first (AllPairs-from_increasing p.firsts h.ascending) (before-lt p first h after) in
    record {
      paired = omega (arith, firsts, length-append p.told (t ∷ []), h.paired);
      some = omega (arith, firsts);
      zero = get_or-append p.firsts (first ∷ []) 0 0 h.some ∙ h.zero;
      ascending = λ k within. pairs k (k + 1) 0 (omega arith) within;
      fit = All-push (λ f. f < 2 ^ 32) p.firsts first h.fit fits;
    }

-- it tells of the addresses from its first on, and of the others is told what was
pub told_at-with_piece : (p : PieceLists) (first x : ℕ) (t : Option ℕ) → ArePieces p → first_of p (length p.firsts - 1) < first → told_at (with_piece p first t) x ≡ (if nat_le first x then t else told_at p x)
told_at-with_piece p first x t h after =
    ⊎_elim (λ before. below (lt-leb first x before)) (λ here. above here (le-leb first x here)) (cases_lt x first)
  where
    grown : count_by (λ f. nat_le f x) (p.firsts ++ first ∷ []) ≡ count_by (λ f. nat_le f x) p.firsts + cond (nat_le first x) 1 0
    grown = sum_by_push (λ f. cond (nat_le f x) 1 0) p.firsts first

    above : first ≤ x → nat_le first x ≡ true → told_at (with_piece p first t) x ≡ (if nat_le first x then t else told_at p x)
    above here e =
        let all = count_by-front (λ f. nat_le f x) p.firsts (length p.firsts) (omega arith) (λ i lt. let l = before-lt p first h after i 0 lt in le-leb _ x (omega arith)) (λ i ge lt. absurd (omega arith)) in
        let one = ap {B = ℕ} (λ b. cond b 1 0) e in
        let number : number_at (with_piece p first t) x ≡ length p.told = omega (arith, grown, all, one, h.paired) in
        ap (told_of (with_piece p first t)) number ∙ get_or-append_seam p.told t [] None ∙ sym (ap (λ b. if b then t else told_at p x) e)

    below : nat_le first x ≡ false → told_at (with_piece p first t) x ≡ (if nat_le first x then t else told_at p x)
    below e =
        let none = ap {B = ℕ} (λ b. cond b 1 0) e in
        let some = count_by-le-length (λ f. nat_le f x) p.firsts in
        let number : number_at (with_piece p first t) x ≡ number_at p x = omega (arith, grown, none) in
        let within : number_at p x < length p.told = omega (arith, some, h.paired, h.some) in
        ap (told_of (with_piece p first t)) number ∙ get_or-append p.told (t ∷ []) None (number_at p x) within ∙ sym (ap (λ b. if b then t else told_at p x) e)
