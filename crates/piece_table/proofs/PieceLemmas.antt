-- Pieces, and the addresses that they hold.
use Rattle.std.proofs.Common.{◌≡◌, ℕ, ◌≤◌, ◌<◌, ◌+◌, ◌-◌, ◌^◌, inl, inr, length, slice_index_or, arith, ap, sym, subst, ◌∙◌, ⊎_elim, refl}
use Rattle.std.proofs.lemmas.Bool.{cases_lt}
use Rattle.std.proofs.lemmas.List.{get_or_default, get_or_past}
use Rattle.vpc_base.specs.Cuts.{IsSideAligned}
use Rattle.piece_table.specs.Pieces.{PieceLists, ArePieces, LiesIn, first_of, last_of, told_of, number_at, first_at, last_at, told_at}
use Rattle.piece_table.proofs.Ascending.{number-le, count_by-nat_le, last_up_to}

-- there are at most as many pieces as addresses
pub length-firsts-le : (p : PieceLists) → ArePieces p → length p.firsts ≤ 2 ^ 32
length-firsts-le p h =
    let last : length p.firsts - 1 < length p.firsts = omega (arith, h.some) in
    let least = number-le p.firsts h.ascending (length p.firsts - 1) last in
    let below = h.fit (length p.firsts - 1) 0 last in
    omega (arith, h.some)

-- the piece that holds an address begins at or before it, and the next one begins after it
pub number_at_is : (p : PieceLists) (k next x : ℕ) → ArePieces p → next ≡ k + 1 → next ≤ length p.firsts → first_of p k ≤ x → x < slice_index_or p.firsts next (2 ^ 32) → number_at p x ≡ k
number_at_is p k next x h e within from after =
    let c = count_by-nat_le p.firsts k x (2 ^ 32) h.ascending (omega arith) from (subst (λ n. x < slice_index_or p.firsts n (2 ^ 32)) e after) in
    omega arith

-- what is known of the piece where a search ends is so of the piece that holds the address
pub at_number : {X : Type 0} (f : PieceLists → ℕ → X) (p : PieceLists) (k next x : ℕ) (y : X) → ArePieces p → next ≡ k + 1 → next ≤ length p.firsts → first_of p k ≤ x → x < slice_index_or p.firsts next (2 ^ 32) → y ≡ f p k
    → y ≡ f p (number_at p x)
at_number f p k next x y h e within from after is = is ∙ sym (ap (λ m. f p m) (number_at_is p k next x h e within from after))

-- the next piece, or the end of the line, comes after where a piece begins
pub next-gt : (p : PieceLists) (k : ℕ) → ArePieces p → k < length p.firsts → first_of p k < slice_index_or p.firsts (k + 1) (2 ^ 32)
next-gt p k h within =
    ⊎_elim (λ inside. let up = h.ascending k inside in let same = get_or_default p.firsts (k + 1) (2 ^ 32) 0 inside in omega (arith, up, same))
    (λ past. let below = h.fit k 0 within in let end = get_or_past p.firsts (k + 1) (2 ^ 32) past in omega (arith, below, end)) (cases_lt (k + 1) (length p.firsts))

-- an address lies in one piece alone
pub number_at-LiesIn : (p : PieceLists) (k x : ℕ) → ArePieces p → LiesIn p k x → number_at p x ≡ k
number_at-LiesIn p k x h lies =
    let next = next-gt p k h lies.within in
    number_at_is p k (k + 1) x h refl (omega (arith, lies.within)) lies.from (omega (arith, next, lies.upto))

-- and it lies in that one
pub lies_in_its_piece : (p : PieceLists) (x : ℕ) → ArePieces p → x < 2 ^ 32 → LiesIn p (number_at p x) x
lies_in_its_piece p x h fits =
    let end = get_or_past p.firsts (length p.firsts) (2 ^ 32) (omega arith) in
    let l = last_up_to p.firsts x (2 ^ 32) (length p.firsts) (omega (arith, h.zero)) h.some (omega arith) (omega (arith, end)) in
    let lies : LiesIn p l.number x = record { within = l.within; from = l.here; upto = omega (arith, l.after) } in
    subst (λ k. LiesIn p k x) (sym (number_at-LiesIn p l.number x h lies)) lies

-- what a piece tells is told of each of its addresses
pub told_at-LiesIn : (p : PieceLists) (k x : ℕ) → ArePieces p → LiesIn p k x → told_at p x ≡ told_of p k
told_at-LiesIn p k x h lies = ap (told_of p) (number_at-LiesIn p k x h lies)

-- the addresses of the piece that holds x lie in it
pub number_at-found : (p : PieceLists) (x y : ℕ) → ArePieces p → x < 2 ^ 32 → first_at p x ≤ y → y ≤ last_at p x → number_at p y ≡ number_at p x
number_at-found p x y h fits from upto =
    number_at-LiesIn p (number_at p x) y h (let lies = lies_in_its_piece p x h fits in record { within = lies.within; from = from; upto = upto })

pub told_at-found : (p : PieceLists) (x y : ℕ) → ArePieces p → x < 2 ^ 32 → first_at p x ≤ y → y ≤ last_at p x → told_at p y ≡ told_at p x
told_at-found p x y h fits from upto = ap (told_of p) (number_at-found p x y h fits from upto)

-- each piece holds its first and its last address
pub first_of-le : (p : PieceLists) (k : ℕ) → ArePieces p → k < length p.firsts → (first_of p k ≤ last_of p k) × (last_of p k < 2 ^ 32)
first_of-le p k h within =
    let next = next-gt p k h within in
    let bound : slice_index_or p.firsts (k + 1) (2 ^ 32) ≤ 2 ^ 32 =
    ⊎_elim (λ inside. let below = h.fit (k + 1) (2 ^ 32) inside in omega arith) (λ past. let end = get_or_past p.firsts (k + 1) (2 ^ 32) past in omega (arith, end)) (cases_lt (k + 1) (length p.firsts)) in
    (omega arith, omega arith)

-- a piece begins right after the one before it
pub first_of-next : (p : PieceLists) (k : ℕ) → ArePieces p → k + 1 < length p.firsts → first_of p (k + 1) ≡ last_of p k + 1
first_of-next p k h within =
    let next = next-gt p k h (omega arith) in
    let same = get_or_default p.firsts (k + 1) (2 ^ 32) 0 within in
    omega (arith, next, same)

-- the last piece ends at the greatest address
pub last_of-last : (p : PieceLists) → ArePieces p → last_of p (length p.firsts - 1) ≡ 2 ^ 32 - 1
last_of-last p h = let end = get_or_past p.firsts (length p.firsts - 1 + 1) (2 ^ 32) (omega arith) in omega (arith, end)

-- the piece that holds x begins at a first, and ends before one or at the greatest address
pub found_is_aligned : (p : PieceLists) (x : ℕ) → ArePieces p → x < 2 ^ 32 → IsSideAligned p.firsts (first_at p x, last_at p x) (0, 2 ^ 32 - 1)
found_is_aligned p x h fits = by (number_at p x) (lies_in_its_piece p x h fits).within
  where
    by : (k : ℕ) → k < length p.firsts → IsSideAligned p.firsts (first_of p k, last_of p k) (0, 2 ^ 32 - 1)
    by k within =
        record {
          begins = inr (k, within, get_or_default p.firsts k (first_of p k) 0 within);
          ends =
              ⊎_elim (λ inside. let next = first_of-next p k h inside in inr (k + 1, inside, get_or_default p.firsts (k + 1) (last_of p k + 1) 0 inside ∙ next))
              (λ past. let end = get_or_past p.firsts (k + 1) (2 ^ 32) past in inl (ap (λ n. n - 1) end)) (cases_lt (k + 1) (length p.firsts));
        }
