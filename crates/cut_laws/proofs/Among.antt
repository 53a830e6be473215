-- Cuts that are among others.
use Rattle.std.proofs.Common.{◌≡◌, ℕ, ◌⊎◌, inl, inr, Bool, true, false, List, [], ◌∷◌, ◌++◌, refl, sym, ap, ◌∙◌, arith, cond, subst, zero, suc}
use Rattle.std.specs.List.{Contains, filter}
use Rattle.std.specs.Prelude.{nat_le}
use Rattle.std.proofs.lemmas.List.Elements.{Contains-append_left, Contains-append_right, Contains-append_cases}
use Rattle.vpc_base.specs.Cuts.{AreAmong, CutLists, joined_cuts, no_cuts}
use Rattle.vpc_base.proofs.Members.{Contains-filter}
use Rattle.vpc_model.specs.Cuts.{all_cuts, on_sides}

-- each number of the first is one of the second
abbrev pub Within : List ℕ → List ℕ → Type 0
Within a b = (c : ℕ) → Contains a c → Contains b c

pub none_within : (b : List ℕ) → Within [] b
none_within b c (k, below, is) = absurd (omega arith)

pub left_within : (a b : List ℕ) → Within a (a ++ b)
left_within a b c h = Contains-append_left a b c h

pub right_within : (a b : List ℕ) → Within b (a ++ b)
right_within a b c h = Contains-append_right a b c h

pub both_within : (a b d : List ℕ) → Within a d → Within b d → Within (a ++ b) d
both_within a b d first second c h = elim (Contains-append_cases a b c h) [ inl x ↦ first c x | inr y ↦ second c y ]

from_kept : (b : Bool) (x c : ℕ) (xs : List ℕ) → Contains (cond b (x ∷ xs) xs) c → Contains xs c ⊎ ((x ≡ c) × (b ≡ true))
from_kept true x c xs (zero, below, e) = inr (e, refl)
from_kept true x c xs (suc k, below, e) = inl (k, omega arith, e)
from_kept false x c xs h = inl h

in_filter : (p : ℕ → Bool) (xs : List ℕ) (c : ℕ) → Contains (filter p xs) c → Contains xs c × (p c ≡ true)
in_filter p [] c (k, below, e) = absurd (omega arith)
in_filter p (x ∷ xs) c h = elim (from_kept (p x) x c (filter p xs) h) [
  | inl rest ↦ (let k = in_filter p xs c rest in (Contains-append_right (x ∷ []) xs c k.0, k.1))
  | inr first ↦ ((0, omega arith, first.0), ap p (sym first.0) ∙ first.1)
]

filter_within : (p : ℕ → Bool) (a b : List ℕ) → Within a b → Within (filter p a) (filter p b)
filter_within p a b within c h = let k = in_filter p a c h in Contains-filter p b c (within c k.0) k.1

-- ---- all four sides

pub among_itself : (a : CutLists) → AreAmong a a
among_itself a = record { proto = λ c h. h; addr = λ c h. h; p = λ c h. h; q = λ c h. h }

pub among_through : (a b d : CutLists) → AreAmong a b → AreAmong b d → AreAmong a d
among_through a b d first second = record {
  proto = λ c h. second.proto c (first.proto c h);
  addr = λ c h. second.addr c (first.addr c h);
  p = λ c h. second.p c (first.p c h);
  q = λ c h. second.q c (first.q c h);
}

pub none_among : (a : CutLists) → AreAmong no_cuts a
none_among a = record { proto = none_within a.proto; addr = none_within a.addr; p = none_within a.p; q = none_within a.q }

pub left_among : (a b : CutLists) → AreAmong a (joined_cuts a b)
left_among a b = record { proto = left_within a.proto b.proto; addr = left_within a.addr b.addr; p = left_within a.p b.p; q = left_within a.q b.q }

pub right_among : (a b : CutLists) → AreAmong b (joined_cuts a b)
right_among a b = record { proto = right_within a.proto b.proto; addr = right_within a.addr b.addr; p = right_within a.p b.p; q = right_within a.q b.q }

pub both_among : (a b d : CutLists) → AreAmong a d → AreAmong b d → AreAmong (joined_cuts a b) d
both_among a b d first second = record {
  proto = both_within a.proto b.proto d.proto first.proto second.proto;
  addr = both_within a.addr b.addr d.addr first.addr second.addr;
  p = both_within a.p b.p d.p first.p second.p;
  q = both_within a.q b.q d.q first.q second.q;
}

pub on_sides_among : (a b : CutLists) → AreAmong a b → AreAmong (on_sides a) (on_sides b)
on_sides_among a b h = record {
  proto = filter_within (λ x. nat_le x 255) a.proto b.proto h.proto;
  addr = filter_within (λ x. nat_le x 4294967295) a.addr b.addr h.addr;
  p = filter_within (λ x. nat_le x 65535) a.p b.p h.p;
  q = filter_within (λ x. nat_le x 65535) a.q b.q h.q;
}

-- joined cuts side by side
pub joined_among : (a b x y : CutLists) → AreAmong a x → AreAmong b y → AreAmong (joined_cuts a b) (joined_cuts x y)
joined_among a b x y first second =
    both_among a b (joined_cuts x y)
    (among_through a x (joined_cuts x y) first (left_among x y))
    (among_through b y (joined_cuts x y) second (right_among x y))

-- rows whose cuts are among those of other rows and some more
pub all_among : {X : Type 0} (f g : X → CutLists) (more : CutLists) → ((x : X) → AreAmong (f x) (joined_cuts (g x) more)) → (xs : List X) → AreAmong (all_cuts f xs) (joined_cuts (all_cuts g xs) more)
all_among f g more each [] = none_among (joined_cuts no_cuts more)
all_among f g more each (x ∷ xs) =
    let whole : CutLists = joined_cuts (joined_cuts (g x) (all_cuts g xs)) more in
    let rows_in : AreAmong (joined_cuts (g x) (all_cuts g xs)) whole = left_among (joined_cuts (g x) (all_cuts g xs)) more in
    let more_in : AreAmong more whole = right_among (joined_cuts (g x) (all_cuts g xs)) more in
    both_among (f x) (all_cuts f xs) whole
    (among_through (f x) (joined_cuts (g x) more) whole (each x)
    (both_among (g x) more whole (among_through (g x) (joined_cuts (g x) (all_cuts g xs)) whole (left_among (g x) (all_cuts g xs)) rows_in) more_in))
    (among_through (all_cuts f xs) (joined_cuts (all_cuts g xs) more) whole (all_among f g more each xs)
    (both_among (all_cuts g xs) more whole (among_through (all_cuts g xs) (joined_cuts (g x) (all_cuts g xs)) whole (right_among (g x) (all_cuts g xs)) rows_in) more_in))

-- the cuts of one row are among those of all
pub row_among : {X : Type 0} (f : X → CutLists) (xs : List X) (x : X) → Contains xs x → AreAmong (f x) (all_cuts f xs)
row_among f [] x (k, below, e) = absurd (omega arith)
row_among f (y ∷ ys) x (zero, below, e) = subst (λ z. AreAmong (f z) (all_cuts f (y ∷ ys))) e (left_among (f y) (all_cuts f ys))
row_among f (y ∷ ys) x (suc k, below, e) =
    among_through (f x) (all_cuts f ys) (all_cuts f (y ∷ ys)) (row_among f ys x (k, omega arith, e)) (right_among (f y) (all_cuts f ys))

-- rows each of which has its cuts among some
pub rows_among : {X : Type 0} (f : X → CutLists) (cuts : CutLists) (xs : List X) → ((x : X) → Contains xs x → AreAmong (f x) cuts) → AreAmong (all_cuts f xs) cuts
rows_among f cuts [] each = none_among cuts
rows_among f cuts (x ∷ xs) each =
    both_among (f x) (all_cuts f xs) cuts (each x (0, omega arith, refl))
    (rows_among f cuts xs (λ y has. each y (Contains-append_right (x ∷ []) xs y has)))
