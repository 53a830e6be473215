-- Which headers are in a box, in the common part of two, and in what is left.
use Rattle.std.proofs.Common.{◌≡◌, ℕ, ◌≤◌, ◌+◌, ◌*◌, ◌&&◌, ◌||◌, not, nat_le, nat_lt, Bool, true, false, List, [], ◌∷◌, refl, arith, cond, ap, sym, ◌∙◌, sum_by, max, min}
use Rattle.std.proofs.lemmas.Bool.Decides.{nat_tests}
use Rattle.std.proofs.lemmas.List.Folds.{list_any_at}
use Rattle.std.proofs.lemmas.List.Kept.{AllPairs-cons}
use Rattle.std.proofs.lemmas.List.Sums.{sum_by-cons}
use Rattle.std.specs.Cmp.{first_so, second_so}
use Rattle.std.specs.List.{list_any, count_by, AllPairs}
use Rattle.std.proofs.lemmas.Bool.{and_from}
use Rattle.vpc_base.specs.declared.headers.Header.{Header}
use Rattle.header_boxes.specs.declared.boxes.Box5.{Box5}
use Rattle.header_boxes.specs.Boxes.{in_range, holds, IsValid, IsRangeWithin, IsWithin, AreDisjoint, low_of, common_range, common_box}
use Rattle.header_boxes.specs.Rest.{rest_of}
use Rattle.header_boxes.proofs.Order.{IsUnder}
use Rattle.header_boxes.proofs.Ranges.{one_in, one_in_adds}
use Rattle.header_boxes.proofs.Rests.{Measure, total, sum_by-rest_of}

-- ---- one box

-- a header in a box, side by side
pub record IsIn (h : Header) (b : Box5) : Type 0 where
  pub proto : (b.proto.0 ≤ h.proto) × (h.proto ≤ b.proto.1)
  pub src : (b.src.0 ≤ h.src) × (h.src ≤ b.src.1)
  pub dst : (b.dst.0 ≤ h.dst) × (h.dst ≤ b.dst.1)
  pub p : (b.p.0 ≤ h.p) × (h.p ≤ b.p.1)
  pub q : (b.q.0 ≤ h.q) × (h.q ≤ b.q.1)

pub range_in : (r : ℕ × ℕ) (x : ℕ) → in_range r x ≡ true → (r.0 ≤ x) × (x ≤ r.1)
range_in r x h = let k = first_so (nat_le r.0 x) (nat_le x r.1) h in let l = second_so (nat_le r.0 x) (nat_le x r.1) h in (grind (arith, nat_tests), grind (arith, nat_tests))

pub range_holds : (r : ℕ × ℕ) (x : ℕ) → r.0 ≤ x → x ≤ r.1 → in_range r x ≡ true
range_holds r x h k = grind (arith, nat_tests)

pub in_from_holds : (h : Header) (b : Box5) → holds h b ≡ true → IsIn h b
in_from_holds h b t =
    let r0 = second_so (in_range b.proto h.proto) (in_range b.src h.src && (in_range b.dst h.dst && (in_range b.p h.p && in_range b.q h.q))) t in
    let r1 = second_so (in_range b.src h.src) (in_range b.dst h.dst && (in_range b.p h.p && in_range b.q h.q)) r0 in
    let r2 = second_so (in_range b.dst h.dst) (in_range b.p h.p && in_range b.q h.q) r1 in
    record {
      proto = range_in b.proto h.proto (first_so (in_range b.proto h.proto) (in_range b.src h.src && (in_range b.dst h.dst && (in_range b.p h.p && in_range b.q h.q))) t);
      src = range_in b.src h.src (first_so (in_range b.src h.src) (in_range b.dst h.dst && (in_range b.p h.p && in_range b.q h.q)) r0);
      dst = range_in b.dst h.dst (first_so (in_range b.dst h.dst) (in_range b.p h.p && in_range b.q h.q) r1);
      p = range_in b.p h.p (first_so (in_range b.p h.p) (in_range b.q h.q) r2);
      q = range_in b.q h.q (second_so (in_range b.p h.p) (in_range b.q h.q) r2);
    }

pub holds_from_in : (h : Header) (b : Box5) → IsIn h b → holds h b ≡ true
holds_from_in h b i =
    and_from _ _ (range_holds b.proto h.proto i.proto.0 i.proto.1)
    (and_from _ _ (range_holds b.src h.src i.src.0 i.src.1)
    (and_from _ _ (range_holds b.dst h.dst i.dst.0 i.dst.1)
    (and_from _ _ (range_holds b.p h.p i.p.0 i.p.1) (range_holds b.q h.q i.q.0 i.q.1))))

-- a box that holds a header is valid
pub valid_if_holds : (h : Header) (b : Box5) → holds h b ≡ true → IsValid b
valid_if_holds h b t =
    let i = in_from_holds h b t in
    record { proto = le i.proto; src = le i.src; dst = le i.dst; p = le i.p; q = le i.q }
  where
    le : {x y z : ℕ} → (x ≤ y) × (y ≤ z) → x ≤ z
    le h = omega arith

-- a valid box holds its low corner
pub holds_low : (b : Box5) → IsValid b → holds (low_of b) b ≡ true
holds_low b v = holds_from_in (low_of b) b (record { proto = ends v.proto; src = ends v.src; dst = ends v.dst; p = ends v.p; q = ends v.q })
  where
    ends : {x y : ℕ} → x ≤ y → (x ≤ x) × (x ≤ y)
    ends h = (omega arith, h)

-- the low corner is under each header of the box
pub low_under : (h : Header) (b : Box5) → holds h b ≡ true → IsUnder (low_of b) h
low_under h b t =
    let i = in_from_holds h b t in
    record { proto = i.proto.0; src = i.src.0; dst = i.dst.0; p = i.p.0; q = i.q.0 }

-- what a part holds its whole holds
pub holds_whole : (h : Header) (part whole : Box5) → IsWithin part whole → holds h part ≡ true → holds h whole ≡ true
holds_whole h c w within t =
    let i = in_from_holds h c t in
    holds_from_in h w (record {
      proto = wider within.proto i.proto;
      src = wider within.src i.src;
      dst = wider within.dst i.dst;
      p = wider within.p i.p;
      q = wider within.q i.q;
    })
  where
    wider : {c w : ℕ × ℕ} {x : ℕ} → IsRangeWithin c w → (c.0 ≤ x) × (x ≤ c.1) → (w.0 ≤ x) × (x ≤ w.1)
    wider k i = let a = k.begins in let b = k.ends in (omega arith, omega arith)

pub valid_if_within : (part whole : Box5) → IsWithin part whole → IsValid part
valid_if_within c w k = record { proto = k.proto.valid; src = k.src.valid; dst = k.dst.valid; p = k.p.valid; q = k.q.valid }

range_within_itself : (r : ℕ × ℕ) → r.0 ≤ r.1 → IsRangeWithin r r
range_within_itself r h = record { begins = omega arith; valid = h; ends = omega arith }

pub within_itself : (b : Box5) → IsValid b → IsWithin b b
within_itself b v = record { proto = range_within_itself b.proto v.proto; src = range_within_itself b.src v.src; dst = range_within_itself b.dst v.dst; p = range_within_itself b.p v.p; q = range_within_itself b.q v.q }

range_trans : (a b c : ℕ × ℕ) → IsRangeWithin a b → IsRangeWithin b c → IsRangeWithin a c
range_trans a b c ab bc = record { begins = omega (arith, ab.begins, bc.begins); valid = ab.valid; ends = omega (arith, ab.ends, bc.ends) }

-- a part of a part of the whole is a part of the whole
pub within_trans : (a b c : Box5) → IsWithin a b → IsWithin b c → IsWithin a c
within_trans a b c ab bc = record {
  proto = range_trans a.proto b.proto c.proto ab.proto bc.proto;
  src = range_trans a.src b.src c.src ab.src bc.src;
  dst = range_trans a.dst b.dst c.dst ab.dst bc.dst;
  p = range_trans a.p b.p c.p ab.p bc.p;
  q = range_trans a.q b.q c.q ab.q bc.q;
}

-- ---- the common part of two

in_common_range : (a b : ℕ × ℕ) (x : ℕ) → in_range (common_range a b) x ≡ (in_range a x && in_range b x)
in_common_range a b x = grind (arith, nat_tests)

pairs : (a b x y : Bool) → ((a && b) && (x && y)) ≡ ((a && x) && (b && y))
pairs true b true y = refl
pairs true b false y = and_false b
  where
    and_false : (b : Bool) → (b && false) ≡ false
    and_false true = refl
    and_false false = refl
pairs false b x y = refl

next_pair : (c r a b x y : Bool) → c ≡ (a && b) → r ≡ (x && y) → (c && r) ≡ ((a && x) && (b && y))
next_pair c r a b x y e f = ap (λ v. v && r) e ∙ ap (λ v. (a && b) && v) f ∙ pairs a b x y

-- the common part holds the common headers
pub holds-common_box : (h : Header) (a b : Box5) → holds h (common_box a b) ≡ (holds h a && holds h b)
holds-common_box h a b =
    next_pair _ _ (in_range a.proto h.proto) (in_range b.proto h.proto) _ _ (in_common_range a.proto b.proto h.proto)
    (next_pair _ _ (in_range a.src h.src) (in_range b.src h.src) _ _ (in_common_range a.src b.src h.src)
    (next_pair _ _ (in_range a.dst h.dst) (in_range b.dst h.dst) _ _ (in_common_range a.dst b.dst h.dst)
    (next_pair _ _ (in_range a.p h.p) (in_range b.p h.p) _ _ (in_common_range a.p b.p h.p) (in_common_range a.q b.q h.q))))

common_first : (a b : ℕ × ℕ) → max a.0 b.0 ≤ min a.1 b.1 → IsRangeWithin (common_range a b) a
common_first a b v = record { begins = omega arith; valid = v; ends = omega arith }

common_second : (a b : ℕ × ℕ) → max a.0 b.0 ≤ min a.1 b.1 → IsRangeWithin (common_range a b) b
common_second a b v = record { begins = omega arith; valid = v; ends = omega arith }

-- and lies in both
pub common_within_first : (a b : Box5) → IsValid (common_box a b) → IsWithin (common_box a b) a
common_within_first a b v = record { proto = common_first a.proto b.proto v.proto; src = common_first a.src b.src v.src; dst = common_first a.dst b.dst v.dst; p = common_first a.p b.p v.p; q = common_first a.q b.q v.q }

pub common_within_second : (a b : Box5) → IsValid (common_box a b) → IsWithin (common_box a b) b
common_within_second a b v = record { proto = common_second a.proto b.proto v.proto; src = common_second a.src b.src v.src; dst = common_second a.dst b.dst v.dst; p = common_second a.p b.p v.p; q = common_second a.q b.q v.q }

-- two boxes whose common part has an empty side share no header
pub disjoint_unless_common : (a b : Box5) → (IsValid (common_box a b) → ⊥) → AreDisjoint a b
disjoint_unless_common a b none h s t = none (valid_if_holds h (common_box a b) (holds-common_box h a b ∙ and_from (holds h a) (holds h b) s t))

-- ---- what is left

cond_and : (a b : Bool) → cond a 1 0 * cond b 1 0 ≡ cond (a && b) 1 0
cond_and true b = omega arith
cond_and false b = omega arith

abbrev ones_of : Header → Measure
ones_of h = record { proto = one_in h.proto; src = one_in h.src; dst = one_in h.dst; p = one_in h.p; q = one_in h.q }

next_cond : (a b : Bool) (k : ℕ) → k ≡ cond b 1 0 → cond a 1 0 * k ≡ cond (a && b) 1 0
next_cond a b k e = ap (λ v. cond a 1 0 * v) e ∙ cond_and a b

total_ones : (h : Header) (b : Box5) → total (ones_of h) b ≡ cond (holds h b) 1 0
total_ones h b =
    next_cond (in_range b.proto h.proto) _ _
    (next_cond (in_range b.src h.src) _ _
    (next_cond (in_range b.dst h.dst) _ _ (cond_and (in_range b.p h.p) (in_range b.q h.q))))

sum_by-same : {X : Type 0} (f g : X → ℕ) → ((x : X) → f x ≡ g x) → (xs : List X) → sum_by f xs ≡ sum_by g xs
sum_by-same f g e [] = refl
sum_by-same f g e (x ∷ xs) = sum_by-cons f x xs ∙ ap (λ v. v + sum_by f xs) (e x) ∙ ap (λ v. g x + v) (sum_by-same f g e xs) ∙ sym (sum_by-cons g x xs)

-- a header of the whole is in the part or in one of the boxes that are left, and in one only
pub count_rest : (w c : Box5) → IsWithin c w → (h : Header) → count_by (holds h) (rest_of w c) + cond (holds h c) 1 0 ≡ cond (holds h w) 1 0
count_rest w c within h =
    let s = sum_by-rest_of (ones_of h) (record { proto = one_in_adds h.proto; src = one_in_adds h.src; dst = one_in_adds h.dst; p = one_in_adds h.p; q = one_in_adds h.q }) w c within in
    let e = sum_by-same (total (ones_of h)) (λ b. cond (holds h b) 1 0) (total_ones h) (rest_of w c) in
    let ec = total_ones h c in
    let ew = total_ones h w in
    omega (arith, s, e, ec, ew)

any_from_count : {X : Type 0} (p : X → Bool) (xs : List X) → list_any p xs ≡ nat_lt 0 (count_by p xs)
any_from_count p [] = refl
any_from_count p (x ∷ xs) = one_more (p x) (list_any p xs) (count_by p xs) _ (any_from_count p xs) (sum_by-cons (λ y. cond (p y) 1 0) x xs)
  where
    one_more : (t some : Bool) (n m : ℕ) → some ≡ nat_lt 0 n → m ≡ cond t 1 0 + n → (t || some) ≡ nat_lt 0 m
    one_more true some n m e s = grind (arith, nat_tests)
    one_more false some n m e s = grind (arith, nat_tests)

from_counts : (n : ℕ) (c w : Bool) → n + cond c 1 0 ≡ cond w 1 0 → nat_lt 0 n ≡ (w && not c)
from_counts n true true e = grind (arith, nat_tests)
from_counts n true false e = grind (arith, nat_tests)
from_counts n false true e = grind (arith, nat_tests)
from_counts n false false e = grind (arith, nat_tests)

-- the boxes that are left hold the headers of the whole outside the part
pub any_rest : (w c : Box5) → IsWithin c w → (h : Header) → list_any (holds h) (rest_of w c) ≡ (holds h w && not (holds h c))
any_rest w c within h = any_from_count (holds h) (rest_of w c) ∙ from_counts (count_by (holds h) (rest_of w c)) (holds h c) (holds h w) (count_rest w c within h)

disjoint_if_one : (xs : List Box5) → ((h : Header) → count_by (holds h) xs ≤ 1) → AllPairs AreDisjoint xs
disjoint_if_one [] one = λ i j d lt within. absurd (omega arith)
disjoint_if_one (x ∷ xs) one =
    AllPairs-cons AreDisjoint x xs
    (λ k d at h s t.
    let c = one h in
    let e = sum_by-cons (λ y. cond (holds h y) 1 0) x xs in
    let a : nat_lt 0 (count_by (holds h) xs) ≡ true = sym (any_from_count (holds h) xs) ∙ list_any_at (holds h) xs k d at t in
    grind (arith, nat_tests))
    (disjoint_if_one xs (λ h. let c = one h in let e = sum_by-cons (λ y. cond (holds h y) 1 0) x xs in omega arith))

at_most_one : (n : ℕ) (c w : Bool) → n + cond c 1 0 ≡ cond w 1 0 → n ≤ 1
at_most_one n c true e = omega arith
at_most_one n c false e = omega arith

-- no header is in two of them
pub disjoint_rest : (w c : Box5) → IsWithin c w → AllPairs AreDisjoint (rest_of w c)
disjoint_rest w c within = disjoint_if_one (rest_of w c) (λ h. at_most_one (count_by (holds h) (rest_of w c)) (holds h c) (holds h w) (count_rest w c within h))
