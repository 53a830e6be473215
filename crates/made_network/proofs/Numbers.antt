-- Ids with numbers, and what their differing says of generated rows.
use Rattle.std.proofs.Common.{◌+◌, ◌++◌, ◌<◌, ◌^◌, ◌≡◌, ◌≤◌, ◌∙◌, ◌&&◌, [], List, ap, arith, bytes_eq, codes, decimal, get_or, inl, inr, le-leb, length, length-append, map, nat_le, true, ℕ}
use Rattle.std.specs.List.{list_all}
use Rattle.std.proofs.lemmas.Bool.{and_from, cases_Bool}
use Rattle.std.proofs.lemmas.Fmt.{decimal_injective, decimal_is_IsNumeral, length-decimal-le}
use Rattle.std.proofs.lemmas.List.{append_cancel_left}
use Rattle.std.proofs.lemmas.List.Elements.{All-from_get_or}
use Rattle.std.proofs.lemmas.List.Folds.{list_all-append}
use Rattle.std.proofs.lemmas.List.Sums.{list_all-from_AllPass}
use Rattle.std.proofs.lemmas.Str.Parse.{digit_at}
use Rattle.vpc_base.proofs.Bytes.{bytes_self, same_bytes}
use Rattle.vpc_model.specs.Id.{is_id, is_visible}
use Rattle.vpc_model.specs.Accepted.{duplicates_in}
use Rattle.vpc_model.specs.declared.refusals.Refusal.TheVariants as refusals
use Rattle.made_network.specs.Made.{for_each, numbered}
use Rattle.made_network.proofs.Ranges.{Differ, map-each, repeats-each}

-- ids of one kind are the same only where their numbers are
pub numbered-same : (kind : List ℕ) (j k : ℕ) → j < 2 ^ 64 → k < 2 ^ 64 → bytes_eq (numbered kind j) (numbered kind k) ≡ true → j ≡ k
numbered-same kind j k small short e =
    let whole : numbered kind j ≡ numbered kind k = same_bytes (numbered kind j) (numbered kind k) e in
    let digits = append_cancel_left (codes "-") (decimal j) (decimal k) (append_cancel_left kind (codes "-" ++ decimal j) (codes "-" ++ decimal k) whole) in
    decimal_injective j k small short digits

pub numbered-self : (kind : List ℕ) (k : ℕ) → bytes_eq (numbered kind k) (numbered kind k) ≡ true
numbered-self kind k = bytes_self (numbered kind k)

numbered-differ : (kind : List ℕ) (n : ℕ) → n ≤ 50 → Differ bytes_eq (numbered kind) 1 n
numbered-differ kind n most j k from below to =
    elim (cases_Bool (bytes_eq (numbered kind k) (numbered kind j))) [
      | inl same ↦ absurd (omega (arith, below, numbered-same kind k j (omega (arith, to, most)) (omega (arith, below, to, most)) same))
      | inr other ↦ other
    ]

-- no id stands twice
pub ids-differ : {X : Type 0} (id_of : X → List ℕ) (row : ℕ → X) (kind : List ℕ) (n : ℕ) → n ≤ 50 → ((k : ℕ) → id_of (row k) ≡ numbered kind k) → duplicates_in (map id_of (for_each row n)) ≡ []
ids-differ id_of row kind n most named =
    ap duplicates_in (map-each id_of row (numbered kind) 1 n named) ∙ ap (map refusals.DuplicateId) (repeats-each bytes_eq (numbered kind) 1 n (numbered-differ kind n most))

-- ---- ids are ids

decimal-visible : (n : ℕ) → n < 2 ^ 64 → list_all is_visible (decimal n) ≡ true
decimal-visible n small =
    list_all-from_AllPass is_visible (decimal n) (All-from_get_or (λ c. is_visible c ≡ true) (decimal n) 0 λ i within.
    let digit = digit_at (decimal n) i (decimal_is_IsNumeral n small).0.1 within in
    let c = get_or (decimal n) i 0 in
    and_from (nat_le 33 c) (nat_le c 126) (le-leb 33 c (omega (arith, digit.0))) (le-leb c 126 (omega (arith, digit.1))))

-- a kind of visible characters makes ids
pub numbered-is_id : (kind : List ℕ) (k : ℕ) → list_all is_visible kind ≡ true → length kind ≤ 100 → k < 2 ^ 8 → is_id (numbered kind k) ≡ true
numbered-is_id kind k visible short small =
    let fits : k < 2 ^ 64 = omega (arith, small) in
    let end = codes "-" ++ decimal k in
    let all : list_all is_visible (kind ++ end) ≡ true = list_all-append is_visible kind end ∙ rw (visible, decimal-visible k fits) in
    let long : length (kind ++ end) ≡ length kind + length end = length-append kind end in
    let ended : length end ≡ 1 + length (decimal k) = length-append (codes "-") (decimal k) in
    let digits : length (decimal k) ≤ 3 = length-decimal-le 3 k (omega arith) (omega (arith, small)) fits in
    let count = length (kind ++ end) in
    let rest = list_all is_visible (kind ++ end) in
    and_from (nat_le 1 count) (nat_le count 256 && rest) (le-leb 1 count (omega (arith, long, ended)))
    (and_from (nat_le count 256) rest (le-leb count 256 (omega (arith, long, ended, digits, short))) all)
