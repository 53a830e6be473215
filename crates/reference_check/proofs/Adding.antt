-- What is claimed, by the keys that are taken.
use Rattle.std.proofs.Common.{◌≡◌, ◌∙◌, ◌*◌, ◌+◌, ◌-◌, ◌++◌, ◌<◌, ◌^◌, ◌≤◌, ◌⊎◌, ◌&&◌, ◌||◌, ◌∷◌, [], ℕ, Bool, List, None, Option, Some, ap, arith, bytes_eq, cond, false, inl, inr, nat_le, option_map, refl, subst, sym, true}
use Rattle.std.proofs.lemmas.Bool.{and_from, and_parts, false≢true, le-leb, leb-true, or_cases, or_left, or_right}
use Rattle.std.proofs.lemmas.List.Folds.{list_any-append}
use Rattle.std.proofs.Math.Bool.{or-false}
use Rattle.vpc_base.proofs.Bytes.{bytes_self, same_bytes}
use Rattle.number_tables.specs.Keys as keys
use Rattle.address_sets.specs.declared.sets.Run.{Run}
use Rattle.vpc_model.specs.Accepted.{Claim, clash_with, first_cause, least_shared}
use Rattle.vpc_model.specs.Lookup.{has_vpc, vpc_no}
use Rattle.vpc_model.specs.declared.refusals.Refusal.{Refusal}
use Rattle.vpc_model.specs.declared.refusals.Refusal.TheVariants as refusals
use Rattle.vpc_model.specs.declared.rows.Description.{Description}
use Rattle.reference_check.specs.Claimed.{AreSome, IsLeast, alone, claim_of, is_claimed, is_of}
use Rattle.reference_check.specs.Keys.{key_of, twice}
use Rattle.reference_check.specs.Taken.{AreTaken, IsFree, IsTaken, Takes}
use Rattle.reference_check.specs.Told.{IsTold}
use Rattle.reference_check.proofs.Alone.{clash-alone}
use Rattle.reference_check.proofs.Keyed.{same_id}
use Rattle.reference_check.proofs.Shared.{least-above, shared-is}
use Rattle.reference_check.proofs.Told.{told_none}

-- ---- keys of one VPC

pub key-is : (d : Description) (v : ℕ) (vpc : List ℕ) (a : ℕ) → v ≡ (vpc_no d vpc).0 → keys.key_of v a ≡ key_of d (vpc, a)
key-is d v vpc a numbered = ap (λ (n : ℕ). n * 4294967296 + a) numbered

between : (v n a first last : ℕ) → a < 2 ^ 32 → last < 2 ^ 32 → v * 4294967296 + first ≤ n * 4294967296 + a → n * 4294967296 + a ≤ v * 4294967296 + last → (n ≡ v) × (first ≤ a) × (a ≤ last)
between v n a first last small fits from to =
    let same : n ≡ v = omega arith in
    (same, omega arith, omega arith)

-- a key between two of a VPC is one of that VPC
pub key-between : (d : Description) (v : ℕ) (vpc w : List ℕ) (a first last : ℕ) → v ≡ (vpc_no d vpc).0 → has_vpc d vpc ≡ true → has_vpc d w ≡ true → a < 2 ^ 32 → last < 2 ^ 32
    → keys.key_of v first ≤ key_of d (w, a) → key_of d (w, a) ≤ keys.key_of v last → (w ≡ vpc) × (first ≤ a) × (a ≤ last)
key-between d v vpc w a first last numbered has other small fits from to =
    let parts = between v (vpc_no d w).0 a first last small fits from to in
    (same_id d.vpcs w vpc other has (parts.0 ∙ numbered), parts.1, parts.2)

-- ---- the least address of a run that is claimed

pub key-least : (d : Description) (claims : List Claim) (runs : List (ℕ × ℕ)) (v : ℕ) (vpc : List ℕ) (run : Run) (o : Option ℕ) → v ≡ (vpc_no d vpc).0 → has_vpc d vpc ≡ true
    → run.first ≤ run.last → run.last < 2 ^ 32 → IsLeast (IsTaken runs) (keys.key_of v run.first) (keys.key_of v run.last) o → AreTaken d claims runs
    → option_map (λ k. k - keys.key_of v 0) o ≡ least_shared claims (claim_of vpc run)
key-least d claims runs v vpc run o numbered has some fits least are =
    shared-is claims (claim_of vpc run) (option_map (λ k. k - keys.key_of v 0) o) are.some some
    (least-above (IsTaken runs) (λ a. is_claimed vpc a claims ≡ true) (keys.key_of v 0) run.first run.last o
    (λ k from to taken. are.claimed vpc k has (omega arith) (subst (IsTaken runs) (at k) taken))
    (λ k from to claimed. subst (IsTaken runs) (sym (at k)) (are.taken vpc k has (omega arith) claimed))
    (subst (λ n. IsLeast (IsTaken runs) n (keys.key_of v 0 + run.last) o) (base run.first) (subst (λ n. IsLeast (IsTaken runs) (keys.key_of v run.first) n o) (base run.last) least)))
  where
    base : (k : ℕ) → keys.key_of v k ≡ keys.key_of v 0 + k
    base k = omega arith

    at : (k : ℕ) → keys.key_of v 0 + k ≡ key_of d (vpc, k)
    at k = sym (base k) ∙ key-is d v vpc k numbered

pub least-free : (runs : List (ℕ × ℕ)) (v : ℕ) (run : Run) → IsLeast (IsTaken runs) (keys.key_of v run.first) (keys.key_of v run.last) None → IsFree runs v run
least-free runs v run none a from to taken = none (keys.key_of v a) (omega arith) (omega arith) taken

-- what is told of it
pub clash-some : (bs : List Claim) (c : Claim) (a : ℕ) → Some a ≡ least_shared bs c → clash_with bs c ≡ refusals.DuplicateAddress c.vpc a ∷ []
clash-some bs c a e = ap (λ (o : Option ℕ). elim o as (λ (x : Option ℕ). List Refusal) [ None ↦ [] | Some n ↦ refusals.DuplicateAddress c.vpc n ∷ [] ]) (sym e)

pub clash-none : (bs : List Claim) (c : Claim) → None ≡ least_shared bs c → clash_with bs c ≡ []
clash-none bs c e = ap (λ (o : Option ℕ). elim o as (λ (x : Option ℕ). List Refusal) [ None ↦ [] | Some n ↦ refusals.DuplicateAddress c.vpc n ∷ [] ]) (sym e)

-- ---- one more claim

some-more : (bs : List Claim) (c : Claim) → AreSome bs → c.first ≤ c.last → AreSome (bs ++ c ∷ [])
some-more [] c some other = (other, tt)
some-more (b ∷ bs) c some other = (some.0, some-more bs c some.1 other)

pub taken-more : (d : Description) (claims : List Claim) (old new : List (ℕ × ℕ)) (v : ℕ) (vpc : List ℕ) (run : Run) → v ≡ (vpc_no d vpc).0 → has_vpc d vpc ≡ true
    → run.first ≤ run.last → run.last < 2 ^ 32 → Takes old (keys.key_of v run.first) (keys.key_of v run.last) new → AreTaken d claims old → AreTaken d (claims ++ claim_of vpc run ∷ []) new
taken-more d claims old new v vpc run numbered has some fits takes are = record {
  some = some-more claims (claim_of vpc run) are.some some;
  claimed = λ w a other small taken. joined w a ∙ claim w a other small ((takes (key_of d (w, a))).0 taken);
  taken = λ w a other small claimed. (takes (key_of d (w, a))).1 (found w a other small (or_cases (is_claimed w a claims) (is_of w a (claim_of vpc run)) (sym (joined w a) ∙ claimed)));
}
  where
    joined : (w : List ℕ) (a : ℕ) → is_claimed w a (claims ++ claim_of vpc run ∷ []) ≡ (is_claimed w a claims || is_of w a (claim_of vpc run))
    joined w a = list_any-append (is_of w a) claims (claim_of vpc run ∷ []) ∙ ap (λ b. is_claimed w a claims || b) (or-false (is_of w a (claim_of vpc run)))

    claim : (w : List ℕ) (a : ℕ) → has_vpc d w ≡ true → a < 2 ^ 32 → IsTaken old (key_of d (w, a)) ⊎ ((keys.key_of v run.first ≤ key_of d (w, a)) × (key_of d (w, a) ≤ keys.key_of v run.last))
        → (is_claimed w a claims || is_of w a (claim_of vpc run)) ≡ true
    claim w a other small (inl before) = or_left (is_claimed w a claims) (is_of w a (claim_of vpc run)) (are.claimed w a other small before)
    claim w a other small (inr (from, to)) =
        let parts = key-between d v vpc w a run.first run.last numbered has other small fits from to in
        or_right (is_claimed w a claims) (is_of w a (claim_of vpc run))
        (and_from (bytes_eq vpc w) (nat_le run.first a && nat_le a run.last) (subst (λ i. bytes_eq vpc i ≡ true) (sym parts.0) (bytes_self vpc))
        (and_from (nat_le run.first a) (nat_le a run.last) (le-leb run.first a parts.1) (le-leb a run.last parts.2)))

    found : (w : List ℕ) (a : ℕ) → has_vpc d w ≡ true → a < 2 ^ 32 → (is_claimed w a claims ≡ true) ⊎ (is_of w a (claim_of vpc run) ≡ true)
        → IsTaken old (key_of d (w, a)) ⊎ ((keys.key_of v run.first ≤ key_of d (w, a)) × (key_of d (w, a) ≤ keys.key_of v run.last))
    found w a other small (inl before) = inl (are.taken w a other small before)
    found w a other small (inr here) =
        let parts = and_parts (bytes_eq vpc w) (nat_le run.first a && nat_le a run.last) here in
        let ends = and_parts (nat_le run.first a) (nat_le a run.last) parts.1 in
        let from = leb-true run.first a ends.0 in
        let to = leb-true a run.last ends.1 in
        let same : vpc ≡ w = same_bytes vpc w parts.0 in
        let key : keys.key_of v a ≡ key_of d (w, a) = key-is d v vpc a numbered ∙ ap (λ (i : List ℕ). key_of d (i, a)) same in
        inr (subst (λ n. keys.key_of v run.first ≤ n) key (omega arith), subst (λ n. n ≤ keys.key_of v run.last) key (omega arith))

-- nothing is claimed at first
pub taken-none : (d : Description) (runs : List (ℕ × ℕ)) → runs ≡ [] → AreTaken d [] runs
taken-none d runs none = record {
  some = tt;
  claimed = λ w a other small taken. absurd (nothing (subst (λ rs. IsTaken rs (key_of d (w, a))) none taken));
  taken = λ w a other small claimed. absurd (false≢true claimed);
}
  where
    nothing : {k : ℕ} → IsTaken [] k → ⊥
    nothing (last, first, at, from, to) = absurd (cc)

-- ---- an address beside what is claimed in two lists

either-claimed : (vpc : List ℕ) (a : ℕ) (bs cs : List Claim) → is_claimed vpc a (bs ++ cs) ≡ (is_claimed vpc a bs || is_claimed vpc a cs)
either-claimed vpc a bs cs = list_any-append (is_of vpc a) bs cs

claimed-told : (p : List ℕ × ℕ) (b : Bool) (t : Bool) (cause : Refusal) → (b ≡ true → t ≡ true) → IsTold (first_cause (cond b (twice p ∷ []) [])) cause → IsTold (first_cause (cond t (twice p ∷ []) [])) cause
claimed-told p true t cause implies told = subst (λ u. IsTold (first_cause (cond u (twice p ∷ []) [])) cause) (sym (implies refl)) told
claimed-told p false t cause implies told = told_none (first_cause (cond t (twice p ∷ []) [])) cause told

pub told-before : (bs cs : List Claim) (p : List ℕ × ℕ) (cause : Refusal) → IsTold (first_cause (clash_with bs (alone p))) cause → IsTold (first_cause (clash_with (bs ++ cs) (alone p))) cause
told-before bs cs p cause told =
    let P : List Refusal → Type 0 = λ causes. IsTold (first_cause causes) cause in
    subst P (sym (clash-alone (bs ++ cs) p))
    (claimed-told p (is_claimed p.0 p.1 bs) (is_claimed p.0 p.1 (bs ++ cs)) cause
    (λ here. either-claimed p.0 p.1 bs cs ∙ or_left (is_claimed p.0 p.1 bs) (is_claimed p.0 p.1 cs) here) (subst P (clash-alone bs p) told))

pub told-behind : (bs cs : List Claim) (p : List ℕ × ℕ) (cause : Refusal) → IsTold (first_cause (clash_with cs (alone p))) cause → IsTold (first_cause (clash_with (bs ++ cs) (alone p))) cause
told-behind bs cs p cause told =
    let P : List Refusal → Type 0 = λ causes. IsTold (first_cause causes) cause in
    subst P (sym (clash-alone (bs ++ cs) p))
    (claimed-told p (is_claimed p.0 p.1 cs) (is_claimed p.0 p.1 (bs ++ cs)) cause
    (λ here. either-claimed p.0 p.1 bs cs ∙ or_right (is_claimed p.0 p.1 bs) (is_claimed p.0 p.1 cs) here) (subst P (clash-alone cs p) told))

free-of : (p : List ℕ × ℕ) (b : Bool) → cond b (twice p ∷ []) [] ≡ [] → b ≡ false
free-of p true h = absurd cc
free-of p false h = refl

pub clash-neither : (bs cs : List Claim) (p : List ℕ × ℕ) → clash_with bs (alone p) ≡ [] → clash_with cs (alone p) ≡ [] → clash_with (bs ++ cs) (alone p) ≡ []
clash-neither bs cs p none nor =
    let first = free-of p (is_claimed p.0 p.1 bs) (sym (clash-alone bs p) ∙ none) in
    let second = free-of p (is_claimed p.0 p.1 cs) (sym (clash-alone cs p) ∙ nor) in
    clash-alone (bs ++ cs) p ∙ ap (λ b. cond b (twice p ∷ []) []) (either-claimed p.0 p.1 bs cs ∙ ap (λ b. b || is_claimed p.0 p.1 cs) first ∙ second)

-- ---- runs of keys

-- no key of a free run is taken
pub free-keys : (runs : List (ℕ × ℕ)) (v : ℕ) (run : Run) → IsFree runs v run → (k : ℕ) → keys.key_of v run.first ≤ k → k ≤ keys.key_of v run.last → IsTaken runs k → ⊥
free-keys runs v run free k from to taken =
    let key : k ≡ keys.key_of v (k - keys.key_of v 0) = omega arith in
    free (k - keys.key_of v 0) (omega arith) (omega arith) (subst (IsTaken runs) key taken)

-- what is claimed by other claims of the same addresses
pub taken-same : (d : Description) (cs ds : List Claim) (runs : List (ℕ × ℕ)) → AreSome ds → ((w : List ℕ) (a : ℕ) → is_claimed w a cs ≡ is_claimed w a ds) → AreTaken d cs runs → AreTaken d ds runs
taken-same d cs ds runs some same are = record {
  some = some;
  claimed = λ w a has small taken. sym (same w a) ∙ are.claimed w a has small taken;
  taken = λ w a has small claimed. are.taken w a has small (same w a ∙ claimed);
}

pub some-joined : (bs cs : List Claim) → AreSome bs → AreSome cs → AreSome (bs ++ cs)
some-joined [] cs some other = other
some-joined (b ∷ bs) cs some other = (some.0, some-joined bs cs some.1 other)
